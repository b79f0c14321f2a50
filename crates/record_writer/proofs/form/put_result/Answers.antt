use Rattle.record_writer.proofs.form.put_result.Goals as goal

pub returns : goal.returns
returns c = (c.in_ok-put.ensures.0, cc (c.in_ok-put.ensures.1, c.word.ensures, c.as_str.ensures, c.as_str-2.ensures, c.truth_word.ensures, c.as_str-3.ensures))
