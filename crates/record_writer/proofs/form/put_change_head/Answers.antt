use Rattle.record_writer.proofs.form.put_change_head.Goals as goal

pub returns : goal.returns
returns c = (c.in_ok-put_around_name.ensures.0, cc (c.in_ok-put_around_name.ensures.1, c.as_str.ensures, c.date_str.ensures, c.word.ensures, c.kind_word.ensures))
