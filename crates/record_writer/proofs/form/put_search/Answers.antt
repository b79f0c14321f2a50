use Rattle.record_writer.proofs.form.put_search.Goals as goal

pub returns : goal.returns
returns c = (c.in_ok-put_around_name.ensures.0, cc (c.in_ok-put_around_name.ensures.1, c.word.ensures))
