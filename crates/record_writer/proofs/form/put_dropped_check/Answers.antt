use Rattle.record_writer.proofs.form.put_dropped_check.Goals as goal

pub returns : goal.returns
returns c = (c.in_ok-put_around_key.ensures.0, cc (c.in_ok-put_around_key.ensures.1, c.word.ensures))
