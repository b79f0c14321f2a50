use Rattle.line_session.proofs.Runs.{Ran-written, Ran-written_fault}
use Rattle.line_session.proofs.written.write_text.Goals as goal

pub returns-in-Ok-clause-ran : goal.returns-in-Ok-clause-ran
returns-in-Ok-clause-ran g c = λ left. Ran-written left _ _ (record { text = c.args.text.now; status = c.args.status }) c.requires c.in-Ok.ensures.ok

pub returns-in-Err-clause-ran : goal.returns-in-Err-clause-ran
returns-in-Err-clause-ran g c = λ left. Ran-written_fault left _ _ (record { text = c.args.text.now; status = c.args.status }) c.in-Err.fault c.from.result c.from.ensures c.write_all.ensures.prefix
