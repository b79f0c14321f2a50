use Rattle.cpe_rows.specs.Lawful.{IsLawful}
use Rattle.snapshot_bytes.specs.Reading.{statement_at}
use Rattle.engine_snapshot.proofs.EditLemmas.{handed_on}
use Rattle.engine_snapshot.proofs.ReadLemmas.{more_statements, steps, unput}
use Rattle.engine_snapshot.proofs.loops.read_statements.Goals as goal

pub returns-in_err-put_statement-clause-refused : goal.returns-in_err-put_statement-clause-refused
returns-in_err-put_statement-clause-refused g c =
    handed_on c.from_residual-in_err-put_statement.result c.in_err-put_statement.field-0.0 _ c.from_residual-in_err-put_statement.ensures.1 (unput statement_at more_statements c.args.count c.loop.counter c.loop.cursor c.loop.invariant IsLawful c.loop-test.true c.in_ok-statement.ensures c.in_err-put_statement.ensures.refused)

pub loop-preserved : goal.loop-preserved
loop-preserved g c = steps statement_at more_statements c.args.count c.loop.counter c.loop.cursor c.loop.invariant c.loop-test.true c.in_ok-statement.ensures c.in_ok-put_statement.ensures.ok
