use Rattle.cpe_rows.specs.Lawful.{IsLawful}
use Rattle.snapshot_bytes.specs.Reading.{result_at}
use Rattle.engine_snapshot.proofs.EditLemmas.{handed_on}
use Rattle.engine_snapshot.proofs.ReadLemmas.{more_results, steps, unput}
use Rattle.engine_snapshot.proofs.loops.read_results.Goals as goal

pub returns-in_err-put_result-clause-refused : goal.returns-in_err-put_result-clause-refused
returns-in_err-put_result-clause-refused g c =
    handed_on c.from_residual-in_err-put_result.result c.in_err-put_result.field-0.0 _ c.from_residual-in_err-put_result.ensures.1 (unput result_at more_results c.args.count c.loop.counter c.loop.cursor c.loop.invariant IsLawful c.loop-test.true c.in_ok-kept.ensures c.in_err-put_result.ensures.refused)

pub loop-preserved : goal.loop-preserved
loop-preserved g c = steps result_at more_results c.args.count c.loop.counter c.loop.cursor c.loop.invariant c.loop-test.true c.in_ok-kept.ensures c.in_ok-put_result.ensures.ok
