use Rattle.cpe_rows.specs.Lawful.{IsLawful}
use Rattle.snapshot_bytes.specs.Reading.{name_at}
use Rattle.engine_snapshot.proofs.EditLemmas.{handed_on}
use Rattle.engine_snapshot.proofs.PartsRead.{name_lower}
use Rattle.engine_snapshot.proofs.ReadLemmas.{more_items, steps, unput}
use Rattle.engine_snapshot.proofs.loops.read_items.Goals as goal

pub returns-in_err-put_item-clause-refused : goal.returns-in_err-put_item-clause-refused
returns-in_err-put_item-clause-refused g c =
    handed_on c.from_residual-in_err-put_item.result c.in_err-put_item.field-0.0 _ c.from_residual-in_err-put_item.ensures.1 (unput name_at more_items c.args.count c.loop.counter c.loop.cursor c.loop.invariant IsLawful c.loop-test.true c.in_ok-name.ensures c.in_err-put_item.ensures.refused)

pub loop-preserved : goal.loop-preserved
loop-preserved g c = steps name_at more_items c.args.count c.loop.counter c.loop.cursor c.loop.invariant c.loop-test.true c.in_ok-name.ensures c.in_ok-put_item.ensures.ok

pub put_item-requires : goal.put_item-requires
put_item-requires g c = name_lower c.loop.cursor c.in_ok-name.name c.take.new.cursor c.in_ok-name.ensures
