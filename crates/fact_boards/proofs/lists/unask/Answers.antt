use Rattle.std.proofs.Common.{◌+◌, drop, get_or, ◌∙◌}
use Rattle.name_index.specs.declared.table.NameId.{NameId}
use Rattle.name_index.specs.Index.{name_id}
use Rattle.fact_boards.proofs.Steps.{first_there, first_live, unasking_next}
use Rattle.fact_boards.proofs.lists.unask.Goals as goal

pub loop-id-preserved : goal.loop-id-preserved
loop-id-preserved g c =
    let i = c.loop-id.id-index in
    let x : NameId = get_or c.args.numbers.now i (name_id 0) in
    let rest = drop (i + 1) c.args.numbers.now in
    let here = first_there c.args.numbers.now i (name_id 0) c.loop-id-test.true in
    record {
      live = (first_live c.args.table.now x rest (drop i c.args.numbers.now) here c.loop-id.invariant.live).1;
      done = unasking_next c.args.table.now c.args.board.now c.loop-id.board c.drop_probe.new.self c.args.numbers.now x rest (drop i c.args.numbers.now) here c.loop-id.invariant.done c.requires.asked c.drop_probe.ensures.changes c.drop_probe.ensures.room;
      looked = c.drop_probe.ensures.steps ∙ c.loop-id.invariant.looked;
    }
