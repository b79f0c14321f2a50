use Rattle.std.proofs.Common.{◌+◌, ◌≤◌, drop, get_or, count_by, ap, arith}
use Rattle.name_index.specs.declared.products.Side.TheVariants as side
use Rattle.name_index.specs.declared.table.NameId.{NameId}
use Rattle.name_index.specs.Index.{ids, name_id}
use Rattle.name_index.specs.Table.{kept_at}
use Rattle.level_board.specs.Targets.{Targets, held}
use Rattle.level_board.specs.Board.{target_ids}
use Rattle.fact_laws.specs.Shown.{is_met_on}
use Rattle.fact_boards.specs.Lists.{looks_at}
use Rattle.fact_boards.proofs.Steps.{first_there, first_live, looks_first, asking_next}
use Rattle.fact_boards.proofs.lists.ask.Goals as goal

pub loop-id-preserved : goal.loop-id-preserved
loop-id-preserved g c =
    let names = c.args.table.now in
    let i = c.loop-id.id-index in
    let x : NameId = get_or c.args.numbers.now i (name_id 0) in
    let rest = drop (i + 1) c.args.numbers.now in
    let here = first_there c.args.numbers.now i (name_id 0) c.loop-id-test.true in
    let looked : c.add_probe.new.steps ≤ c.loop-id.steps + 1 + count_by (is_met_on names side.Source (kept_at names x.0).name.product) (ids (target_ids c.loop-id.board)) = c.add_probe.ensures.steps in
    record {
      live = (first_live names x rest (drop i c.args.numbers.now) here c.loop-id.invariant.live).1;
      done = asking_next names c.args.board.now c.loop-id.board c.add_probe.new.self c.args.numbers.now x rest (drop i c.args.numbers.now) here c.loop-id.invariant.done c.add_probe.ensures.changes c.add_probe.ensures.room;
      looked = omega (arith, c.loop-id.invariant.looked, looked, looks_first names side.Source (target_ids c.args.board.now) x rest (drop i c.args.numbers.now) here, ap (λ (ts : Targets). looks_at names side.Source (held ts) x) c.loop-id.invariant.done.stay.target_index);
      rise = omega (arith, c.loop-id.invariant.rise, c.add_probe.ensures.rise);
    }
