use Rattle.std.proofs.Common.{ℕ, ◌+◌, ◌≤◌, List, drop, get_or, count_by, ap, arith}
use Rattle.name_index.specs.declared.products.Side.TheVariants as side
use Rattle.name_index.specs.declared.table.NameId.{NameId}
use Rattle.name_index.specs.Index.{ids, name_id}
use Rattle.name_index.specs.Table.{kept_at}
use Rattle.fact_laws.specs.Shown.{is_met_on}
use Rattle.fact_boards.specs.Lists.{looks_at}
use Rattle.fact_boards.proofs.Steps.{first_there, first_live, looks_first, leaving_next}
use Rattle.fact_boards.proofs.lists.leave.Goals as goal

pub loop-id-preserved : goal.loop-id-preserved
loop-id-preserved g c =
    let numbers = c.args.numbers.now in
    let i = c.loop-id.id-index in
    let x : NameId = get_or numbers i (name_id 0) in
    let here = first_there numbers i (name_id 0) c.loop-id-test.true in
    let looked : c.drop_target.new.steps ≤ c.loop-id.steps + 1 + count_by (is_met_on c.args.table.now side.Target (kept_at c.args.table.now x.0).name.product) (ids c.loop-id.board.probe_ids) = c.drop_target.ensures.steps in
    record {
      live = (first_live c.args.table.now x (drop (i + 1) numbers) (drop i numbers) here c.loop-id.invariant.live).1;
      done = leaving_next c.args.table.now c.args.board.now c.loop-id.board c.drop_target.new.self numbers x (drop (i + 1) numbers) (drop i numbers) here c.loop-id.invariant.done c.requires.there c.drop_target.ensures.changes c.drop_target.ensures.room;
      looked = omega (arith, c.loop-id.invariant.looked, looked, looks_first c.args.table.now side.Target c.args.board.now.probe_ids x (drop (i + 1) numbers) (drop i numbers) here, ap (λ (others : List (ℕ × ℕ)). looks_at c.args.table.now side.Target others x) c.loop-id.invariant.done.stay.probe_ids);
      rise = omega (arith, c.loop-id.invariant.rise, c.drop_target.ensures.rise);
    }
