use Rattle.std.proofs.Common.{◌≡◌, ◌+◌, ◌∙◌, ap, sym, length, arith}
use Rattle.std.proofs.lemmas.List.{length_push}
use Rattle.std.specs.Option.{option_map}
use Rattle.list_pool.specs.Pool.{cell_at}
use Rattle.list_pool.specs.declared.CellName.{CellName}
use Rattle.deprecation_graph.proofs.HeadLemmas.{cell_within, read_step, read_end}
use Rattle.deprecation_graph.proofs.lists.read_list.Goals as goal

pub loop-next-preserved : goal.loop-next-preserved
loop-next-preserved c =
    let at = sym c.loop-next.invariant.at ∙ ap (option_map (λ (x : CellName). x.0)) c.in-Some.is in
    let within = cell_within c.args.pool.now.lists c.args.head.0 (length c.loop-next.into.items) c.in-Some.cell.0 at in
    let count : length c.push.new.self.items ≡ length c.loop-next.into.items + 1 = ap length c.in_ok-push.ensures.items ∙ length_push c.loop-next.into.items _ in
    record {
      at = c.next-next.ensures c.args.head.0 (length c.loop-next.into.items) at ∙ ap (cell_at c.args.pool.now.lists c.args.head.0) (sym count);
      few = omega (arith, within, count);
      prefix = read_step c.args.pool.now.lists c.args.head.0 c.value.result c.loop-next.into.items c.push.new.self.items within c.loop-next.invariant.prefix (c.value.ensures c.args.head.0 (length c.loop-next.into.items) at) c.in_ok-push.ensures.items;
    }

pub returns : goal.returns
returns c = read_end c.args.pool.now.lists c.args.head.0 c.loop-next.into.items (sym c.loop-next.invariant.at ∙ ap (option_map (λ (x : CellName). x.0)) c.in_default.is) c.loop-next.invariant.prefix
