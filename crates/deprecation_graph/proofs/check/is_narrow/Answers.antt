use Rattle.std.proofs.Common.{◌≡◌, ◌∙◌, ℕ, Bool, List, None, length, ap, sym, arith, true, false, get_or}
use Rattle.std.proofs.lemmas.Bool.{leb-true}
use Rattle.std.specs.Option.{option_copied}
use Rattle.deprecation_graph.specs.Graph.{active_in}
use Rattle.deprecation_graph.proofs.GraphLemmas.{narrow_change}
use Rattle.deprecation_graph.specs.Kept.{nodes_in}
use Rattle.deprecation_graph.proofs.KeptLemmas.{kept_change, same_marks, length-nodes_of}
use Rattle.deprecation_graph.proofs.check.is_narrow.Goals as goal

pub is_active_after-requires : goal.is_active_after-requires
is_active_after-requires c = omega (arith, c.requires.change.node, length-nodes_of c.args.kept.now.active.items c.args.kept.now.next.lists c.requires.kept.next, ap length c.deref.ensures.value)

pub find_ends-requires-clause-closed : goal.find_ends-requires-clause-closed
find_ends-requires-clause-closed c = kept_change c.args.kept.now c.args.change.node (option_copied c.args.change.next) c.requires.kept c.requires.change

pub returns : goal.returns
returns c = λ few.
    let was : active_in (nodes_in c.args.kept.now) c.args.change.node ≡ true =
    ap (λ (f : ℕ → Bool). f c.args.change.node) (same_marks c.args.kept.now None c.requires.kept.next)
    ∙ ap (λ (marks : List Bool). get_or marks c.args.change.node false) (sym c.deref.ensures.value)
    ∙ sym c.is_active_after.ensures ∙ c.if-not-is_active_after.false in
    narrow_change (nodes_in c.args.kept.now) c.args.change.node (option_copied c.args.change.next) c.requires.kept.lawful c.requires.change was
    (let e = ap length c.in_ok-ends.ensures in omega (arith, leb-true c.len.result 1 few))
