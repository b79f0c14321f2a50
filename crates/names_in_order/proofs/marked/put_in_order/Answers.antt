use Rattle.std.proofs.Common.{◌≡◌, ◌∙◌, ℕ, List, ap, subst, sym}
use Rattle.std.specs.List.Sorted.{IsPermutation}
use Rattle.std.proofs.lemmas.Result.{IfOk-weaker}
use Rattle.name_index.specs.declared.table.NameId.{NameId}
use Rattle.names_in_order.specs.Marked.{PutsInOrder, numbers_in, standing_at}
use Rattle.names_in_order.proofs.MarkedLemmas.{puts_in_order}
use Rattle.names_in_order.proofs.marked.put_in_order.Goals as goal

pub returns : goal.returns
returns c =
    let slots = c.args.slots.now in
    let found = c.args.found.now in
    let sorted = c.sort_unstable.new.self.items in
    let moved = subst (λ (ks : List ℕ). IsPermutation ks sorted) c.in_ok-kept.ensures c.sort_unstable.ensures.permutation in
    IfOk-weaker c.numbers_at.result
    (λ ids. ids.items ≡ standing_at slots c.deref.result.now)
    (λ ids. PutsInOrder (numbers_in slots) found ids.items)
    (λ ids is. subst (λ (ns : List NameId). PutsInOrder (numbers_in slots) found ns) (sym (is ∙ ap (λ (ks : List ℕ). standing_at slots ks) c.deref.ensures.value)) (puts_in_order slots c.args.places.now c.requires found sorted moved c.sort_unstable.ensures.sorted))
    c.numbers_at.ensures
