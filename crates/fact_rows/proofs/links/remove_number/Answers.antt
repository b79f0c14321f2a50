use Rattle.fact_rows.proofs.LinkLemmas.{others_left, times_left, times_stay}
use Rattle.std.proofs.Common.{Some, None, List, ◌≡◌, ◌∙◌, sym, ap}
use Rattle.std.specs.List.{position}
use Rattle.std.specs.Prelude.{nat_eq}
use Rattle.name_index.specs.declared.table.NameId.{NameId}
use Rattle.fact_rows.specs.Facts.{has_end_of_fact, times_among}
use Rattle.fact_rows.proofs.links.remove_number.Goals as goal

pub returns-in-Some-clause-others : goal.returns-in-Some-clause-others
returns-in-Some-clause-others c q other =
    let xs = c.args.list.now.items in
    let at : position (λ (x : NameId). nat_eq x.0 c.args.number) xs ≡ Some c.in-Some.place = ap (position (λ (x : NameId). nat_eq x.0 c.args.number)) (sym c.deref.ensures.value) ∙ sym c.place_of.ensures ∙ c.in-Some.is in
    ap (λ (u : List NameId). has_end_of_fact u q) c.swap_remove.ensures.items ∙ others_left xs c.in-Some.place c.args.number c.swap_remove.result at c.swap_remove.ensures.value q other

pub returns-in-Some-clause-times : goal.returns-in-Some-clause-times
returns-in-Some-clause-times c q =
    let xs = c.args.list.now.items in
    let at : position (λ (x : NameId). nat_eq x.0 c.args.number) xs ≡ Some c.in-Some.place = ap (position (λ (x : NameId). nat_eq x.0 c.args.number)) (sym c.deref.ensures.value) ∙ sym c.place_of.ensures ∙ c.in-Some.is in
    ap (λ (u : List NameId). times_among u q) c.swap_remove.ensures.items ∙ times_left xs c.in-Some.place c.args.number c.swap_remove.result at c.swap_remove.ensures.value q

pub returns-in_default-clause-times : goal.returns-in_default-clause-times
returns-in_default-clause-times c =
    let xs = c.args.list.now.items in
    let at : position (λ (x : NameId). nat_eq x.0 c.args.number) xs ≡ None = ap (position (λ (x : NameId). nat_eq x.0 c.args.number)) (sym c.deref.ensures.value) ∙ sym c.place_of.ensures ∙ c.in_default.is in
    times_stay xs c.args.number at
