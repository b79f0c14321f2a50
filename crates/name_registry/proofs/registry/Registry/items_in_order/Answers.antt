use Rattle.std.proofs.Common.{List, filter, sym, ap, subst, ◌∙◌}
use Rattle.std.proofs.lemmas.Result.{IfOk-weaker}
use Rattle.name_index.specs.Elements.{SameElements}
use Rattle.name_index.specs.declared.table.NameId.{NameId}
use Rattle.names_in_order.proofs.ChangeLemmas.{covered_live, passes, passing_names}
use Rattle.fact_laws.specs.Shown.{names_at}
use Rattle.check_results.specs.Slots.{names_in_slots}
use Rattle.check_results.proofs.SlotLemmas.{kept_numbered}
use Rattle.name_registry.specs.Registered.{AreRegistryNames, Registered}
use Rattle.name_registry.proofs.FoundLemmas.{found_numbers}
use Rattle.name_registry.proofs.registry.Registry.items_in_order.Goals as goal

pub returns : goal.returns
returns c =
    let i = c.self.inside in
    let t = i.table in
    let found = c.args.found.now in
    let live = subst (λ (r : Registered). AreRegistryNames r.table found) (sym c.self.view_is) c.requires in
    IfOk-weaker c.names_of.result _ _
    (λ names is test same.
    let there = subst (λ (r : Registered). SameElements (filter test r.items) (names_at r.table found)) (sym c.self.view_is) same in
    let ids = c.in_ok-ids.ensures (passes test t) (found_numbers t c.lawful.ensures i.items.numbers found test c.self.invariant.items live there) in
    is
    ∙ ap (λ (numbers : List NameId). names_in_slots t numbers) (c.deref.ensures.value ∙ ids)
    ∙ kept_numbered t (filter (passes test t) i.items.numbers) (covered_live t i.items.numbers (passes test t) c.self.invariant.items)
    ∙ passing_names test t i.items.numbers
    ∙ ap (λ (r : Registered). filter test r.items) c.self.view_is)
    c.names_of.ensures
