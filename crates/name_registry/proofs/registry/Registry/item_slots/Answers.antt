use Rattle.std.proofs.Common.{◌≡◌, ◌+◌, ◌≤◌, length, ap, subst, ◌∙◌, arith}
use Rattle.std.specs.Prelude.{Option}
use Rattle.std.specs.List.{filter_map}
use Rattle.std.proofs.lemmas.List.{length-map}
use Rattle.cpe_rows.specs.cpe_name.Eleven.{Values}
use Rattle.name_index.specs.declared.table.NameId.{NameId}
use Rattle.name_index.specs.Table.{kept_at}
use Rattle.check_results.proofs.SlotLemmas.{all_slots, slots_named}
use Rattle.check_results.specs.Slots.{slot_name}
use Rattle.name_registry.specs.Registered.{Registered}
use Rattle.name_registry.proofs.registry.Registry.item_slots.Goals as goal

pub returns-clause-names : goal.returns-clause-names
returns-clause-names c =
    let i = c.self.inside in
    let slots = c.slots.result.now in
    ap (filter_map (λ (slot : Option Values). slot)) c.new.ensures
    ∙ slots_named i.table slots
    ∙ all_slots i.table slots i.items.numbers c.slots.ensures.numbers c.self.invariant.items
    ∙ ap (λ (r : Registered). r.items) c.self.view_is

pub returns-clause-dense : goal.returns-clause-dense
returns-clause-dense c =
    let i = c.self.inside in
    let slots = c.slots.result.now in
    let many = length-map i.items.numbers (λ (x : NameId). (kept_at i.table x.0).name) in
    let count : length c.new.result ≡ length slots = ap length c.new.ensures ∙ length-map slots (slot_name i.table) in
    subst (λ (r : Registered). length c.new.result ≤ length r.items + length r.items) c.self.view_is (omega (arith, count, many, c.slots.ensures.dense))
