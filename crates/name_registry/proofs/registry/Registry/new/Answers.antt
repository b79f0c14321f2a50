use Rattle.std.proofs.Common.{[], List, arith, refl, length, slice_get, sym, ap, subst, ◌≡◌, ◌∙◌, ℕ}
use Rattle.std.proofs.lemmas.Option.{none-some}
use Rattle.cpe_rows.specs.Lawful.{IsDictionary}
use Rattle.cpe_rows.specs.declared.entry.Entry.{Entry}
use Rattle.name_index.specs.declared.table.NameId.{NameId}
use Rattle.name_index.specs.Table.{Names}
use Rattle.names_in_order.specs.InOrder.{AreInOrder, names_numbered}
use Rattle.cpe_dictionary.specs.Kept.{entries_in, entries_of, FitsTable, IsDictionaryGraph, Stored}
use Rattle.name_registry.specs.Registered.{AreFitting}
use Rattle.name_registry.proofs.registry.Registry.new.Goals as goal

-- a dictionary without entries fits a table without names
empty_fits : (s : Stored) → s.names.held ≡ [] → s.names.numbers ≡ [] → s.details ≡ [] → s.nodes ≡ [] → AreInOrder [] [] [] → IsDictionary [] → FitsTable [] s
empty_fits s held numbers details nodes order lawful =
    let none : entries_in [] s ≡ [] = λ k. entries_of (names_numbered [] (numbers k)) (details k) in
    let kept : IsDictionaryGraph [] [] = record { lawful = lawful; few = omega arith; numbered = refl } in
    record {
      order = subst (λ (h : List (ℕ × ℕ)). AreInOrder [] h s.names.numbers) (sym held) (subst (AreInOrder [] []) (sym numbers) order);
      even = ap length numbers ∙ sym (ap length details);
      kept = subst (IsDictionaryGraph (entries_in [] s)) (sym nodes) (subst (λ (es : List Entry). IsDictionaryGraph es []) (sym none) kept);
    }

pub invariant_of-result : goal.invariant_of-result
invariant_of-result c =
    let e = c.new-2.ensures in
    let fit : AreFitting [] c.new-2.result c.new-3.result.numbers =
    record {
      entries = empty_fits c.new-2.result e.held e.numbers e.details e.nodes (c.orders_stay.ensures.empty []) c.rows_stay_lawful.ensures.start.dictionary;
      items = λ k x at. absurd (none-some x (sym (ap (λ (xs : List NameId). slice_get xs k) c.new-3.ensures) ∙ at));
    } in
    subst (λ (t : Names). AreFitting t c.new-2.result c.new-3.result.numbers) (sym c.new.ensures) fit
