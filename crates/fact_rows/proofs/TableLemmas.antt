-- Each end of a fact still lists it.
use Rattle.std.proofs.Common.{◌≡◌, ℕ, true, false, List, Option, None, sym, ap, subst, ◌∙◌, inl, inr}
use Rattle.std.proofs.lemmas.Bool.Decides.{eqb_tells}
use Rattle.name_index.specs.declared.table.NameId.{NameId}
use Rattle.fact_rows.specs.Facts.{Fact, FactTable, AreLinkedFacts, ends_of_fact, ends_or_none, fact_at, facts_with_end, has_end_of_fact, IsUnder, KeepsLinks, OthersStay, SameOthers}

module _ (old new : FactTable) where
  pub linked_by : KeepsLinks (facts_with_end old) (facts_with_end new) → ((q : ℕ) → fact_at new q ≡ fact_at old q) → AreLinkedFacts old → AreLinkedFacts new
  linked_by kept stay linked q e at = kept e q (linked q e (ap (λ (o : Option Fact). has_end_of_fact (ends_or_none o) e) (sym (stay q)) ∙ at))

  module _ (fact : ℕ) (stay : OthersStay fact old new) (others : SameOthers fact (facts_with_end old) (facts_with_end new)) where
    pub linked_with : IsUnder (facts_with_end new) fact (ends_of_fact new fact) → AreLinkedFacts old → AreLinkedFacts new
    linked_with own linked q e at = elim (eqb_tells q fact) [
      | inl same ↦ subst (λ (u : ℕ). has_end_of_fact (facts_with_end new e) u ≡ true) (sym same.1) (own e (subst (λ (u : ℕ). has_end_of_fact (ends_of_fact new u) e ≡ true) same.1 at))
      | inr other ↦ others e q other.1 ∙ linked q e (ap (λ (o : Option Fact). has_end_of_fact (ends_or_none o) e) (sym (stay q other.1)) ∙ at)
    ]

    pub linked_gone : fact_at new fact ≡ None → AreLinkedFacts old → AreLinkedFacts new
    linked_gone none = linked_with (λ e at. absurd (let wrong : false ≡ true = ap (λ (o : Option Fact). has_end_of_fact (ends_or_none o) e) (sym none) ∙ at in cc))

    -- its own ends still list it
    pub linked_still : ends_of_fact new fact ≡ ends_of_fact old fact → ((e : ℕ) → has_end_of_fact (ends_of_fact old fact) e ≡ true → facts_with_end new e ≡ facts_with_end old e) → AreLinkedFacts old → AreLinkedFacts new
    linked_still same kept linked = linked_with (λ e at. let own = ap (λ (ends : List NameId). has_end_of_fact ends e) (sym same) ∙ at in ap (λ (xs : List NameId). has_end_of_fact xs fact) (kept e own) ∙ linked fact e own) linked

    -- these are its ends
    pub linked_led : (own : List NameId) → ends_of_fact new fact ≡ own → ((e : ℕ) → has_end_of_fact own e ≡ true → facts_with_end new e ≡ facts_with_end old e) → AreLinkedFacts old → IsUnder (facts_with_end old) fact own → AreLinkedFacts new
    linked_led own is same linked under =
        linked_with (λ e at. let here = ap (λ (ends : List NameId). has_end_of_fact ends e) (sym is) ∙ at in ap (λ (xs : List NameId). has_end_of_fact xs fact) (same e here) ∙ under e here) linked

    pub linked_put : (own : List NameId) → ends_of_fact new fact ≡ own → IsUnder (facts_with_end new) fact own → AreLinkedFacts old → AreLinkedFacts new
    linked_put own is under = linked_with (λ e at. under e (ap (λ (ends : List NameId). has_end_of_fact ends e) (sym is) ∙ at))
