-- The facts that a new statement adds, by their numbers.
use Rattle.std.proofs.Common.{◌≡◌, ◌≤◌, ℕ, true, false, not, ◌&&◌, List, Option, Some, None, refl, sym, ap, subst, ◌∙◌, inl, inr}
use Rattle.std.specs.Prelude.{filter, is_some}
use Rattle.std.specs.List.{flat_map}
use Rattle.std.proofs.lemmas.Bool.{and_from, and_parts, cases_Bool, not-true, not_from_false, true≢false}
use Rattle.name_index.specs.declared.table.NameId.{NameId}
use Rattle.name_index.specs.Table.{Names}
use Rattle.cpe_rows.specs.declared.entry.Entry.{Entry}
use Rattle.cpe_rows.specs.declared.statement.Mode.{Mode}
use Rattle.facts.specs.fact_laws.Asked.{leads}
use Rattle.facts.specs.fact_laws.Shown.{names_at, times_in_list}
use Rattle.fact_boards.specs.Kept.{AreFactNames}
use Rattle.facts.specs.fact_rows.Facts.{Fact, fact_at, FactTable, has_end_of_fact, is_fact, leads_of}
use Rattle.facts.specs.Facts.{is_used, LeadsTo}
use Rattle.verdicts.specs.Addition.{AreFresh}
use Rattle.verdicts.proofs.LastLemmas.{all_ends, filtered_ends, leads_named, one_at_most, same_ends}

module _ (t : FactTable) (ids fresh : List NameId) (each : AreFresh t ids fresh) where
  fresh_ends : (q : ℕ) → has_end_of_fact fresh q ≡ (has_end_of_fact ids q && not (is_used t q))
  fresh_ends q = same_ends fresh (filter (λ (x : NameId). not (is_used t x.0)) ids) q (each q) ∙ filtered_ends (λ n. not (is_used t n)) ids q

  pub fresh_own : (q : ℕ) → has_end_of_fact fresh q ≡ true → has_end_of_fact ids q ≡ true
  fresh_own q at = (and_parts (has_end_of_fact ids q) (not (is_used t q)) (sym (fresh_ends q) ∙ at)).0

  pub fresh_unused : (q : ℕ) → has_end_of_fact fresh q ≡ true → is_used t q ≡ false
  fresh_unused q at = not-true (is_used t q) (and_parts (has_end_of_fact ids q) (not (is_used t q)) (sym (fresh_ends q) ∙ at)).1

  pub fresh_whole : (q : ℕ) → has_end_of_fact ids q ≡ true → has_end_of_fact fresh q ≡ false → is_used t q ≡ true
  fresh_whole q at apart = elim (cases_Bool (is_used t q)) [
    | inl used ↦ used
    | inr none ↦ absurd (true≢false (sym (fresh_ends q ∙ and_from (has_end_of_fact ids q) (not (is_used t q)) at (not_from_false (is_used t q) none)) ∙ apart))
  ]

  pub fresh_once : (q : ℕ) → times_in_list q fresh ≤ 1
  fresh_once q = subst (λ (n : ℕ). n ≤ 1) (sym (each q)) (one_at_most (times_in_list q (filter (λ (x : NameId). not (is_used t x.0)) ids)))

  -- if each fact is in use, they are no facts yet
  pub fresh_none : ((q : ℕ) → is_fact t q ≡ true → is_used t q ≡ true) → (q : ℕ) → has_end_of_fact fresh q ≡ true → fact_at t q ≡ None
  fresh_none used q at = by (fact_at t q) refl
    where
      by : (o : Option Fact) → fact_at t q ≡ o → fact_at t q ≡ None
      by None e = e
      by (Some f) e = absurd (true≢false (sym (used q (ap is_some e)) ∙ fresh_unused q at))

pub all_led : (names : Names) (entries : List Entry) (mode : Mode) (t : FactTable) (facts : List NameId) → ((q : ℕ) → has_end_of_fact facts q ≡ true → LeadsTo names entries mode q (leads_of mode t q))
    → AreFactNames names (flat_map (λ (x : NameId). leads_of mode t x.0) facts) × (names_at names (flat_map (λ (x : NameId). leads_of mode t x.0) facts) ≡ flat_map (leads entries mode) (names_at names facts))
all_led names entries mode t facts led = leads_named names entries mode t facts (all_ends (λ q. LeadsTo names entries mode q (leads_of mode t q)) facts led)
