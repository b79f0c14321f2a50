-- Which truths were replaced, over several changes.
use Rattle.std.proofs.Common.{◌≡◌, ℕ, Bool, true, false, not, ◌||◌, List, [], refl, sym, ap, ◌∙◌}
use Rattle.std.proofs.Math.Bool.{or-false}
use Rattle.std.proofs.lemmas.Bool.{true≢false}
use Rattle.name_index.specs.declared.table.NameId.{NameId}
use Rattle.cpe_rows.specs.declared.truth.Truth.{Truth}
use Rattle.cpe_rows.specs.declared.truth.Truth.TheVariants.{True, False, Unknown, Error}
use Rattle.fact_rows.specs.Facts.{truth_differs, FactTable, has_end_of_fact, truth_of_fact}
use Rattle.fact_rows.specs.ticket_list.Tickets.{is_empty}
use Rattle.fact_rows.proofs.RefreshLemmas.{differs_not}
use Rattle.facts.specs.Facts.{AreChanges, is_used}
use Rattle.facts.specs.Leads.{ChangesTo, SameUsers}

pub differs_is : (s t : Truth) → truth_differs s t ≡ false → s ≡ t
differs_is True True e = refl
differs_is True False e = absurd (true≢false e)
differs_is True Unknown e = absurd (true≢false e)
differs_is True Error e = absurd (true≢false e)
differs_is False True e = absurd (true≢false e)
differs_is False False e = refl
differs_is False Unknown e = absurd (true≢false e)
differs_is False Error e = absurd (true≢false e)
differs_is Unknown True e = absurd (true≢false e)
differs_is Unknown False e = absurd (true≢false e)
differs_is Unknown Unknown e = refl
differs_is Unknown Error e = absurd (true≢false e)
differs_is Error True e = absurd (true≢false e)
differs_is Error False e = absurd (true≢false e)
differs_is Error Unknown e = absurd (true≢false e)
differs_is Error Error e = refl

or_true : (b : Bool) → (b || true) ≡ true
or_true true = refl
or_true false = refl

pub changes_none : (t : FactTable) (truth : ℕ → Truth) → ChangesTo t t truth
changes_none t truth = record {
  listed = λ q. sym (ap (λ (b : Bool). has_end_of_fact t.changed q || b) (differs_not (truth_of_fact t q)) ∙ or-false (has_end_of_fact t.changed q));
  right = λ q d. absurd (true≢false (sym d ∙ differs_not (truth_of_fact t q)));
}

pub users_none : (t : FactTable) → SameUsers t t
users_none t = record { there = λ q. refl; users = λ q. refl }

pub users_again : (a b c : FactTable) → SameUsers a b → SameUsers b c → SameUsers a c
users_again a b c u v = record { there = λ q. v.there q ∙ u.there q; users = λ q. v.users q ∙ u.users q }

module _ (a b c : FactTable) (truth : ℕ → Truth) (u : ChangesTo a b truth) (v : ChangesTo b c truth) (same : SameUsers b c) where
  listed_both : (q : ℕ) (d : Bool) → truth_differs (truth_of_fact b q) (truth_of_fact c q) ≡ d → has_end_of_fact c.changed q ≡ (has_end_of_fact a.changed q || truth_differs (truth_of_fact a q) (truth_of_fact c q))
  listed_both q false d =
      v.listed q
      ∙ ap (λ (x : Bool). has_end_of_fact b.changed q || x) d
      ∙ or-false (has_end_of_fact b.changed q)
      ∙ u.listed q
      ∙ ap (λ (t : Truth). has_end_of_fact a.changed q || truth_differs (truth_of_fact a q) t) (differs_is (truth_of_fact b q) (truth_of_fact c q) d)
  listed_both q true d = by (truth_differs (truth_of_fact a q) (truth_of_fact b q)) refl
    where
      by : (e : Bool) → truth_differs (truth_of_fact a q) (truth_of_fact b q) ≡ e → has_end_of_fact c.changed q ≡ (has_end_of_fact a.changed q || truth_differs (truth_of_fact a q) (truth_of_fact c q))
      by true e =
          let same_now : truth_of_fact b q ≡ truth_of_fact c q = (u.right q e).1 ∙ sym (v.right q d).1 in
          absurd (true≢false (sym d ∙ ap (λ (t : Truth). truth_differs t (truth_of_fact c q)) same_now ∙ differs_not (truth_of_fact c q)))
      by false e =
          let was = differs_is (truth_of_fact a q) (truth_of_fact b q) e in
          v.listed q
          ∙ ap (λ (x : Bool). x || truth_differs (truth_of_fact b q) (truth_of_fact c q)) (u.listed q ∙ ap (λ (x : Bool). has_end_of_fact a.changed q || x) e ∙ or-false (has_end_of_fact a.changed q))
          ∙ ap (λ (t : Truth). has_end_of_fact a.changed q || truth_differs t (truth_of_fact c q)) (sym was)

  right_both : (q : ℕ) → truth_differs (truth_of_fact a q) (truth_of_fact c q) ≡ true → (d : Bool) → truth_differs (truth_of_fact b q) (truth_of_fact c q) ≡ d → is_used c q ≡ true × (truth_of_fact c q ≡ truth q)
  right_both q h true d = v.right q d
  right_both q h false d =
      let now = differs_is (truth_of_fact b q) (truth_of_fact c q) d in
      let was = u.right q (ap (truth_differs (truth_of_fact a q)) now ∙ h) in
      (ap (λ (us : List ℕ). not (is_empty us)) (same.users q) ∙ was.0, sym now ∙ was.1)

  pub changes_again : ChangesTo a c truth
  changes_again = record { listed = λ q. listed_both q (truth_differs (truth_of_fact b q) (truth_of_fact c q)) refl; right = λ q h. right_both q h (truth_differs (truth_of_fact b q) (truth_of_fact c q)) refl }

-- a later refresh replaces no truth that is right
pub changes_settled : (t cleared mid new : FactTable) (truth : ℕ → Truth) → ((q : ℕ) → truth_of_fact cleared q ≡ truth_of_fact t q) → cleared.changed ≡ [] → ChangesTo cleared mid truth
    → ((q : ℕ) → has_end_of_fact new.changed q ≡ (has_end_of_fact mid.changed q || truth_differs (truth_of_fact mid q) (truth_of_fact new q))) → ((q : ℕ) → is_used mid q ≡ true → truth_of_fact new q ≡ truth q) → AreChanges t new
changes_settled t cleared mid new truth stay none u listed right q = by (truth_differs (truth_of_fact cleared q) (truth_of_fact mid q)) refl ∙ ap (λ (s : Truth). truth_differs s (truth_of_fact new q)) (stay q)
  where
    first : has_end_of_fact mid.changed q ≡ truth_differs (truth_of_fact cleared q) (truth_of_fact mid q)
    first = u.listed q ∙ ap (λ (ids : List NameId). has_end_of_fact ids q || truth_differs (truth_of_fact cleared q) (truth_of_fact mid q)) none

    by : (e : Bool) → truth_differs (truth_of_fact cleared q) (truth_of_fact mid q) ≡ e → has_end_of_fact new.changed q ≡ truth_differs (truth_of_fact cleared q) (truth_of_fact new q)
    by true e =
        let was = u.right q e in
        let same : truth_of_fact mid q ≡ truth_of_fact new q = was.1 ∙ sym (right q was.0) in
        listed q ∙ ap (λ (x : Bool). x || truth_differs (truth_of_fact mid q) (truth_of_fact new q)) (first ∙ e) ∙ sym (ap (truth_differs (truth_of_fact cleared q)) (sym same) ∙ e)
    by false e = listed q ∙ ap (λ (x : Bool). x || truth_differs (truth_of_fact mid q) (truth_of_fact new q)) (first ∙ e) ∙ ap (λ (s : Truth). truth_differs s (truth_of_fact new q)) (sym (differs_is (truth_of_fact cleared q) (truth_of_fact mid q) e))
