-- Rows after a refresh, and after one more.
use Rattle.std.proofs.Common.{◌≡◌, ℕ, ◌||◌, Bool, true, false, cond, List, [], ◌∷◌, ◌++◌, refl, sym, ap, ◌∙◌}
use Rattle.std.specs.Prelude.{nat_eq}
use Rattle.std.specs.List.{AllByRecursion}
use Rattle.std.proofs.lemmas.List.Folds.{list_any-append}
use Rattle.cpe_rows.specs.declared.test.CheckKey.{CheckKey}
use Rattle.cpe_rows.specs.declared.truth.Truth.{Truth}
use Rattle.statement_rows.specs.declared.by_result.ByResult.{ByResult}
use Rattle.statement_rows.specs.ByResult.{asks_one}
use Rattle.statement_rows.specs.Readings.{FactTruths, check_keys}
use Rattle.statement_rows.specs.Rows.{each_verdict, verdict_by}
use Rattle.statement_rows.specs.State.{StatementRow, at_tickets, judge}
use Rattle.statement_rows.specs.Tickets.{among}

module _ (truth : FactTruths) (checks : List (CheckKey × Truth)) where
  judged_twice : (j : StatementRow) → judge truth checks (judge truth checks j) ≡ judge truth checks j
  judged_twice j = go (asks_one (check_keys j.statement.test)) where
    v : Truth
    v = verdict_by truth checks j.statement j.ids

    each : ByResult
    each = each_verdict truth j.statement j.ids

    go : (b : Bool) → record j { verdict = v; by_result = cond b each (cond b each j.by_result) } ≡ record j { verdict = v; by_result = cond b each j.by_result }
    go true = refl
    go false = refl

module _ (truth : FactTruths) (checks : List (CheckKey × Truth)) (ts us : List ℕ) where
  -- a row of the first refresh, and of the second or not
  once_more : (j : StatementRow) (c : Bool) → cond c (judge truth checks (judge truth checks j)) (judge truth checks j) ≡ judge truth checks j
  once_more j true = judged_twice truth checks j
  once_more j false = refl

  either : (j : StatementRow) (b : Bool)
      → cond (among us (cond b (judge truth checks j) j).ticket) (judge truth checks (cond b (judge truth checks j) j)) (cond b (judge truth checks j) j)
      ≡ cond (b || among us j.ticket) (judge truth checks j) j
  either j true = once_more j (among us j.ticket)
  either j false = refl

  pub refreshed_twice : (rows : List StatementRow) → at_tickets us (judge truth checks) (at_tickets ts (judge truth checks) rows) ≡ at_tickets (ts ++ us) (judge truth checks) rows
  refreshed_twice [] = refl
  refreshed_twice (j ∷ rows) =
      let here = either j (among ts j.ticket) ∙ ap (λ (b : Bool). cond b (judge truth checks j) j) (sym (list_any-append (λ x. nat_eq x j.ticket) ts us)) in
      λ i. here i ∷ refreshed_twice rows i

module _ (old new : FactTruths) (checks : List (CheckKey × Truth)) (ts : List ℕ) where
  now_judged : (j : StatementRow) (b : Bool) → judge old checks j ≡ j → (b ≡ false → judge old checks j ≡ judge new checks j)
      → judge new checks (cond b (judge new checks j) j) ≡ cond b (judge new checks j) j
  now_judged j true h same = judged_twice new checks j
  now_judged j false h same = sym (same refl) ∙ h

  pub all_judged : (rows : List StatementRow) → AllByRecursion (λ j. judge old checks j ≡ j) rows → AllByRecursion (λ j. among ts j.ticket ≡ false → judge old checks j ≡ judge new checks j) rows
      → AllByRecursion (λ j. judge new checks j ≡ j) (at_tickets ts (judge new checks) rows)
  all_judged [] h same = tt
  all_judged (j ∷ rows) h same = (now_judged j (among ts j.ticket) h.0 same.0, all_judged rows h.1 same.1)
