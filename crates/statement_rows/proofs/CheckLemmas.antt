-- Verdicts after one result was set or removed.
use Rattle.std.proofs.Common.{◌≡◌, ◌<◌, ℕ, Bool, true, false, cond, List, [], ◌∷◌, find, map, refl, sym, ap, subst, ◌∙◌}
use Rattle.std.specs.Prelude.{Option, Some, None}
use Rattle.std.specs.Option.{option_map_or}
use Rattle.std.specs.List.{AllByRecursion}
use Rattle.cpe_rows.specs.Rows.{same_key, has_key}
use Rattle.cpe_rows.specs.After.{with_check, without_first}
use Rattle.cpe_rows.proofs.KeyTests.{key_is, other_key}
use Rattle.cpe_rows.specs.declared.truth.Truth.{Truth}
use Rattle.cpe_rows.specs.declared.truth.Truth.TheVariants.{Unknown}
use Rattle.cpe_rows.specs.declared.test.CheckKey.{CheckKey}
use Rattle.check_results.specs.Kept.{kept_truth}
use Rattle.check_results.specs.ticket_list.Rising.{IsRisingBy}
use Rattle.statement_rows.specs.declared.row.Cause.TheVariants.{Check}
use Rattle.statement_rows.specs.declared.row.JudgedRow.{JudgedRow}
use Rattle.statement_rows.specs.Invariant.{IsAlone}
use Rattle.statement_rows.specs.Readings.{FactTruths}
use Rattle.statement_rows.specs.Rows.{asks, at_rows, each_verdict, judge_row, ticket_of, statement_tickets}
use Rattle.statement_rows.specs.State.{StatementRow, judge, view_of, without_verdict}
use Rattle.statement_rows.specs.Tickets.{among}
use Rattle.statement_rows.proofs.ByResultLemmas.{inside, verdict_read}
use Rattle.statement_rows.proofs.RowLemmas.{members}
use Rattle.statement_rows.proofs.StateLemmas.{all_at_rows, all_weaker}
use Rattle.statement_rows.proofs.VerdictLemmas.{check_cover, key_same}

module _ (key k : CheckKey) (apart : same_key key k ≡ false) where
  -- a key that is the edited one isn't another
  not_k : (o : CheckKey) → same_key key o ≡ true → same_key k o ≡ false
  not_k o e = ap (same_key k) (sym (key_is key o e)) ∙ other_key key k apart

  found_with : (t : Truth) (cs : List (CheckKey × Truth)) → find (has_key k) cs ≡ find (has_key k) (with_check key t cs)
  found_with t [] = ap (λ (b : Bool). cond b (Some (key, t)) None) (sym (other_key key k apart))
  found_with t (c ∷ cs) = go (same_key key c.0) refl (found_with t cs) where
    go : (b : Bool) → same_key key c.0 ≡ b → find (has_key k) cs ≡ find (has_key k) (with_check key t cs)
        → find (has_key k) (c ∷ cs) ≡ find (has_key k) (cond b ((c.0, t) ∷ cs) (c ∷ with_check key t cs))
    go true e more = λ i. (ap (λ (b : Bool). cond b (Some c) (find (has_key k) cs)) (not_k c.0 e) ∙ sym (ap (λ (b : Bool). cond b (Some (c.0, t)) (find (has_key k) cs)) (not_k c.0 e))) i
    go false e more = ap (λ (o : Option (CheckKey × Truth)). cond (same_key k c.0) (Some c) o) more

  found_without : (cs : List (CheckKey × Truth)) → find (has_key k) cs ≡ find (has_key k) (without_first (has_key key) cs)
  found_without [] = refl
  found_without (c ∷ cs) = go (same_key key c.0) refl (found_without cs) where
    go : (b : Bool) → same_key key c.0 ≡ b → find (has_key k) cs ≡ find (has_key k) (without_first (has_key key) cs)
        → find (has_key k) (c ∷ cs) ≡ find (has_key k) (cond b cs (c ∷ without_first (has_key key) cs))
    go true e more = ap (λ (b : Bool). cond b (Some c) (find (has_key k) cs)) (not_k c.0 e)
    go false e more = ap (λ (o : Option (CheckKey × Truth)). cond (same_key k c.0) (Some c) o) more

  pub kept_with : (t : Truth) (cs : List (CheckKey × Truth)) → kept_truth cs k ≡ kept_truth (with_check key t cs) k
  kept_with t cs = ap (λ (o : Option (CheckKey × Truth)). option_map_or (λ c. c.1) o Unknown) (found_with t cs)

  pub kept_without : (cs : List (CheckKey × Truth)) → kept_truth cs k ≡ kept_truth (without_first (has_key key) cs) k
  kept_without cs = ap (λ (o : Option (CheckKey × Truth)). option_map_or (λ c. c.1) o Unknown) (found_without cs)

-- the result that was set is kept
pub kept_here : (key : CheckKey) (t : Truth) (cs : List (CheckKey × Truth)) → t ≡ kept_truth (with_check key t cs) key
kept_here key t cs = ap (λ (o : Option (CheckKey × Truth)). option_map_or (λ c. c.1) o Unknown) (sym (there cs).1) where
  there : (cs : List (CheckKey × Truth)) → (k : CheckKey) × (find (has_key key) (with_check key t cs) ≡ Some (k, t))
  there [] = (key, ap (λ (b : Bool). cond b (Some (key, t)) None) (key_same key))
  there (c ∷ cs) = go (same_key key c.0) refl (there cs) where
    go : (b : Bool) → same_key key c.0 ≡ b → (k : CheckKey) × (find (has_key key) (with_check key t cs) ≡ Some (k, t))
        → (k : CheckKey) × (find (has_key key) (cond b ((c.0, t) ∷ cs) (c ∷ with_check key t cs)) ≡ Some (k, t))
    go true e more = (c.0, ap (λ (b : Bool). cond b (Some (c.0, t)) (find (has_key key) cs)) e)
    go false e more = (more.0, ap (λ (b : Bool). cond b (Some c) (find (has_key key) (with_check key t cs))) e ∙ more.1)

-- ---- rows that ask for the check, and others

all_both : {X : Type 0} (P Q : X → Type 0) (xs : List X) → AllByRecursion P xs → AllByRecursion Q xs → AllByRecursion (λ x. P x × Q x) xs
all_both P Q [] h k = tt
all_both P Q (x ∷ xs) h k = ((h.0, k.0), all_both P Q xs h.1 k.1)

all_of : (P : StatementRow → Type 0) (rows : List JudgedRow) → AllByRecursion P (map view_of rows) → AllByRecursion (λ r. P (view_of r)) rows
all_of P [] h = tt
all_of P (r ∷ rows) h = (h.0, all_of P rows h.1)

pub all_of_view : (P : StatementRow → Type 0) (rows : List JudgedRow) → AllByRecursion (λ r. P (view_of r)) rows → AllByRecursion P (map view_of rows)
all_of_view P [] h = tt
all_of_view P (r ∷ rows) h = (h.0, all_of_view P rows h.1)

pub rising_view : (rows : List JudgedRow) → IsRisingBy ticket_of rows → IsRisingBy (λ (j : StatementRow). j.ticket) (map view_of rows)
rising_view [] h = tt
rising_view (r ∷ rows) h = (all_of_view (λ (j : StatementRow). r.ticket < j.ticket) rows h.0, rising_view rows h.1)

-- rows that pass are among the tickets
outside : (p : JudgedRow → Bool) (rows : List JudgedRow) → AllByRecursion (λ r. among (statement_tickets p rows) (ticket_of r) ≡ false → p r ≡ false) rows
outside p rows =
    all_weaker (λ r. p r ≡ true → among (statement_tickets p rows) (ticket_of r) ≡ true) (λ r. among (statement_tickets p rows) (ticket_of r) ≡ false → p r ≡ false)
    (λ r h no_. go r (p r) h no_) rows (members ticket_of p rows)
  where
    go : (r : JudgedRow) (b : Bool) → (b ≡ true → among (statement_tickets p rows) (ticket_of r) ≡ true) → among (statement_tickets p rows) (ticket_of r) ≡ false → b ≡ false
    go r true h no_ = sym (h refl) ∙ no_
    go r false h no_ = refl

module _ (truth : FactTruths) (checks checks1 : List (CheckKey × Truth)) (key : CheckKey) (t : Truth) (kept : t ≡ kept_truth checks1 key)
    (others : (k : CheckKey) → same_key key k ≡ false → kept_truth checks k ≡ kept_truth checks1 k) where
  abbrev IsJudged : List (CheckKey × Truth) → JudgedRow → Type 0
  IsJudged cs r = judge truth cs (view_of r) ≡ view_of r

  judged_here : (r : JudgedRow) → IsAlone r → IsJudged checks r → asks key r ≡ true → IsJudged checks1 (judge_row (Check t) truth checks1 r)
  judged_here r one h asked =
      let each : r.alone ≡ true → r.by_result ≡ each_verdict truth r.numbered.value.statement r.numbered.value.ids.items = λ e.
      sym (ap (λ (j : StatementRow). j.by_result) h) ∙ ap (λ (b : Bool). cond b (each_verdict truth r.numbered.value.statement r.numbered.value.ids.items) r.by_result) (sym one ∙ e) in
      let verdict = sym (verdict_read truth checks1 key t r kept one each asked) in
      λ i. record (view_of (judge_row (Check t) truth checks1 r)) { verdict = verdict i; by_result = (h i).by_result }

  judged_else : (r : JudgedRow) → IsJudged checks r → asks key r ≡ false → IsJudged checks1 r
  judged_else r h unasked =
      let verdict = sym (check_cover truth checks checks1 key others r unasked) ∙ ap (λ (j : StatementRow). j.verdict) h in
      λ i. record (view_of r) { verdict = verdict i; by_result = (h i).by_result }

  pub judged_check : (rows rows1 : List JudgedRow) (ts : List ℕ) → IsRisingBy ticket_of rows → ts ≡ statement_tickets (asks key) rows → AllByRecursion IsAlone rows → rows1 ≡ at_rows ts (judge_row (Check t) truth checks1) rows
      → AllByRecursion (λ j. judge truth checks j ≡ j) (map view_of rows) → AllByRecursion (λ j. judge truth checks1 j ≡ j) (map view_of rows1)
  judged_check rows rows1 ts rising e one are h =
      all_of_view (λ j. judge truth checks1 j ≡ j) rows1
      (subst (AllByRecursion (IsJudged checks1)) (sym (are ∙ ap (λ (us : List ℕ). at_rows us (judge_row (Check t) truth checks1) rows) e))
      (all_at_rows (judge_row (Check t) truth checks1) Given (IsJudged checks1) us (λ r m g. judged_here r g.0.1 g.0.0 (g.1.0 m)) (λ r m g. judged_else r g.0.0 (g.1.1 m)) rows
      (all_both (λ r. IsJudged checks r × IsAlone r) (λ r. (among us (ticket_of r) ≡ true → asks key r ≡ true) × (among us (ticket_of r) ≡ false → asks key r ≡ false)) rows
      (all_both (IsJudged checks) IsAlone rows (all_of (λ j. judge truth checks j ≡ j) rows h) one)
      (all_both (λ r. among us (ticket_of r) ≡ true → asks key r ≡ true) (λ r. among us (ticket_of r) ≡ false → asks key r ≡ false) rows (inside (asks key) rows rising) (outside (asks key) rows)))))
    where
      us : List ℕ
      us = statement_tickets (asks key) rows

      Given : JudgedRow → Type 0
      Given r = (IsJudged checks r × IsAlone r) × ((among us (ticket_of r) ≡ true → asks key r ≡ true) × (among us (ticket_of r) ≡ false → asks key r ≡ false))

pub unjudged-check : (truth : FactTruths) (checks : List (CheckKey × Truth)) (t : Truth) (ts : List ℕ) (rows : List JudgedRow)
    → map without_verdict (map view_of (at_rows ts (judge_row (Check t) truth checks) rows)) ≡ map without_verdict (map view_of rows)
unjudged-check truth checks t ts [] = refl
unjudged-check truth checks t ts (r ∷ rows) = λ i. go (among ts (ticket_of r)) i ∷ unjudged-check truth checks t ts rows i where
  go : (b : Bool) → without_verdict (view_of (cond b (judge_row (Check t) truth checks r) r)) ≡ without_verdict (view_of r)
  go true = refl
  go false = refl
