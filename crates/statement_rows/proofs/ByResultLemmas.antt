-- The verdict of a row by the result of its check, if it asks for that check alone.
use Rattle.std.proofs.Common.{◌≡◌, ℕ, ◌<◌, ◌||◌, Bool, true, false, cond, List, [], ◌∷◌, map, refl, sym, ap, ◌∙◌}
use Rattle.std.specs.List.{AllByRecursion, filter, list_all}
use Rattle.std.proofs.lemmas.Bool.{and_parts}
use Rattle.cpe_rows.specs.Rows.{same_key}
use Rattle.cpe_rows.proofs.KeyTests.{key_is}
use Rattle.cpe_rows.specs.declared.statement.Statement.{Statement}
use Rattle.cpe_rows.specs.declared.truth.Truth.{Truth}
use Rattle.cpe_rows.specs.declared.truth.Truth.TheVariants.{True, False, Error, Unknown}
use Rattle.cpe_rows.specs.declared.test.CheckKey.{CheckKey}
use Rattle.statement_rows.specs.declared.by_result.ByResult.{ByResult}
use Rattle.statement_rows.specs.declared.row.Cause.{Cause}
use Rattle.statement_rows.specs.declared.row.Cause.TheVariants.{Check, Fact}
use Rattle.statement_rows.specs.declared.row.JudgedRow.{JudgedRow}
use Rattle.statement_rows.specs.ByResult.{asks_one, at_result, each_result, truth_with}
use Rattle.statement_rows.specs.Readings.{FactTruths, check_keys, is_asked, truths_of}
use Rattle.statement_rows.specs.Rows.{asks, each_verdict, judge_row, ticket_of, statement_tickets, verdict_after, verdict_now}
use Rattle.statement_rows.specs.Tickets.{among}
use Rattle.check_results.specs.ticket_list.Rising.{IsRisingBy}
use Rattle.check_results.specs.Kept.{kept_truth}
use Rattle.check_results.proofs.ticket_list.RisingLemmas.{all_passing}
use Rattle.statement_rows.proofs.RowLemmas.{lower_differs, higher_differs}
use Rattle.statement_rows.proofs.VerdictLemmas.{reading_agree}

pub each_at : (f : Truth → Truth) (t : Truth) → at_result (each_result f) t ≡ f t
each_at f True = refl
each_at f False = refl
each_at f Error = refl
each_at f Unknown = refl

pub each_same_result : (f g : Truth → Truth) → ((t : Truth) → f t ≡ g t) → each_result f ≡ each_result g
each_same_result f g h = λ i. each_result (λ t. h t i)

-- ---- the only key

all_that : (key : CheckKey) (keys : List CheckKey) → list_all (same_key key) keys ≡ true → (k : CheckKey) → is_asked keys k ≡ true → key ≡ k
all_that key [] h k asked = absurd (let wrong : false ≡ true = asked in cc)
all_that key (x ∷ xs) h k asked =
    let parts = and_parts (same_key key x) (list_all (same_key key) xs) h in
    go (same_key x k) refl asked parts.0 (all_that key xs parts.1 k)
  where
    go : (b : Bool) → same_key x k ≡ b → (b || is_asked xs k) ≡ true → same_key key x ≡ true → (is_asked xs k ≡ true → key ≡ k) → key ≡ k
    go true e asked here more = key_is key x here ∙ key_is x k e
    go false e asked here more = more asked

first_that : (key : CheckKey) (keys : List CheckKey) → list_all (same_key key) keys ≡ true → (k : CheckKey) → is_asked (key ∷ keys) k ≡ true → key ≡ k
first_that key keys h k asked = go (same_key key k) refl asked where
  go : (b : Bool) → same_key key k ≡ b → (b || is_asked keys k) ≡ true → key ≡ k
  go true e asked = key_is key k e
  go false e asked = all_that key keys h k asked

pub only_key : (keys : List CheckKey) (key k : CheckKey) → asks_one keys ≡ true → is_asked keys key ≡ true → is_asked keys k ≡ true → key ≡ k
only_key [] key k h asked too = absurd (let wrong : false ≡ true = h in cc)
only_key (x ∷ xs) key k h asked too = sym (first_that x xs h key asked) ∙ first_that x xs h k too

-- ---- the verdict that is read off a row

pub verdict_read : (truth : FactTruths) (checks : List (CheckKey × Truth)) (key : CheckKey) (t : Truth) (r : JudgedRow) → t ≡ kept_truth checks key
    → r.alone ≡ asks_one (check_keys r.numbered.value.statement.test)
    → (r.alone ≡ true → r.by_result ≡ each_verdict truth r.numbered.value.statement r.numbered.value.ids.items) → asks key r ≡ true
    → verdict_after (Check t) truth checks r ≡ verdict_now truth checks r
verdict_read truth checks key t r kept one each asked = go r.alone refl where
  s : Statement
  s = r.numbered.value.statement

  truths : List Truth
  truths = truths_of truth s.mode r.numbered.value.ids.items

  agree : r.alone ≡ true → (k : CheckKey) → is_asked (check_keys s.test) k ≡ true → t ≡ kept_truth checks k
  agree is k m =
      kept ∙ ap (kept_truth checks) (only_key (check_keys s.test) key k (sym one ∙ is) asked m)

  go : (b : Bool) → r.alone ≡ b → cond b (at_result r.by_result t) (verdict_now truth checks r) ≡ verdict_now truth checks r
  go true e =
      ap (λ (v : ByResult). at_result v t) (each e)
      ∙ (each_at (truth_with s.test truths) t
      ∙ ap (λ (x : Truth × List Truth). x.0) (reading_agree (λ (k : CheckKey). t) (kept_truth checks) s.test (agree e) truths))
  go false e = refl

-- to judge a row again changes nothing
pub again_once_more : (cause : Cause) (truth : FactTruths) (checks : List (CheckKey × Truth)) (r : JudgedRow)
    → judge_row cause truth checks (judge_row cause truth checks r) ≡ judge_row cause truth checks r
again_once_more (Check t) truth checks r = refl
again_once_more Fact truth checks r = go r.alone where
  now : ByResult
  now = each_verdict truth r.numbered.value.statement r.numbered.value.ids.items

  go : (b : Bool) → record r { verdict = verdict_now truth checks r; by_result = cond b now (cond b now r.by_result) }
      ≡ record r { verdict = verdict_now truth checks r; by_result = cond b now r.by_result }
  go true = refl
  go false = refl

-- ---- only those that pass are among the tickets

none_among : (n : ℕ) (ts : List ℕ) → AllByRecursion (λ y. n < y) ts → among ts n ≡ false
none_among n [] h = refl
none_among n (y ∷ ts) h = ap (λ (b : Bool). b || among ts n) (higher_differs n y h.0) ∙ none_among n ts h.1

module _ (p : JudgedRow → Bool) where
  later : (n : ℕ) (ts : List ℕ) (ys : List JudgedRow) → AllByRecursion (λ y. n < ticket_of y) ys → AllByRecursion (λ r. among ts (ticket_of r) ≡ true → p r ≡ true) ys
      → AllByRecursion (λ r. among (n ∷ ts) (ticket_of r) ≡ true → p r ≡ true) ys
  later n ts [] above h = tt
  later n ts (y ∷ ys) above h =
      ((λ m. h.0 (sym (ap (λ (b : Bool). b || among ts (ticket_of y)) (lower_differs n (ticket_of y) above.0)) ∙ m)), later n ts ys above.1 h.1)

  pub inside : (rows : List JudgedRow) → IsRisingBy ticket_of rows → AllByRecursion (λ r. among (statement_tickets p rows) (ticket_of r) ≡ true → p r ≡ true) rows
  inside [] rising = tt
  inside (x ∷ xs) rising = go (p x) refl (inside xs rising.1) where
    go : (b : Bool) → p x ≡ b → AllByRecursion (λ r. among (statement_tickets p xs) (ticket_of r) ≡ true → p r ≡ true) xs
        → AllByRecursion (λ r. among (map ticket_of (cond b (x ∷ filter p xs) (filter p xs))) (ticket_of r) ≡ true → p r ≡ true) (x ∷ xs)
    go true e more = ((λ m. e), later (ticket_of x) (statement_tickets p xs) xs rising.0 more)
    go false e more = (
      (λ m. absurd (let wrong : false ≡ true = sym (none_among (ticket_of x) (statement_tickets p xs) (all_passing ticket_of (ticket_of x) p xs rising.0)) ∙ m in cc)),
      more,
    )
