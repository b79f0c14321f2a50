-- Lemmas: verdicts don't depend on other statements. So an added or removed statement is the only change.
use Rattle.std.proofs.Common.{◌≡◌, ℕ, ◌+◌, List, [], ◌∷◌, ◌++◌, map, length, Some, None, refl, ap, ◌∙◌, append-nil}
use Rattle.std.specs.Prelude.{position, find}
use Rattle.cpe_rows.specs.Rows.{Rows, has_id}
use Rattle.cpe_rows.specs.Evaluation.{test_truth}
use Rattle.cpe_rows.specs.Verdict.{fact_truth, check_truth, verdict}
use Rattle.cpe_rows.specs.After.{without_first}
use Rattle.cpe_rows.specs.Changes.{change, differing, dropped, others}
use Rattle.cpe_rows.specs.declared.statement.Mode.{Mode}
use Rattle.cpe_rows.specs.declared.statement.Mode.TheVariants.{Plain, Follow}
use Rattle.cpe_rows.specs.declared.statement.Statement.{Statement}
use Rattle.cpe_rows.specs.declared.test.Test.{Test}
use Rattle.cpe_rows.specs.declared.truth.Truth.{Truth}
use Rattle.cpe_rows.specs.declared.truth.Truth.TheVariants.{True, False, Error, Unknown}

pub alone : (rows : Rows) (ss : List Statement) (m : Mode) (t : Test) → test_truth (fact_truth (record rows { statements = ss }) m) (check_truth (record rows { statements = ss })) t ≡ test_truth (fact_truth rows m) (check_truth rows) t
alone rows ss Plain t = refl
alone rows ss Follow t = refl

no_difference : (n : ℕ) (ts : List Truth) → differing n ts ts ≡ []
no_difference n [] = refl
no_difference n (True ∷ ts) = no_difference (n + 1) ts
no_difference n (False ∷ ts) = no_difference (n + 1) ts
no_difference n (Error ∷ ts) = no_difference (n + 1) ts
no_difference n (Unknown ∷ ts) = no_difference (n + 1) ts

no_others : (rows : Rows) (ss these : List Statement) → others rows (record rows { statements = ss }) these ≡ []
no_others rows ss these =
    (λ i. differing 0 (map (verdict rows) these) (map (λ s. alone rows ss s.mode s.test i) these)) ∙ no_difference 0 (map (verdict rows) these)

pub put_alone : (rows : Rows) (s : Statement) → let next : Rows = record rows { statements = rows.statements ++ s ∷ [] } in
    others rows next rows.statements ++ change (length rows.statements) None (Some (verdict next s)) ∷ [] ≡ change (length rows.statements) None (Some (verdict rows s)) ∷ []
put_alone rows s =
    λ i. no_others rows (rows.statements ++ s ∷ []) rows.statements i ++ change (length rows.statements) None (Some (alone rows (rows.statements ++ s ∷ []) s.mode s.test i)) ∷ []

pub dropped_alone : (rows : Rows) (id : List ℕ) → let next : Rows = record rows { statements = without_first (has_id id) rows.statements } in
    let change = dropped rows (position (has_id id) rows.statements) (find (has_id id) rows.statements) in
    change ++ others rows next next.statements ≡ change
dropped_alone rows id =
    let change = dropped rows (position (has_id id) rows.statements) (find (has_id id) rows.statements) in
    ap (λ l. change ++ l) (no_others rows (without_first (has_id id) rows.statements) (without_first (has_id id) rows.statements)) ∙ append-nil change
