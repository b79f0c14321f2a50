-- A statement that is added or removed.
use Rattle.std.proofs.Common.{◌≡◌, ℕ, List, [], ◌∷◌, ◌++◌, length, Some, None, refl, ap, ◌∙◌}
use Rattle.std.specs.Prelude.{Option, slice_get}
use Rattle.std.specs.Option.{option_map}
use Rattle.cpe_rows.specs.Changes.{change, dropped}
use Rattle.cpe_rows.specs.Rows.{Rows}
use Rattle.cpe_rows.specs.Verdict.{verdict}
use Rattle.cpe_rows.specs.declared.statement.Statement.{Statement}
use Rattle.cpe_rows.specs.declared.truth.Truth.{Truth}
use Rattle.engine_edits.specs.ChangedVerdicts.{dropped_by, put_by}

pub last_at : {A : Type 0} (xs : List A) (x : A) → slice_get (xs ++ x ∷ []) (length xs) ≡ Some x
last_at [] x = refl
last_at (y ∷ ys) x = last_at ys x

pub dropped_reported : (rows : Rows) (place : Option ℕ) (s : Option Statement) → dropped rows place s ≡ dropped_by place (option_map (verdict rows) s)
dropped_reported rows None None = refl
dropped_reported rows None (Some s) = refl
dropped_reported rows (Some k) None = refl
dropped_reported rows (Some k) (Some s) = refl

-- a new statement has its verdict at the place after all others
pub put_reported : (rows next : Rows) (s : Statement) (place : ℕ) (truth : Option Truth) → place ≡ length rows.statements → next.statements ≡ rows.statements ++ s ∷ []
    → truth ≡ option_map (verdict next) (slice_get next.statements place) → put_by place truth ≡ change (length rows.statements) None (Some (verdict next s)) ∷ []
put_reported rows next s place truth at same is =
    let there = (λ k. slice_get (same k) (at k)) ∙ last_at rows.statements s in
    λ k. put_by (at k) ((is ∙ ap (option_map (verdict next)) there) k)
