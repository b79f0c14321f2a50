-- Lemmas: AND and OR of a list are computed from those of two truths, by adding one truth at a time.
use Rattle.std.proofs.Common.{◌≡◌, ℕ, ◌<◌, ◌+◌, List, [], ◌∷◌, ◌++◌, Bool, true, false, if◌then◌else◌, ◌||◌, length, take, get_or, map, refl, ap, ◌∙◌}
use Rattle.std.specs.List.{list_any}
use Rattle.std.proofs.lemmas.List.{map_more}
use Rattle.std.proofs.lemmas.List.Folds.{list_any-append}
use Rattle.cpe_rows.specs.Truth.{same_truth, and_of, or_of}
use Rattle.cpe_rows.specs.Evaluation.{joined}
use Rattle.cpe_rows.specs.declared.truth.Truth.{Truth}
use Rattle.cpe_rows.specs.declared.truth.Truth.TheVariants.{True, False, Error, Unknown}
use Rattle.cpe_rows.specs.declared.test.Operator.{Operator}
use Rattle.cpe_rows.specs.declared.test.Operator.TheVariants.{And, Or}

-- the first of three truths that is present, or else the last; each Boolean says whether one of the three is present
abbrev pub pick : Truth → Truth → Bool → Bool → Bool → Truth
pick first last f e u = if f then first else (if e then Error else (if u then Unknown else last))

and-pick : (f e u : Bool) (t : Truth) → pick False True (f || (same_truth False t || false)) (e || (same_truth Error t || false)) (u || (same_truth Unknown t || false)) ≡ and_of (pick False True f e u) t
and-pick true e u t = refl
and-pick false true u True = refl
and-pick false true u False = refl
and-pick false true u Error = refl
and-pick false true u Unknown = refl
and-pick false false true True = refl
and-pick false false true False = refl
and-pick false false true Error = refl
and-pick false false true Unknown = refl
and-pick false false false True = refl
and-pick false false false False = refl
and-pick false false false Error = refl
and-pick false false false Unknown = refl

or-pick : (f e u : Bool) (t : Truth) → pick True False (f || (same_truth True t || false)) (e || (same_truth Error t || false)) (u || (same_truth Unknown t || false)) ≡ or_of (pick True False f e u) t
or-pick true e u t = refl
or-pick false true u True = refl
or-pick false true u False = refl
or-pick false true u Error = refl
or-pick false true u Unknown = refl
or-pick false false true True = refl
or-pick false false true False = refl
or-pick false false true Error = refl
or-pick false false true Unknown = refl
or-pick false false false True = refl
or-pick false false false False = refl
or-pick false false false Error = refl
or-pick false false false Unknown = refl

pub joined-snoc : (operator : Operator) (ts : List Truth) (t : Truth) → joined operator (ts ++ t ∷ []) ≡ joined operator (joined operator ts ∷ (t ∷ []))
joined-snoc And ts t =
    simp list_any-append (and-pick (list_any (same_truth False) ts) (list_any (same_truth Error) ts) (list_any (same_truth Unknown) ts) t)
joined-snoc Or ts t =
    simp list_any-append (or-pick (list_any (same_truth True) ts) (list_any (same_truth Error) ts) (list_any (same_truth Unknown) ts) t)

-- The joined truth with one more child is computed from the truth so far and the truth of the child.
pub joined_more : {A : Type 0} (operator : Operator) (truth : A → Truth) (of : List A) (i : ℕ) (d : A) → i < length of
    → joined operator (map truth (take (i + 1) of)) ≡ joined operator (joined operator (map truth (take i of)) ∷ (truth (get_or of i d) ∷ []))
joined_more operator truth of i d below = ap (joined operator) (map_more truth of i d below) ∙ joined-snoc operator (map truth (take i of)) (truth (get_or of i d))
