-- Lemmas about a function that is applied to each child that is given.
use Rattle.std.proofs.Common.{◌≡◌, List, [], ◌∷◌, Option, Some, None, option_map, map, refl, ap}
use Rattle.cpe_rows.specs.declared.truth.Truth.{Truth}
use Rattle.certificate_check.specs.declared.certificate.Why.TheOpen.{Why-F}
use Rattle.certificate_check.specs.declared.certificate.Why.TheFolds.{map-Why}

abbrev with_child : {Y : Type 0} → Option Y → Why-F Y → Why-F Y
with_child o (Why-F.Logic truth of) = Why-F.Logic truth (o ∷ of)
with_child o (Why-F.Pair truth fact item) = Why-F.Pair truth fact item
with_child o (Why-F.Plain truth) = Why-F.Plain truth

pub mapped : {X Y : Type 0} (f : X → Y) (truth : Truth) (of : List (Option X))
    → map-Why X Y f (Why-F.Logic truth of) ≡ Why-F.Logic truth (map (option_map f) of)
mapped f truth [] = refl
mapped f truth (None ∷ of) = ap (with_child None) (mapped f truth of)
mapped f truth (Some x ∷ of) = ap (with_child (Some (f x))) (mapped f truth of)
