-- Lemmas: the earlier bytes of a list are unchanged if bytes are appended.
use Rattle.std.proofs.Common.{◌≡◌, ℕ, List, [], ◌∷◌, ◌++◌, length, take, refl, ap, ◌∙◌, append_assoc}
use Rattle.std.proofs.Math.Seq.{take-append_seam}

pub kept_append : (a b t : List ℕ) → b ≡ a ++ t → take (length a) b ≡ a
kept_append a b t e = ap (take (length a)) e ∙ take-append_seam a t

pub kept_along : (a b c : List ℕ) → take (length a) b ≡ a → take (length b) c ≡ b → take (length a) c ≡ a
kept_along [] b c h k = refl
kept_along (x ∷ a) [] c h k = absurd cc
kept_along (x ∷ a) (y ∷ b) [] h k = absurd cc
kept_along (x ∷ a) (y ∷ b) (z ∷ c) h k =
    let prefix : take (length a) b ≡ a = cc in
    let whole : take (length b) c ≡ b = cc in
    let head : z ≡ x = cc in
    ap (λ (d : ℕ). d ∷ take (length a) c) head ∙ ap (λ (u : List ℕ). x ∷ u) (kept_along a b c prefix whole)

-- appending two lists one after the other equals appending the joined list
pub put_both : (x y z start tail whole : List ℕ) → y ≡ x ++ start → z ≡ y ++ tail → start ++ tail ≡ whole → z ≡ x ++ whole
put_both x y z start tail whole first second all = second ∙ ap (λ (u : List ℕ). u ++ tail) first ∙ append_assoc x start tail ∙ ap (λ (u : List ℕ). x ++ u) all

pub ruleset keeping = (kept_append, kept_along)
