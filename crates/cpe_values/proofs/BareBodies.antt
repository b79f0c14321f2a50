-- Lemmas: a bare character is spelled without a backslash. The spelling of a body is its first bare characters
-- unchanged, and then the spelling of the rest.
use Rattle.std.proofs.Common.{◌≡◌, ℕ, suc, ◌-◌, ◌≤◌, List, [], ◌∷◌, ◌++◌, length, take, refl, ap, inl, inr, arith}
use Rattle.std.specs.List.{flat_map}
use Rattle.std.proofs.lemmas.Bool.{cases_Bool}
use Rattle.cpe_values.specs.declared.spelling.Style.{Style}
use Rattle.cpe_values.specs.Skipping.{skip_while}
use Rattle.cpe_values.specs.Spelling.{style_character, is_bare}
use Rattle.cpe_values.proofs.SkippingLemmas.{length-skip_while}

pub bare_bodies : (s : Style) (b : List ℕ) → take (length b - length (skip_while (is_bare s) b)) b ++ flat_map (style_character s) (skip_while (is_bare s) b) ≡ flat_map (style_character s) b
bare_bodies s [] = refl
bare_bodies s (c ∷ b) =
    elim (cases_Bool (is_bare s c)) [
      | inl bare ↦
          let short : length (skip_while (is_bare s) b) ≤ length b = length-skip_while (is_bare s) b in
          let n : suc (length b) - length (skip_while (is_bare s) b) ≡ suc (length b - length (skip_while (is_bare s) b)) = omega (arith, short) in
          rw (bare, n) (ap (λ (u : List ℕ). c ∷ u) (bare_bodies s b))
      | inr quoted ↦
          let n : suc (length b) - suc (length b) ≡ 0 = omega arith in
          rw (quoted, n, quoted) refl
    ]

-- the same for a body that is already cut after its first bare characters
pub cut_bodies : (s : Style) (b start rest : List ℕ) → rest ≡ skip_while (is_bare s) b → start ≡ take (length b - length rest) b → start ++ flat_map (style_character s) rest ≡ flat_map (style_character s) b
cut_bodies s b start rest behind before = rw (before, behind) (bare_bodies s b)
