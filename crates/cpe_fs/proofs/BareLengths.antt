-- Lemmas: the bare characters at the beginning of a body have one byte each.
use Rattle.std.proofs.Common.{◌≡◌, ℕ, suc, ◌-◌, ◌+◌, ◌≤◌, List, [], ◌∷◌, length, refl, inl, inr, arith}
use Rattle.std.specs.List.{flat_map}
use Rattle.std.proofs.lemmas.Bool.{cases_Bool}
use Rattle.cpe_values.specs.Skipping.{skip_while}
use Rattle.cpe_values.specs.Spelling.{style_character, is_bare}
use Rattle.cpe_values.specs.declared.spelling.Style.{Style}
use Rattle.cpe_values.proofs.SkippingLemmas.{length-skip_while}

lengths : (s : Style) (b : List ℕ) → length (flat_map (style_character s) b) ≡ (length b - length (skip_while (is_bare s) b)) + length (flat_map (style_character s) (skip_while (is_bare s) b))
lengths s [] = refl
lengths s (c ∷ b) =
    elim (cases_Bool (is_bare s c)) [
      | inl bare ↦
          let short : length (skip_while (is_bare s) b) ≤ length b = length-skip_while (is_bare s) b in
          rw bare (omega (arith, short, lengths s b))
      | inr quoted ↦
          let n : suc (length b) - suc (length b) ≡ 0 = omega arith in
          rw (quoted, n, quoted) (omega arith)
    ]

pub bare_lengths : (s : Style) (b : List ℕ) → (length (skip_while (is_bare s) b) ≤ length b) × (length (flat_map (style_character s) b) ≡ (length b - length (skip_while (is_bare s) b)) + length (flat_map (style_character s) (skip_while (is_bare s) b)))
bare_lengths s b = (length-skip_while (is_bare s) b, lengths s b)
