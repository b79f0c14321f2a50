-- Lemmas: a text in lower case is a text.
use Rattle.std.proofs.Common.{◌≡◌, ◌≢◌, ℕ, true, List, [], ◌∷◌, map, refl, ap, ◌∙◌, arith}
use Rattle.std.specs.List.{list_all}
use Rattle.std.proofs.lemmas.Bool.{and_parts, and_from}
use Rattle.std.proofs.lemmas.Bool.Decides.{nat_tests}
use Rattle.cpe_values.specs.declared.value.Edge.{Edge}
use Rattle.cpe_values.specs.declared.value.Edge.TheVariants as edge
use Rattle.cpe_values.specs.Parts.{Parts, parts, is_character, IsText}
use Rattle.std.specs.Char.{to_ascii_lowercase}
use Rattle.cpe_values.specs.Lower.{lower_parts}

lower_character : (c : ℕ) → is_character c ≡ true → is_character (to_ascii_lowercase c) ≡ true
lower_character c h = grind (arith, nat_tests)

lower_characters : (b : List ℕ) → list_all is_character b ≡ true → list_all is_character (map to_ascii_lowercase b) ≡ true
lower_characters [] h = refl
lower_characters (c ∷ b) h = let p = and_parts (is_character c) (list_all is_character b) h in and_from _ _ (lower_character c p.0) (lower_characters b p.1)

lower_some : (b : List ℕ) → b ≢ [] → map to_ascii_lowercase b ≢ []
lower_some [] h e = h refl
lower_some (c ∷ b) h e = absurd cc

lower_is_hyphen : (c : ℕ) → to_ascii_lowercase c ≡ 45 → c ≡ 45
lower_is_hyphen c h = grind (arith, nat_tests)

lower_hyphen : (b : List ℕ) → map to_ascii_lowercase b ≡ 45 ∷ [] → b ≡ 45 ∷ []
lower_hyphen [] e = absurd cc
lower_hyphen (c ∷ []) e = let is : to_ascii_lowercase c ≡ 45 = cc in ap (λ (d : ℕ). d ∷ []) (lower_is_hyphen c is)
lower_hyphen (c ∷ d ∷ b) e = absurd cc

pub lower_text : (t : Parts) → IsText t → IsText (lower_parts t)
lower_text t is = record {
  lead = is.lead;
  characters = lower_characters t.body is.characters;
  some = lower_some t.body is.some;
  no_hyphen = λ e.
      let lead : t.lead ≡ edge.None = ap (λ (u : Parts). u.lead) e in
      let trail : t.trail ≡ edge.None = ap (λ (u : Parts). u.trail) e in
      let body : t.body ≡ 45 ∷ [] = lower_hyphen t.body (ap (λ (u : Parts). u.body) e) in
      is.no_hyphen (ap (λ (x : Edge). parts x t.body t.trail) lead ∙ ap (λ (u : List ℕ). parts edge.None u t.trail) body ∙ ap (λ (x : Edge). parts edge.None (45 ∷ []) x) trail);
  trail = is.trail;
}
