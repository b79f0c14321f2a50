-- Lemmas: the tests of the texts of parts and of languages accept exactly these texts.
use Rattle.std.proofs.Common.{◌≡◌, ℕ, Bool, true, false, ◌&&◌, ◌||◌, eqb, IsTrue, List, [], ◌∷◌, ◌++◌, refl, sym, ap, ◌∙◌, inl, inr, arith}
use Rattle.std.specs.List.{list_all}
use Rattle.std.proofs.lemmas.List.{append-nil}
use Rattle.std.proofs.lemmas.Bool.{eqb-true, and_parts, and_from, or_cases, or_left, or_right, both_ways}
use Rattle.std.proofs.lemmas.Bool.Decides.{nat_tests}
use Rattle.cpe_values.specs.declared.value.Edge.{Edge}
use Rattle.cpe_values.specs.declared.value.Edge.TheVariants as edge
use Rattle.cpe_values.specs.declared.value.Value.{Value}
use Rattle.cpe_values.specs.declared.value.Value.TheVariants as value
use Rattle.cpe_values.specs.declared.spelling.Style.TheVariants as style
use Rattle.cpe_values.specs.Parts.{Parts, parts, IsText, is_character, is_nothing}
use Rattle.cpe_values.specs.Spelling.{is_bare, is_letter, is_digit}
use Rattle.cpe_values.specs.Values.{IsValue}
use Rattle.cpe_name.specs.Shapes.{is_part, is_part_letter, is_part_body, is_language, is_language_body, is_region}
use Rattle.cpe_name.specs.Text.{value_text}
use Rattle.cpe_name.specs.Scanning.{is_part_in_quotes, is_part_text, is_region_behind, is_language_in_quotes, is_language_text}
use Rattle.cpe_values.proofs.Bytes.{bare_character}
use Rattle.cpe_name.proofs.QuotedTexts.{body_text}
use Rattle.cpe_name.proofs.Tags.{CodeCase, letters, digits, RegionCase, none, behind, region_case}

-- ---- texts without specials

-- the value without specials that has this body
abbrev pub plain : List ℕ → Value
plain b = value.Text (parts edge.None b edge.None)

-- the bytes are the text of a value without specials whose body passes the test
record Plain (passes : List ℕ → Bool) (u : List ℕ) : Type 0 where
  body : List ℕ
  characters : list_all is_character body ≡ true
  good : passes body ≡ true
  is : u ≡ body_text body ++ 34 ∷ []

-- a body that passes the test makes a text without specials, if the test fails on an empty body and on one hyphen
pub plain_text : (passes : List ℕ → Bool) (b : List ℕ) → passes [] ≡ false → passes (45 ∷ []) ≡ false → list_all is_character b ≡ true → passes b ≡ true → IsText (parts edge.None b edge.None)
plain_text passes b empty hyphen characters h = record {
  lead = tt;
  characters = characters;
  some = λ e. both_ways _ (ap passes e ∙ empty) h;
  no_hyphen = λ e. both_ways _ (ap (λ (t : Parts). passes t.body) e ∙ hyphen) h;
  trail = tt;
}

-- a text without specials has an empty lead and an empty trail
pub plain_parts : (t : Parts) (b : Bool) → is_nothing t.lead && is_nothing t.trail && b ≡ true → (t ≡ parts edge.None t.body edge.None) × (b ≡ true)
plain_parts t b h =
    let p = and_parts (is_nothing t.lead && is_nothing t.trail) b h in
    let q = and_parts (is_nothing t.lead) (is_nothing t.trail) p.0 in
    (ap (λ (e : Edge). parts e t.body t.trail) (is_none t.lead q.0) ∙ ap (λ (e : Edge). parts edge.None t.body e) (is_none t.trail q.1), p.1) where
      is_none : (e : Edge) → is_nothing e ≡ true → e ≡ edge.None
      is_none edge.None h = refl
      is_none edge.Star h = absurd cc
      is_none (edge.Marks n) h = absurd cc

-- ---- bytes

part_letter_bare : (c : ℕ) → is_part_letter c ≡ true → is_bare style.Wfn c ≡ true
part_letter_bare c h = grind (arith, nat_tests)

letter_bare : (c : ℕ) → is_letter c ≡ true → is_bare style.Wfn c ≡ true
letter_bare c h = grind (arith, nat_tests)

digit_bare : (c : ℕ) → is_digit c ≡ true → is_bare style.Wfn c ≡ true
digit_bare c h = grind (arith, nat_tests)

letter_character : (c : ℕ) → is_letter c ≡ true → is_character c ≡ true
letter_character c h = bare_character style.Wfn c (letter_bare c h)

digit_character : (c : ℕ) → is_digit c ≡ true → is_character c ≡ true
digit_character c h = bare_character style.Wfn c (digit_bare c h)

-- ---- values of a part

part_behind : (u : List ℕ) → is_part_in_quotes u ≡ true → Plain is_part_body u
part_behind [] h = absurd cc
part_behind (c ∷ []) h = absurd cc
part_behind (c ∷ q ∷ d ∷ u) h = absurd cc
part_behind (c ∷ q ∷ []) h =
    let p = and_parts (is_part_letter c) (eqb q 34) h in
    let bare = part_letter_bare c p.0 in
    record { body = c ∷ []; characters = and_from _ _ (bare_character style.Wfn c bare) refl; good = p.0; is = rw bare (ap (λ (z : ℕ). c ∷ z ∷ []) (eqb-true q 34 p.1)) }

-- a text between quotes that passes the test is the text of a part
pub part_from : (u : List ℕ) → is_part_in_quotes u ≡ true → (v : Value) × (IsValue v × IsTrue (is_part v)) × (34 ∷ u ≡ value_text v)
part_from u h =
    let p = part_behind u h in
    (plain p.body, (plain_text is_part_body p.body refl refl p.characters p.good, p.good), ap (λ (w : List ℕ). 34 ∷ w) (p.is ∙ ap (λ (w : List ℕ). w ++ 34 ∷ []) (sym (append-nil (body_text p.body)))))

part_body_passes : (b : List ℕ) → is_part_body b ≡ true → is_part_text (value_text (plain b)) ≡ true
part_body_passes [] h = absurd cc
part_body_passes (c ∷ d ∷ b) h = absurd cc
part_body_passes (c ∷ []) h = rw (part_letter_bare c h, h) refl

-- the text of each part passes the test
pub part_passes : (v : Value) → is_part v ≡ true → is_part_text (value_text v) ≡ true
part_passes value.Any h = refl
part_passes value.Na h = refl
part_passes (value.Text t) h =
    let p = plain_parts t (is_part_body t.body) h in
    ap (λ (x : Parts). is_part_text (value_text (value.Text x))) p.0 ∙ part_body_passes t.body p.1

-- ---- values of a language

region_behind : (u : List ℕ) → is_region_behind u ≡ true → Plain is_region u
region_behind [] h = absurd cc
region_behind (q ∷ []) h = record { body = []; characters = refl; good = refl; is = ap (λ (z : ℕ). z ∷ []) (eqb-true q 34 h) }
region_behind (s ∷ h ∷ []) e = absurd cc
region_behind (s ∷ h ∷ a ∷ []) e = absurd cc
region_behind (s ∷ h ∷ a ∷ b ∷ []) e = absurd cc
region_behind (s ∷ h ∷ a ∷ b ∷ q ∷ []) e =
    let p = and_parts (eqb s 92 && eqb h 45 && is_letter a && is_letter b) (eqb q 34) e in
    let r = and_parts (eqb s 92 && eqb h 45 && is_letter a) (is_letter b) p.0 in
    let t = and_parts (eqb s 92 && eqb h 45) (is_letter a) r.0 in
    let v = and_parts (eqb s 92) (eqb h 45) t.0 in
    record {
      body = 45 ∷ a ∷ b ∷ [];
      characters = and_from _ _ (letter_character a t.1) (and_from _ _ (letter_character b r.1) refl);
      good = and_from _ _ t.1 r.1;
      is = rw (letter_bare a t.1, letter_bare b r.1, eqb-true s 92 v.0, eqb-true h 45 v.1, eqb-true q 34 p.1) refl;
    }
region_behind (s ∷ h ∷ a ∷ b ∷ c ∷ q ∷ []) e =
    let p = and_parts (eqb s 92 && eqb h 45 && is_digit a && is_digit b && is_digit c) (eqb q 34) e in
    let w = and_parts (eqb s 92 && eqb h 45 && is_digit a && is_digit b) (is_digit c) p.0 in
    let r = and_parts (eqb s 92 && eqb h 45 && is_digit a) (is_digit b) w.0 in
    let t = and_parts (eqb s 92 && eqb h 45) (is_digit a) r.0 in
    let v = and_parts (eqb s 92) (eqb h 45) t.0 in
    record {
      body = 45 ∷ a ∷ b ∷ c ∷ [];
      characters = and_from _ _ (digit_character a t.1) (and_from _ _ (digit_character b r.1) (and_from _ _ (digit_character c w.1) refl));
      good = and_from _ _ (and_from _ _ t.1 r.1) w.1;
      is = rw (digit_bare a t.1, digit_bare b r.1, digit_bare c w.1, eqb-true s 92 v.0, eqb-true h 45 v.1, eqb-true q 34 p.1) refl;
    }
region_behind (s ∷ h ∷ a ∷ b ∷ c ∷ q ∷ d ∷ u) e = absurd cc

code_passes : (u : List ℕ) → CodeCase u → is_region_behind (body_text (45 ∷ u) ++ 34 ∷ []) ≡ true
code_passes _ (letters a b la lb) = rw (letter_bare a la, letter_bare b lb, la, lb) refl
code_passes _ (digits a b c da db dc) = rw (digit_bare a da, digit_bare b db, digit_bare c dc, da, db, dc) refl

region_passes : (b : List ℕ) → RegionCase b → is_region_behind (body_text b ++ 34 ∷ []) ≡ true
region_passes _ none = refl
region_passes _ (behind u code) = code_passes u code

two_letters : (a b : ℕ) (r : List ℕ) → is_letter a ≡ true → is_letter b ≡ true → is_region r ≡ true → is_language_body (a ∷ b ∷ r) ≡ true
two_letters a b [] la lb h = and_from _ _ la lb
two_letters a b (c ∷ r) la lb h = and_from _ _ (and_from _ _ la lb) (or_left _ _ h)

language_behind : (u : List ℕ) → is_language_in_quotes u ≡ true → Plain is_language_body u
language_behind [] h = absurd cc
language_behind (a ∷ []) h = absurd cc
language_behind (a ∷ b ∷ []) h = absurd cc
language_behind (a ∷ b ∷ c ∷ u) h =
    let p = and_parts (is_letter a && is_letter b) (is_region_behind (c ∷ u) || is_letter c && is_region_behind u) h in
    let q = and_parts (is_letter a) (is_letter b) p.0 in
    elim (or_cases (is_region_behind (c ∷ u)) (is_letter c && is_region_behind u) p.1) [
      | inl k ↦
          let r = region_behind (c ∷ u) k in record {
            body = a ∷ b ∷ r.body;
            characters = and_from _ _ (letter_character a q.0) (and_from _ _ (letter_character b q.1) r.characters);
            good = two_letters a b r.body q.0 q.1 r.good;
            is = rw (letter_bare a q.0, letter_bare b q.1) (ap (λ (w : List ℕ). a ∷ b ∷ w) r.is);
          }
      | inr k ↦
          let m = and_parts (is_letter c) (is_region_behind u) k in
          let r = region_behind u m.1 in record {
            body = a ∷ b ∷ c ∷ r.body;
            characters = and_from _ _ (letter_character a q.0) (and_from _ _ (letter_character b q.1) (and_from _ _ (letter_character c m.0) r.characters));
            good = and_from _ _ (and_from _ _ q.0 q.1) (or_right _ _ (and_from _ _ m.0 r.good));
            is = rw (letter_bare a q.0, letter_bare b q.1, letter_bare c m.0) (ap (λ (w : List ℕ). a ∷ b ∷ c ∷ w) r.is);
          }
    ]

-- a text between quotes that passes the test is the text of a language
pub language_from : (u : List ℕ) → is_language_in_quotes u ≡ true → (v : Value) × (IsValue v × IsTrue (is_language v)) × (34 ∷ u ≡ value_text v)
language_from u h =
    let p = language_behind u h in
    (plain p.body, (plain_text is_language_body p.body refl refl p.characters p.good, p.good), ap (λ (w : List ℕ). 34 ∷ w) (p.is ∙ ap (λ (w : List ℕ). w ++ 34 ∷ []) (sym (append-nil (body_text p.body)))))

some_behind : (x : List ℕ) → (c : ℕ) × (s : List ℕ) × (x ++ 34 ∷ [] ≡ c ∷ s)
some_behind [] = (34, [], refl)
some_behind (c ∷ x) = (c, x ++ 34 ∷ [], refl)

two_pass : (a b : ℕ) (x : List ℕ) → is_letter a ≡ true → is_letter b ≡ true → is_region_behind (x ++ 34 ∷ []) ≡ true → is_language_in_quotes (a ∷ b ∷ (x ++ 34 ∷ [])) ≡ true
two_pass a b x la lb h =
    let so = some_behind x in
    ap (λ (w : List ℕ). is_language_in_quotes (a ∷ b ∷ w)) so.2 ∙ and_from _ _ (and_from _ _ la lb) (or_left _ _ (ap is_region_behind (sym so.2) ∙ h))

language_body_passes : (b : List ℕ) → is_language_body b ≡ true → is_language_in_quotes (body_text b ++ 34 ∷ []) ≡ true
language_body_passes [] h = absurd cc
language_body_passes (a ∷ []) h = absurd cc
language_body_passes (a ∷ b ∷ []) h =
    let q = and_parts (is_letter a) (is_letter b) h in
    rw (letter_bare a q.0, letter_bare b q.1) (two_pass a b [] q.0 q.1 refl)
language_body_passes (a ∷ b ∷ c ∷ r) h =
    let p = and_parts (is_letter a && is_letter b) (is_region (c ∷ r) || is_letter c && is_region r) h in
    let q = and_parts (is_letter a) (is_letter b) p.0 in
    elim (or_cases (is_region (c ∷ r)) (is_letter c && is_region r) p.1) [
      | inl k ↦ rw (letter_bare a q.0, letter_bare b q.1) (two_pass a b (body_text (c ∷ r)) q.0 q.1 (region_passes (c ∷ r) (region_case (c ∷ r) k)))
      | inr k ↦
          let m = and_parts (is_letter c) (is_region r) k in
          rw (letter_bare a q.0, letter_bare b q.1, letter_bare c m.0) (and_from _ _ (and_from _ _ q.0 q.1) (or_right _ _ (and_from _ _ m.0 (region_passes r (region_case r m.1)))))
    ]

-- the text of each language passes the test
pub language_passes : (v : Value) → is_language v ≡ true → is_language_text (value_text v) ≡ true
language_passes value.Any h = refl
language_passes value.Na h = refl
language_passes (value.Text t) h =
    let p = plain_parts t (is_language_body t.body) h in
    ap (λ (x : Parts). is_language_text (value_text (value.Text x))) p.0 ∙ ap (λ (w : List ℕ). is_language_in_quotes (w ++ 34 ∷ [])) (append-nil (body_text t.body)) ∙ language_body_passes t.body p.1
