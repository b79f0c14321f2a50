-- Lemmas: the scanners of parts and languages read exactly the components of parts and languages.
use Rattle.std.proofs.Common.{◌≡◌, ℕ, true, false, ◌||◌, eqb, IsTrue, List, [], ◌∷◌, ◌++◌, Ok, refl, sym, ap, subst, ◌∙◌, inl, inr, arith}
use Rattle.std.proofs.lemmas.List.{append-nil}
use Rattle.std.proofs.lemmas.Bool.{eqb-true, and_parts, and_from, or_cases, or_right}
use Rattle.std.proofs.lemmas.Bool.Decides.{nat_tests}
use Rattle.cpe_values.specs.declared.value.Value.{Value}
use Rattle.cpe_values.specs.declared.value.Value.TheVariants as value
use Rattle.cpe_values.specs.Parts.{Parts}
use Rattle.cpe_values.specs.declared.spelling.Style.TheVariants as style
use Rattle.cpe_values.specs.Spelling.{is_bare, is_letter}
use Rattle.cpe_values.specs.Values.{IsValue}
use Rattle.cpe_name.specs.Shapes.{is_part, is_part_letter, is_part_body, is_language, is_language_body}
use Rattle.name_grammar.specs.Scanners.{scan_one}
use Rattle.name_grammar.proofs.Scans.{Scans, wider, OneOf, one_scans, one_taken, Either, choose_scans}
use Rattle.cpe_fs.specs.Grammar.{fs_component}
use Rattle.cpe_name.specs.Tags.{tag_end, Hyphen, Tag, is_bare_hyphen, BeginsWithTag, IsHyphen, TagEnds}
use Rattle.cpe_name.proofs.Shapes.{plain, plain_text, plain_parts}
use Rattle.cpe_name.proofs.Tags.{all_bare, bare_characters, TagCase, two, three, tag_case, tag_lawful, tag_bare, tag_scans, tag_taken, tag_text, text_tag}
use Rattle.cpe_fs.specs.Scanning.{is_hyphen_byte, is_fs_part_byte, is_lone_byte, part_end, language_end}
use Rattle.cpe_fs.proofs.Texts.{body_text, Ends, ends_fail}

-- ---- texts whose characters are all bare

bare_text : (b : List ℕ) → all_bare b ≡ true → body_text b ≡ b
bare_text [] h = refl
bare_text (c ∷ b) h = let p = and_parts (is_bare style.Formatted c) (all_bare b) h in rw p.0 (ap (λ (u : List ℕ). c ∷ u) (bare_text b p.1))

plain_component : (b : List ℕ) → all_bare b ≡ true → fs_component (plain b) ≡ b
plain_component b h = append-nil (body_text b) ∙ bare_text b h

-- ---- parts

-- the component of a value that suits the attribute part
pub record IsPart (u : List ℕ) : Type 0 where
  pub value : Value
  pub suits : IsValue value × IsTrue (is_part value)
  pub is : u ≡ fs_component value

letter_bare : (c : ℕ) → is_part_letter c ≡ true → is_bare style.Formatted c ≡ true
letter_bare c h = grind (arith, nat_tests)

a_part : (u : List ℕ) → OneOf is_fs_part_byte u → IsPart u
a_part u o =
    elim (or_cases (eqb o.byte 42 || eqb o.byte 45) (is_part_letter o.byte) o.passed) [
      | inl special ↦ elim (or_cases (eqb o.byte 42) (eqb o.byte 45) special) [
        | inl h ↦ record { value = value.Any; suits = (tt, refl); is = o.is ∙ ap (λ (d : ℕ). d ∷ []) (eqb-true o.byte 42 h) }
        | inr h ↦ record { value = value.Na; suits = (tt, refl); is = o.is ∙ ap (λ (d : ℕ). d ∷ []) (eqb-true o.byte 45 h) }
      ]
      | inr letter ↦
          let bare : all_bare (o.byte ∷ []) ≡ true = and_from _ _ (letter_bare o.byte letter) refl in record {
            value = plain (o.byte ∷ []);
            suits = (plain_text is_part_body (o.byte ∷ []) refl refl (bare_characters (o.byte ∷ []) bare) letter, letter);
            is = o.is ∙ sym (plain_component (o.byte ∷ []) bare);
          }
    ]

-- the scanner of parts reads only components of parts
pub part_scans : Scans IsPart part_end
unfolding part_end
part_scans = wider (OneOf is_fs_part_byte) IsPart part_end a_part (one_scans is_fs_part_byte 42 refl)

part_byte_taken : (c : ℕ) (r : List ℕ) → is_fs_part_byte c ≡ true → part_end (c ∷ r) ≡ Ok r
unfolding part_end
part_byte_taken c r h = one_taken is_fs_part_byte c r h

part_body_taken : (b r : List ℕ) → is_part_body b ≡ true → part_end (fs_component (plain b) ++ r) ≡ Ok r
part_body_taken [] r h = absurd cc
part_body_taken (c ∷ []) r h = ap (λ (u : List ℕ). part_end (u ++ r)) (plain_component (c ∷ []) (and_from _ _ (letter_bare c h) refl)) ∙ part_byte_taken c r (or_right _ _ h)
part_body_taken (c ∷ d ∷ b) r h = absurd cc

-- the scanner of parts reads each component of a part
pub part_taken : (v : Value) (r : List ℕ) → is_part v ≡ true → part_end (fs_component v ++ r) ≡ Ok r
part_taken value.Any r h = part_byte_taken 42 r refl
part_taken value.Na r h = part_byte_taken 45 r refl
part_taken (value.Text t) r h =
    let p = plain_parts t (is_part_body t.body) h in
    ap (λ (x : Parts). part_end (fs_component (value.Text x) ++ r)) p.0 ∙ part_body_taken t.body r p.1

-- ---- tags

-- the hyphen of a language tag is a bare hyphen
hyphen_is : IsHyphen is_bare_hyphen is_hyphen_byte (scan_one is_hyphen_byte)
hyphen_is = record { scans = bare_scans; taken = bare_taken; leads = bare_leads } where
  bare : (u : List ℕ) → OneOf is_hyphen_byte u → Hyphen is_bare_hyphen u
  bare u o = subst (Hyphen is_bare_hyphen) (sym o.is) o.passed

  bare_scans : Scans (Hyphen is_bare_hyphen) (scan_one is_hyphen_byte)
  bare_scans = wider (OneOf is_hyphen_byte) (Hyphen is_bare_hyphen) (scan_one is_hyphen_byte) bare (one_scans is_hyphen_byte 45 refl)

  bare_taken : (h r : List ℕ) → is_bare_hyphen h ≡ true → scan_one is_hyphen_byte (h ++ r) ≡ Ok r
  bare_taken [] r e = absurd cc
  bare_taken (c ∷ []) r e = one_taken is_hyphen_byte c r e
  bare_taken (c ∷ d ∷ h) r e = absurd cc

  no_letter : (c : ℕ) → is_hyphen_byte c ≡ true → is_letter c ≡ false
  no_letter c h = grind (arith, nat_tests)

  bare_leads : (h r : List ℕ) → is_bare_hyphen h ≡ true → BeginsWithTag is_hyphen_byte (h ++ r)
  bare_leads [] r e = absurd cc
  bare_leads (c ∷ []) r e = record { first = c; more = r; is = refl; leads = e; no_letter = no_letter c e }
  bare_leads (c ∷ d ∷ h) r e = absurd cc

abbrev BareTag : List ℕ → Type 0
BareTag = Tag is_bare_hyphen

-- no tag continues at the end of a component
tag_ends : (r : List ℕ) → Ends r → TagEnds is_hyphen_byte r
tag_ends r e = record { letter = ends_fail is_letter r refl e; hyphen = ends_fail is_hyphen_byte r refl e }

letter_not_lone : (c : ℕ) → is_letter c ≡ true → is_lone_byte c ≡ false
letter_not_lone c h = grind (arith, nat_tests)

-- ---- languages

-- the component of a value that suits the attribute language
pub record IsLanguage (u : List ℕ) : Type 0 where
  pub value : Value
  pub suits : IsValue value × IsTrue (is_language value)
  pub is : u ≡ fs_component value

a_language : (u : List ℕ) → Either (OneOf is_lone_byte) BareTag u → IsLanguage u
a_language u h = elim h [
  | inl o ↦ elim (or_cases (eqb o.byte 42) (eqb o.byte 45) o.passed) [
    | inl any ↦ record { value = value.Any; suits = (tt, refl); is = o.is ∙ ap (λ (d : ℕ). d ∷ []) (eqb-true o.byte 42 any) }
    | inr na ↦ record { value = value.Na; suits = (tt, refl); is = o.is ∙ ap (λ (d : ℕ). d ∷ []) (eqb-true o.byte 45 na) }
  ]
  | inr tag ↦
      let at = text_tag u tag in
      let lawful = tag_lawful u at in
      let bare = tag_bare u at in
      record { value = plain u; suits = (plain_text is_language_body u refl refl (bare_characters u bare) lawful, lawful); is = sym (plain_component u bare) }
]

-- the scanner of languages reads only components of languages
pub language_scans : Scans IsLanguage language_end
unfolding language_end
language_scans =
    wider (Either (OneOf is_lone_byte) BareTag) IsLanguage language_end a_language
    (choose_scans is_lone_byte (OneOf is_lone_byte) BareTag (scan_one is_lone_byte) (tag_end is_hyphen_byte (scan_one is_hyphen_byte)) (one_scans is_lone_byte 42 refl) (tag_scans is_bare_hyphen is_hyphen_byte (scan_one is_hyphen_byte) hyphen_is))

lone_taken : (c : ℕ) (r : List ℕ) → is_lone_byte c ≡ true → language_end (c ∷ r) ≡ Ok r
unfolding language_end
lone_taken c r h = rw h refl

tag_language : (t r : List ℕ) → TagCase t → language_end (t ++ r) ≡ tag_end is_hyphen_byte (scan_one is_hyphen_byte) (t ++ r)
unfolding language_end
tag_language _ r (two a b v ha hb region) = rw (letter_not_lone a ha) refl
tag_language _ r (three a b c v ha hb hc region) = rw (letter_not_lone a ha) refl

-- the scanner of languages reads each component of a language, if the component ends there
pub language_taken : (v : Value) (r : List ℕ) → is_language v ≡ true → Ends r → language_end (fs_component v ++ r) ≡ Ok r
language_taken value.Any r h e = lone_taken 42 r refl
language_taken value.Na r h e = lone_taken 45 r refl
language_taken (value.Text t) r h e =
    let p = plain_parts t (is_language_body t.body) h in
    let at = tag_case t.body p.1 in
    ap (λ (x : Parts). language_end (fs_component (value.Text x) ++ r)) p.0
    ∙ ap (λ (u : List ℕ). language_end (u ++ r)) (plain_component t.body (tag_bare t.body at))
    ∙ tag_language t.body r at ∙ tag_taken is_bare_hyphen is_hyphen_byte (scan_one is_hyphen_byte) hyphen_is t.body r (tag_text t.body at) (tag_ends r e)
