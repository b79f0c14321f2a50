-- Lemmas: the scanners of parts and languages of a URI read exactly the components of parts and languages.
use Rattle.std.proofs.Common.{◌≡◌, ℕ, Bool, true, false, ◌+◌, ◌*◌, ◌≤◌, ◌&&◌, ◌||◌, eqb, List, [], ◌∷◌, ◌++◌, codes, Ok, refl, sym, ap, subst, ◌∙◌, inl, inr, arith, append_assoc}
use Rattle.std.specs.Char.{to_ascii_lowercase}
use Rattle.std.specs.Str.{str_to_ascii_lowercase}
use Rattle.std.proofs.lemmas.List.{append-nil, map-append}
use Rattle.std.proofs.lemmas.Bool.{eqb-true, eq-eqb, and_parts, and_from, or_cases, or_left, or_right}
use Rattle.std.proofs.lemmas.Bool.Decides.{nat_tests}
use Rattle.std.proofs.lemmas.Str.Ascii.{lowercase-lowercase}
use Rattle.cpe_values.specs.declared.value.Value.{Value}
use Rattle.cpe_values.specs.declared.value.Value.TheVariants as value
use Rattle.cpe_values.specs.declared.spelling.Style.TheVariants as style
use Rattle.cpe_values.specs.Parts.{Parts}
use Rattle.cpe_values.specs.Spelling.{is_letter, is_digit, is_word, is_bare}
use Rattle.name_grammar.specs.Scanners.{scan_both, nothing, scan_one, literal}
use Rattle.name_grammar.proofs.Scans.{Scans, wider, Empty, nothing_scans, OneOf, one_scans, Joined, both_scans, Either, choose_scans, Only, literal_scans}
use Rattle.cpe_name.specs.declared.attribute.Attribute.TheVariants.{Part, Language}
use Rattle.cpe_name.specs.Names.{Suits}
use Rattle.cpe_name.specs.Shapes.{is_part_letter, is_part_body, is_language_body}
use Rattle.cpe_name.specs.Tags.{tag_end, Hyphen, Region, Tag, BeginsWithTag, IsHyphen, TagEnds}
use Rattle.cpe_name.proofs.Shapes.{plain, plain_text, plain_parts}
use Rattle.cpe_name.proofs.Tags.{all_bare, bare_characters, CodeCase, letters, digits, RegionCase, none, behind, TagCase, two, three, tag_case, tag_lawful, code_bare, tag_bare, code_case, tag_of, code_text, two_letters, tag_scans, tag_taken}
use Rattle.cpe_uri.specs.Spelling.{is_hex, hex_value, has_percent_form, spells, Spelled, IsSpellingOf}
use Rattle.cpe_uri.specs.Spans.{IsUriComponent}
use Rattle.cpe_uri.specs.Languages.{is_language_byte, is_uri_hyphen, begins_hyphen, is_last_digit, part_end, percent_hyphen_end, hyphen_end, tag_or_nothing_end, language_end}
use Rattle.cpe_uri.proofs.Ends.{Ends}

-- ---- lower case

abbrev lowered : List ℕ → List ℕ
lowered s = str_to_ascii_lowercase s

lowered_twice : (s : List ℕ) → lowered (lowered s) ≡ lowered s
lowered_twice [] = refl
lowered_twice (c ∷ s) = rw lowercase-lowercase (ap (λ (u : List ℕ). to_ascii_lowercase c ∷ u) (lowered_twice s))

lower_letter : (c : ℕ) → is_letter c ≡ true → is_letter (to_ascii_lowercase c) ≡ true
lower_letter c h = grind (arith, nat_tests)

lower_digit : (c : ℕ) → is_digit c ≡ true → is_digit (to_ascii_lowercase c) ≡ true
lower_digit c h = grind (arith, nat_tests)

letter_from_lower : (c : ℕ) → is_letter (to_ascii_lowercase c) ≡ true → is_letter c ≡ true
letter_from_lower c h = grind (arith, nat_tests)

digit_from_lower : (c : ℕ) → is_digit (to_ascii_lowercase c) ≡ true → is_digit c ≡ true
digit_from_lower c h = grind (arith, nat_tests)

part_letter_bare : (c : ℕ) → is_part_letter (to_ascii_lowercase c) ≡ true → is_bare style.Formatted c ≡ true
part_letter_bare c h = grind (arith, nat_tests)

part_letter_word : (c : ℕ) → is_part_letter c ≡ true → is_word c ≡ true
part_letter_word c h = grind (arith, nat_tests)

lower_code : (u : List ℕ) → CodeCase u → CodeCase (lowered u)
lower_code _ (letters x y hx hy) = letters (to_ascii_lowercase x) (to_ascii_lowercase y) (lower_letter x hx) (lower_letter y hy)
lower_code _ (digits x y z hx hy hz) = digits (to_ascii_lowercase x) (to_ascii_lowercase y) (to_ascii_lowercase z) (lower_digit x hx) (lower_digit y hy) (lower_digit z hz)

lower_region : (v : List ℕ) → RegionCase v → RegionCase (lowered v)
lower_region _ none = none
lower_region _ (behind u code) = behind (lowered u) (lower_code u code)

lower_tag : (t : List ℕ) → TagCase t → TagCase (lowered t)
lower_tag _ (two a b v ha hb region) = two (to_ascii_lowercase a) (to_ascii_lowercase b) (lowered v) (lower_letter a ha) (lower_letter b hb) (lower_region v region)
lower_tag _ (three a b c v ha hb hc region) =
    three (to_ascii_lowercase a) (to_ascii_lowercase b) (to_ascii_lowercase c) (lowered v) (lower_letter a ha) (lower_letter b hb) (lower_letter c hc) (lower_region v region)

-- ---- spellings

bare_spells : (b : ℕ) → is_bare style.Formatted b ≡ true → spells (to_ascii_lowercase b) (b ∷ []) ≡ true
bare_spells b h = and_from _ _ (or_left _ _ h) (eq-eqb (to_ascii_lowercase b) (to_ascii_lowercase b) refl)

-- bare bytes are a spelling of the same bytes in lower case
bare_spelled : (s : List ℕ) → all_bare s ≡ true → Spelled (lowered s) s
bare_spelled [] h = refl
bare_spelled (b ∷ s) h = let p = and_parts (is_bare style.Formatted b) (all_bare s) h in (b ∷ [], s, refl, bare_spells b p.0, bare_spelled s p.1)

spelled_both : (t u x y : List ℕ) → Spelled t x → Spelled u y → Spelled (t ++ u) (x ++ y)
spelled_both [] u x y first second = subst (λ (w : List ℕ). Spelled u (w ++ y)) (sym first) second
spelled_both (c ∷ t) u x y first second =
    (first.0, first.1 ++ y, ap (λ (w : List ℕ). w ++ y) first.2 ∙ append_assoc first.0 first.1 y, first.3, spelled_both t u first.1 y first.4 second)

-- a spelling of a body is the component of the text that has only this body
spelled_alone : (t s : List ℕ) → Spelled t s → IsSpellingOf (plain t) s
spelled_alone t s h = subst (λ (u : List ℕ). Spelled u s) (sym (append-nil t)) h

alone_spelled : (t s : List ℕ) → IsSpellingOf (plain t) s → Spelled t s
alone_spelled t s h = subst (λ (u : List ℕ). Spelled u s) (append-nil t) h

no_percent_form : (c : ℕ) → is_word c ≡ true → has_percent_form c ≡ true → ⊥
no_percent_form c word form = grind (arith, nat_tests)

-- a spelling that is one byte
record Bare (c : ℕ) (u : List ℕ) : Type 0 where
  byte : ℕ
  is : u ≡ byte ∷ []
  code : to_ascii_lowercase byte ≡ c

-- letters, digits and `_` have only spellings of one byte
word_bare : (c : ℕ) (u : List ℕ) → is_word c ≡ true → spells c u ≡ true → Bare c u
word_bare c [] word h = absurd cc
word_bare c (b ∷ []) word h = let p = and_parts (is_bare style.Formatted b || eqb b 126) (eqb (to_ascii_lowercase b) c) h in record { byte = b; is = refl; code = eqb-true _ _ p.1 }
word_bare c (b ∷ d ∷ []) word h = absurd cc
word_bare c (p ∷ h ∷ l ∷ []) word e =
    let q = and_parts (eqb p 37 && is_hex h && is_hex l && eqb (16 * hex_value h + hex_value l) c) (has_percent_form c) e in
    absurd (no_percent_form c word q.1)
word_bare c (p ∷ h ∷ l ∷ d ∷ u) word e = absurd cc

-- the text is a byte that passes the test, and a spelling of the codes `t`
record Head (passes : ℕ → Bool) (t s : List ℕ) : Type 0 where
  byte : ℕ
  rest : List ℕ
  is : s ≡ byte ∷ rest
  passed : passes byte ≡ true
  spelled : Spelled t rest

head_spelled : (passes : ℕ → Bool) → ((d : ℕ) → passes (to_ascii_lowercase d) ≡ true → passes d ≡ true) → (c : ℕ) (t s : List ℕ) → is_word c ≡ true → passes c ≡ true → Spelled (c ∷ t) s → Head passes t s
head_spelled passes from_lower c t s word h spelled =
    let o = word_bare c spelled.0 word spelled.3 in record {
      byte = o.byte;
      rest = spelled.1;
      is = spelled.2 ∙ ap (λ (u : List ℕ). u ++ spelled.1) o.is;
      passed = from_lower o.byte (ap passes o.code ∙ h);
      spelled = spelled.4;
    }

letter_head : (c : ℕ) (t s : List ℕ) → is_letter c ≡ true → Spelled (c ∷ t) s → Head is_letter t s
letter_head c t s h = head_spelled is_letter letter_from_lower c t s (or_left _ _ (or_left _ _ h)) h

digit_head : (c : ℕ) (t s : List ℕ) → is_digit c ≡ true → Spelled (c ∷ t) s → Head is_digit t s
digit_head c t s h = head_spelled is_digit digit_from_lower c t s (or_left _ _ (or_right _ _ h)) h

-- each spelling of a region's code is a region's code
code_spelled : (u s : List ℕ) → CodeCase u → Spelled u s → CodeCase s
code_spelled _ s (letters x y hx hy) spelled =
    let a = letter_head x (y ∷ []) s hx spelled in
    let b = letter_head y [] a.rest hy a.spelled in
    let is : s ≡ a.byte ∷ b.byte ∷ [] = a.is ∙ ap (λ (w : List ℕ). a.byte ∷ w) (b.is ∙ ap (λ (w : List ℕ). b.byte ∷ w) b.spelled) in
    subst CodeCase (sym is) (letters a.byte b.byte a.passed b.passed)
code_spelled _ s (digits x y z hx hy hz) spelled =
    let a = digit_head x (y ∷ z ∷ []) s hx spelled in
    let b = digit_head y (z ∷ []) a.rest hy a.spelled in
    let c = digit_head z [] b.rest hz b.spelled in
    let is : s ≡ a.byte ∷ b.byte ∷ c.byte ∷ [] = a.is ∙ ap (λ (w : List ℕ). a.byte ∷ w) (b.is ∙ ap (λ (w : List ℕ). b.byte ∷ w) (c.is ∙ ap (λ (w : List ℕ). c.byte ∷ w) c.spelled)) in
    subst CodeCase (sym is) (digits a.byte b.byte c.byte a.passed b.passed c.passed)

-- ---- the spellings of a hyphen

data HyphenCase : List ℕ → Type 0 where
  bare : HyphenCase (45 ∷ [])
  percent : (d : ℕ) → is_last_digit d ≡ true → HyphenCase (37 ∷ 50 ∷ d ∷ [])

lower_is_hyphen : (c : ℕ) → to_ascii_lowercase c ≡ 45 → c ≡ 45
lower_is_hyphen c h = grind (arith, nat_tests)

hex_bound : (c : ℕ) → is_hex c ≡ true → hex_value c ≤ 15
hex_bound c h = grind (arith, nat_tests)

hex_two : (c : ℕ) → is_hex c ≡ true → hex_value c ≡ 2 → c ≡ 50
hex_two c h is = grind (arith, nat_tests)

hex_last : (c : ℕ) → is_hex c ≡ true → hex_value c ≡ 13 → is_last_digit c ≡ true
hex_last c h is = grind (arith, nat_tests)

first_is_two : (m n : ℕ) → n ≤ 15 → 16 * m + n ≡ 45 → m ≡ 2
first_is_two m n le is = omega (arith, le, is)

last_is : (m n : ℕ) → n ≤ 15 → 16 * m + n ≡ 45 → n ≡ 13
last_is m n le is = omega (arith, le, is)

hyphen_case : (u : List ℕ) → spells 45 u ≡ true → HyphenCase u
hyphen_case [] h = absurd cc
hyphen_case (b ∷ []) h =
    let p = and_parts (is_bare style.Formatted b || eqb b 126) (eqb (to_ascii_lowercase b) 45) h in
    subst (λ (c : ℕ). HyphenCase (c ∷ [])) (sym (lower_is_hyphen b (eqb-true _ 45 p.1))) bare
hyphen_case (b ∷ d ∷ []) h = absurd cc
hyphen_case (p ∷ h ∷ l ∷ []) e =
    let q = and_parts (eqb p 37 && is_hex h && is_hex l && eqb (16 * hex_value h + hex_value l) 45) (has_percent_form 45) e in
    let r = and_parts (eqb p 37 && is_hex h && is_hex l) (eqb (16 * hex_value h + hex_value l) 45) q.0 in
    let t = and_parts (eqb p 37 && is_hex h) (is_hex l) r.0 in
    let v = and_parts (eqb p 37) (is_hex h) t.0 in
    let code : 16 * hex_value h + hex_value l ≡ 45 = eqb-true _ 45 r.1 in
    let small = hex_bound l t.1 in
    let first : h ≡ 50 = hex_two h v.1 (first_is_two (hex_value h) (hex_value l) small code) in
    let last = hex_last l t.1 (last_is (hex_value h) (hex_value l) small code) in
    subst (λ (c : ℕ). HyphenCase (c ∷ h ∷ l ∷ [])) (sym (eqb-true p 37 v.0)) (subst (λ (c : ℕ). HyphenCase (37 ∷ c ∷ l ∷ [])) (sym first) (percent l last))
hyphen_case (p ∷ h ∷ l ∷ d ∷ u) e = absurd cc

-- ---- parts

a_part : (u : List ℕ) → Either (OneOf is_language_byte) Empty u → IsUriComponent Part u
a_part u h = elim h [
  | inl o ↦ elim (or_cases (eqb o.byte 45) (is_part_letter (to_ascii_lowercase o.byte)) o.passed) [
    | inl na ↦ record { value = value.Na; suits = (tt, refl); lower = refl; present = o.is ∙ ap (λ (d : ℕ). d ∷ []) (eqb-true o.byte 45 na) }
    | inr letter ↦
        let bare_byte = part_letter_bare o.byte letter in
        let c : ℕ = to_ascii_lowercase o.byte in
        let characters = bare_characters (c ∷ []) (and_from _ _ (part_letter_bare c (ap is_part_letter (lowercase-lowercase o.byte) ∙ letter)) refl) in
        record {
          value = plain (c ∷ []);
          suits = (plain_text is_part_body (c ∷ []) refl refl characters letter, letter);
          lower = ap plain (lowered_twice (o.byte ∷ []));
          present = subst (Spelled (c ∷ [])) (sym o.is) (bare_spelled (o.byte ∷ []) (and_from _ _ bare_byte refl));
        }
  ]
  | inr empty ↦ record { value = value.Any; suits = (tt, refl); lower = refl; present = empty }
]

-- the scanner of parts reads only components of parts
pub part_scans : Scans (IsUriComponent Part) part_end
unfolding part_end
part_scans =
    wider (Either (OneOf is_language_byte) Empty) (IsUriComponent Part) part_end a_part
    (choose_scans is_language_byte (OneOf is_language_byte) Empty (scan_one is_language_byte) nothing (one_scans is_language_byte 45 refl) nothing_scans)

part_byte_taken : (c : ℕ) (r : List ℕ) → is_language_byte c ≡ true → part_end (c ∷ r) ≡ Ok r
unfolding part_end
part_byte_taken c r h = rw h refl

no_part_taken : (r : List ℕ) → Ends r → part_end r ≡ Ok r
unfolding part_end
no_part_taken [] e = refl
no_part_taken (c ∷ r) e = rw e refl

part_body_taken : (b s r : List ℕ) → is_part_body b ≡ true → Spelled b s → part_end (s ++ r) ≡ Ok r
part_body_taken [] s r h spelled = absurd cc
part_body_taken (c ∷ []) s r h spelled =
    let o = word_bare c spelled.0 (part_letter_word c h) spelled.3 in
    let is : s ≡ o.byte ∷ [] = spelled.2 ∙ ap (λ (u : List ℕ). u ++ spelled.1) o.is ∙ ap (λ (u : List ℕ). o.byte ∷ u) spelled.4 in
    ap (λ (u : List ℕ). part_end (u ++ r)) is ∙ part_byte_taken o.byte r (or_right _ _ (ap is_part_letter o.code ∙ h))
part_body_taken (c ∷ d ∷ b) s r h spelled = absurd cc

-- the scanner of parts reads each component of a part, if the component ends there
pub part_taken : (v : Value) (s r : List ℕ) → Suits Part v → IsSpellingOf v s → Ends r → part_end (s ++ r) ≡ Ok r
part_taken value.Any s r suits present e = ap (λ (u : List ℕ). part_end (u ++ r)) present ∙ no_part_taken r e
part_taken value.Na s r suits present e = ap (λ (u : List ℕ). part_end (u ++ r)) present ∙ part_byte_taken 45 r refl
part_taken (value.Text t) s r suits present e =
    let p = plain_parts t (is_part_body t.body) suits.1 in
    part_body_taken t.body s r p.1 (alone_spelled t.body s (subst (λ (x : Parts). IsSpellingOf (value.Text x) s) p.0 present))

-- ---- the hyphen of a tag, in each accepted spelling

abbrev HyphenText : List ℕ → Type 0
HyphenText = Either (OneOf is_uri_hyphen) (Joined (Only (codes "%2")) (OneOf is_last_digit))

last_spells : (d : ℕ) → is_last_digit d ≡ true → spells 45 (37 ∷ 50 ∷ d ∷ []) ≡ true
last_spells d h = elim (or_cases (eqb d 68) (eqb d 100) h) [
  | inl is ↦ ap (λ (c : ℕ). spells 45 (37 ∷ 50 ∷ c ∷ [])) (eqb-true d 68 is)
  | inr is ↦ ap (λ (c : ℕ). spells 45 (37 ∷ 50 ∷ c ∷ [])) (eqb-true d 100 is)
]

hyphen_spells : (u : List ℕ) → HyphenText u → Hyphen (spells 45) u
hyphen_spells u h = elim h [
  | inl o ↦ ap (spells 45) (o.is ∙ ap (λ (c : ℕ). c ∷ []) (eqb-true o.byte 45 o.passed))
  | inr j ↦
      let is : u ≡ 37 ∷ 50 ∷ j.second.byte ∷ [] = j.is ∙ ap (λ (w : List ℕ). w ++ j.back) j.first ∙ ap (λ (w : List ℕ). 37 ∷ 50 ∷ w) j.second.is in
      ap (spells 45) is ∙ last_spells j.second.byte j.second.passed
]

hyphen_scans : Scans (Hyphen (spells 45)) hyphen_end
unfolding hyphen_end percent_hyphen_end
hyphen_scans =
    wider HyphenText (Hyphen (spells 45)) hyphen_end hyphen_spells
    (choose_scans is_uri_hyphen (OneOf is_uri_hyphen) (Joined (Only (codes "%2")) (OneOf is_last_digit)) (scan_one is_uri_hyphen) (scan_both (literal (codes "%2")) (scan_one is_last_digit)) (one_scans is_uri_hyphen 45 refl)
    (both_scans (Only (codes "%2")) (OneOf is_last_digit) (literal (codes "%2")) (scan_one is_last_digit) (literal_scans (codes "%2")) (one_scans is_last_digit 100 refl) (100 ∷ []) (record { byte = 100; is = refl; passed = refl })))

case_taken : (u r : List ℕ) → HyphenCase u → hyphen_end (u ++ r) ≡ Ok r
unfolding hyphen_end percent_hyphen_end literal
case_taken _ r bare = refl
case_taken _ r (percent d h) = rw h refl

case_leads : (u r : List ℕ) → HyphenCase u → BeginsWithTag begins_hyphen (u ++ r)
case_leads _ r bare = record { first = 45; more = r; is = refl; leads = refl; no_letter = refl }
case_leads _ r (percent d h) = record { first = 37; more = 50 ∷ d ∷ r; is = refl; leads = refl; no_letter = refl }

hyphen_is : IsHyphen (spells 45) begins_hyphen hyphen_end
hyphen_is = record { scans = hyphen_scans; taken = λ h r e. case_taken h r (hyphen_case h e); leads = λ h r e. case_leads h r (hyphen_case h e) }

-- ---- tags with a hyphen in any accepted spelling

abbrev AnyTag : List ℕ → Type 0
AnyTag = Tag (spells 45)

-- the text is a spelling of a region
record IsRegion (s : List ℕ) : Type 0 where
  region : List ℕ
  lawful : RegionCase region
  spelled : Spelled (lowered region) s

a_region : (s : List ℕ) → Region (spells 45) s → IsRegion s
a_region s h = elim h [
  | inl j ↦
      let code = code_case j.back j.second in
      record { region = 45 ∷ j.back; lawful = behind j.back code; spelled = (j.prefix, j.back, j.is, j.first, bare_spelled j.back (code_bare j.back code)) }
  | inr empty ↦ record { region = []; lawful = none; spelled = empty }
]

-- the text is a spelling of a tag
record IsTag (s : List ℕ) : Type 0 where
  tag : List ℕ
  lawful : TagCase tag
  spelled : Spelled (lowered tag) s

a_tag : (s : List ℕ) → AnyTag s → IsTag s
a_tag s j =
    let prefix : List ℕ = j.first.prefix ++ j.first.back in
    let prefix_bare : all_bare prefix ≡ true = ap all_bare (sym (append-nil prefix)) ∙ tag_bare (prefix ++ []) (tag_of j.first.prefix j.first.back [] j.first.first j.first.second none) in
    let region = a_region j.back j.second in
    let together = spelled_both (lowered prefix) (lowered region.region) prefix j.back (bare_spelled prefix prefix_bare) region.spelled in
    let codes_are : Spelled (lowered (prefix ++ region.region)) (prefix ++ j.back) = subst (λ (t : List ℕ). Spelled t (prefix ++ j.back)) (sym (map-append to_ascii_lowercase prefix region.region)) together in
    record {
      tag = prefix ++ region.region;
      lawful = tag_of j.first.prefix j.first.back region.region j.first.first j.first.second region.lawful;
      spelled = subst (Spelled (lowered (prefix ++ region.region))) (sym (j.is ∙ ap (λ (u : List ℕ). u ++ j.back) j.first.is)) codes_are;
    }

-- ---- each spelling of a tag is a tag

spelled_region : (v s : List ℕ) → RegionCase v → Spelled v s → Region (spells 45) s
spelled_region _ s none spelled = inr spelled
spelled_region _ s (behind u code) spelled = inl (record {
  prefix = spelled.0;
  back = spelled.1;
  is = spelled.2;
  first = spelled.3;
  second = code_text spelled.1 (code_spelled u spelled.1 code spelled.4);
})

-- the text is a tag, and so begins with a letter
record Begun (s : List ℕ) : Type 0 where
  first : ℕ
  more : List ℕ
  is : s ≡ first ∷ more
  letter : is_letter first ≡ true
  tag : AnyTag s

spelled_tag : (t s : List ℕ) → TagCase t → Spelled t s → Begun s
spelled_tag _ s (two a b v ha hb region) spelled =
    let x = letter_head a (b ∷ v) s ha spelled in
    let y = letter_head b v x.rest hb x.spelled in
    let is : s ≡ x.byte ∷ y.byte ∷ y.rest = x.is ∙ ap (λ (w : List ℕ). x.byte ∷ w) y.is in record {
      first = x.byte;
      more = y.byte ∷ y.rest;
      is = is;
      letter = x.passed;
      tag = record {
        prefix = x.byte ∷ y.byte ∷ [];
        back = y.rest;
        is = is;
        first = record { prefix = x.byte ∷ y.byte ∷ []; back = []; is = refl; first = two_letters x.byte y.byte x.passed y.passed; second = inr refl };
        second = spelled_region v y.rest region y.spelled;
      };
    }
spelled_tag _ s (three a b c v ha hb hc region) spelled =
    let x = letter_head a (b ∷ c ∷ v) s ha spelled in
    let y = letter_head b (c ∷ v) x.rest hb x.spelled in
    let z = letter_head c v y.rest hc y.spelled in
    let is : s ≡ x.byte ∷ y.byte ∷ z.byte ∷ z.rest = x.is ∙ ap (λ (w : List ℕ). x.byte ∷ w) (y.is ∙ ap (λ (w : List ℕ). y.byte ∷ w) z.is) in record {
      first = x.byte;
      more = y.byte ∷ z.byte ∷ z.rest;
      is = is;
      letter = x.passed;
      tag = record {
        prefix = x.byte ∷ y.byte ∷ z.byte ∷ [];
        back = z.rest;
        is = is;
        first = record {
          prefix = x.byte ∷ y.byte ∷ [];
          back = z.byte ∷ [];
          is = refl;
          first = two_letters x.byte y.byte x.passed y.passed;
          second = inl (record { byte = z.byte; is = refl; passed = z.passed });
        };
        second = spelled_region v z.rest region z.spelled;
      };
    }

-- no tag continues at the end of a component
tag_ends : (r : List ℕ) → Ends r → TagEnds begins_hyphen r
tag_ends [] e = record { letter = tt; hyphen = tt }
tag_ends (c ∷ r) e = record { letter = rw e refl; hyphen = rw e refl }

begun_tag : (a : ℕ) (s : List ℕ) → is_letter a ≡ true → language_end (a ∷ s) ≡ tag_end begins_hyphen hyphen_end (a ∷ s)
unfolding language_end tag_or_nothing_end
begun_tag a s h = rw (letter_no_hyphen a h, h) refl where
  letter_no_hyphen : (c : ℕ) → is_letter c ≡ true → is_uri_hyphen c ≡ false
  letter_no_hyphen c h = grind (arith, nat_tests)

spelled_tag_taken : (t s r : List ℕ) → TagCase t → Spelled t s → Ends r → language_end (s ++ r) ≡ Ok r
spelled_tag_taken t s r lawful spelled e =
    let begun = spelled_tag t s lawful spelled in
    ap (λ (w : List ℕ). language_end (w ++ r)) begun.is
    ∙ begun_tag begun.first (begun.more ++ r) begun.letter
    ∙ ap (λ (w : List ℕ). tag_end begins_hyphen hyphen_end (w ++ r)) (sym begun.is)
    ∙ tag_taken (spells 45) begins_hyphen hyphen_end hyphen_is s r begun.tag (tag_ends r e)

-- ---- languages

a_language : (u : List ℕ) → Either (OneOf is_uri_hyphen) (Either AnyTag Empty) u → IsUriComponent Language u
a_language u h = elim h [
  | inl o ↦ record { value = value.Na; suits = (tt, refl); lower = refl; present = o.is ∙ ap (λ (d : ℕ). d ∷ []) (eqb-true o.byte 45 o.passed) }
  | inr more ↦ elim more [
    | inl j ↦
        let t = a_tag u j in
        let body : List ℕ = lowered t.tag in
        let small = lower_tag t.tag t.lawful in
        let lawful = tag_lawful body small in
        record {
          value = plain body;
          suits = (plain_text is_language_body body refl refl (bare_characters body (tag_bare body small)) lawful, lawful);
          lower = ap plain (lowered_twice t.tag);
          present = spelled_alone body u t.spelled;
        }
    | inr empty ↦ record { value = value.Any; suits = (tt, refl); lower = refl; present = empty }
  ]
]

-- the scanner of languages reads only components of languages
pub language_scans : Scans (IsUriComponent Language) language_end
unfolding language_end tag_or_nothing_end
language_scans =
    wider (Either (OneOf is_uri_hyphen) (Either AnyTag Empty)) (IsUriComponent Language) language_end a_language
    (choose_scans is_uri_hyphen (OneOf is_uri_hyphen) (Either AnyTag Empty) (scan_one is_uri_hyphen) tag_or_nothing_end (one_scans is_uri_hyphen 45 refl)
    (choose_scans is_letter AnyTag Empty (tag_end begins_hyphen hyphen_end) nothing (tag_scans (spells 45) begins_hyphen hyphen_end hyphen_is) nothing_scans))

no_language_taken : (r : List ℕ) → Ends r → language_end r ≡ Ok r
unfolding language_end tag_or_nothing_end
no_language_taken [] e = refl
no_language_taken (c ∷ r) e = rw e refl

hyphen_taken : (r : List ℕ) → language_end (45 ∷ r) ≡ Ok r
unfolding language_end
hyphen_taken r = refl

-- the scanner of languages reads each component of a language, if the component ends there
pub language_taken : (v : Value) (s r : List ℕ) → Suits Language v → IsSpellingOf v s → Ends r → language_end (s ++ r) ≡ Ok r
language_taken value.Any s r suits present e = ap (λ (u : List ℕ). language_end (u ++ r)) present ∙ no_language_taken r e
language_taken value.Na s r suits present e = ap (λ (u : List ℕ). language_end (u ++ r)) present ∙ hyphen_taken r
language_taken (value.Text t) s r suits present e =
    let p = plain_parts t (is_language_body t.body) suits.1 in
    spelled_tag_taken t.body s r (tag_case t.body p.1) (alone_spelled t.body s (subst (λ (x : Parts). IsSpellingOf (value.Text x) s) p.0 present)) e
