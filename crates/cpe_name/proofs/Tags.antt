-- Lemmas: what language tags are, and that their scanners take only tags, and take each tag.
use Rattle.std.proofs.Common.{◌≡◌, ℕ, Bool, true, false, ◌&&◌, ◌||◌, eqb, List, [], ◌∷◌, ◌++◌, Result, Ok, refl, sym, ap, subst, ◌∙◌, inl, inr, append_assoc, arith}
use Rattle.std.specs.List.{list_all}
use Rattle.std.proofs.lemmas.Bool.{eqb-true, and_parts, and_from, or_cases, or_left, or_right}
use Rattle.std.proofs.lemmas.Bool.Decides.{nat_tests}
use Rattle.cpe_values.specs.declared.spelling.Style.TheVariants as style
use Rattle.cpe_values.specs.Parts.{is_character}
use Rattle.cpe_values.specs.Spelling.{is_letter, is_digit, is_bare}
use Rattle.name_grammar.proofs.Scans.{Scans, Empty, nothing_scans, OneOf, one_scans, Joined, both_scans, choose_scans, chosen_yes, chosen_no, HeadFails, Run, run_scans}
use Rattle.name_grammar.specs.Scanners.{Scanner, ◌>>=◌, scan_both, choose, nothing, scan_one}
use Rattle.cpe_values.proofs.Bytes.{bare_character}
use Rattle.cpe_name.specs.Shapes.{is_language_body, is_region}
pub use Rattle.cpe_name.specs.Tags.{Code, Third}
use Rattle.cpe_name.specs.Tags.{letters_end, digits_end, code_end, third_end, region_end, tag_end, Hyphen, Region, Tag, is_bare_hyphen, BeginsWithTag, IsHyphen, TagEnds}

-- ---- bytes

-- these bytes need no backslash in a formatted string
abbrev pub all_bare : List ℕ → Bool
all_bare b = list_all (is_bare style.Formatted) b

-- such bytes are printable characters
pub bare_characters : (b : List ℕ) → all_bare b ≡ true → list_all is_character b ≡ true
bare_characters [] h = refl
bare_characters (c ∷ b) h = let p = and_parts (is_bare style.Formatted c) (all_bare b) h in and_from _ _ (bare_character style.Formatted c p.0) (bare_characters b p.1)

letter_no_digit : (c : ℕ) → is_letter c ≡ true → is_digit c ≡ false
letter_no_digit c h = grind (arith, nat_tests)

letter_is_bare : (c : ℕ) → is_letter c ≡ true → is_bare style.Formatted c ≡ true
letter_is_bare c h = grind (arith, nat_tests)

digit_is_bare : (c : ℕ) → is_digit c ≡ true → is_bare style.Formatted c ≡ true
digit_is_bare c h = grind (arith, nat_tests)

-- ---- the cases of codes, regions and tags

-- a code of a region is two letters or three digits
pub data CodeCase : List ℕ → Type 0 where
  letters : (x y : ℕ) → is_letter x ≡ true → is_letter y ≡ true → CodeCase (x ∷ y ∷ [])
  digits : (x y z : ℕ) → is_digit x ≡ true → is_digit y ≡ true → is_digit z ≡ true → CodeCase (x ∷ y ∷ z ∷ [])

-- a region is nothing, or a hyphen and a code
pub data RegionCase : List ℕ → Type 0 where
  none : RegionCase []
  behind : (u : List ℕ) → CodeCase u → RegionCase (45 ∷ u)

-- a tag is two or three letters, and a region
pub data TagCase : List ℕ → Type 0 where
  two : (a b : ℕ) (v : List ℕ) → is_letter a ≡ true → is_letter b ≡ true → RegionCase v → TagCase (a ∷ b ∷ v)
  three : (a b c : ℕ) (v : List ℕ) → is_letter a ≡ true → is_letter b ≡ true → is_letter c ≡ true → RegionCase v → TagCase (a ∷ b ∷ c ∷ v)

-- bytes that pass the test of regions are empty, or a hyphen and a code
pub region_case : (v : List ℕ) → is_region v ≡ true → RegionCase v
region_case [] h = none
region_case (h ∷ []) e = absurd cc
region_case (h ∷ x ∷ []) e = absurd cc
region_case (h ∷ x ∷ y ∷ []) e =
    let p = and_parts (eqb h 45 && is_letter x) (is_letter y) e in
    let q = and_parts (eqb h 45) (is_letter x) p.0 in
    subst (λ (d : ℕ). RegionCase (d ∷ x ∷ y ∷ [])) (sym (eqb-true h 45 q.0)) (behind (x ∷ y ∷ []) (letters x y q.1 p.1))
region_case (h ∷ x ∷ y ∷ z ∷ []) e =
    let p = and_parts (eqb h 45 && is_digit x && is_digit y) (is_digit z) e in
    let q = and_parts (eqb h 45 && is_digit x) (is_digit y) p.0 in
    let o = and_parts (eqb h 45) (is_digit x) q.0 in
    subst (λ (d : ℕ). RegionCase (d ∷ x ∷ y ∷ z ∷ [])) (sym (eqb-true h 45 o.0)) (behind (x ∷ y ∷ z ∷ []) (digits x y z o.1 q.1 p.1))
region_case (h ∷ x ∷ y ∷ z ∷ w ∷ v) e = absurd cc

-- the body of a language is a tag
pub tag_case : (t : List ℕ) → is_language_body t ≡ true → TagCase t
tag_case [] h = absurd cc
tag_case (a ∷ []) h = absurd cc
tag_case (a ∷ b ∷ []) h = let p = and_parts (is_letter a) (is_letter b) h in two a b [] p.0 p.1 none
tag_case (a ∷ b ∷ c ∷ v) h =
    let p = and_parts (is_letter a && is_letter b) (is_region (c ∷ v) || is_letter c && is_region v) h in
    let q = and_parts (is_letter a) (is_letter b) p.0 in
    elim (or_cases (is_region (c ∷ v)) (is_letter c && is_region v) p.1) [
      | inl region ↦ two a b (c ∷ v) q.0 q.1 (region_case (c ∷ v) region)
      | inr third ↦ let o = and_parts (is_letter c) (is_region v) third in three a b c v q.0 q.1 o.0 (region_case v o.1)
    ]

code_lawful : (u : List ℕ) → CodeCase u → is_region (45 ∷ u) ≡ true
code_lawful _ (letters x y hx hy) = and_from _ _ hx hy
code_lawful _ (digits x y z hx hy hz) = and_from _ _ (and_from _ _ hx hy) hz

region_lawful : (v : List ℕ) → RegionCase v → is_region v ≡ true
region_lawful _ none = refl
region_lawful _ (behind u code) = code_lawful u code

-- each tag is the body of a language
pub tag_lawful : (t : List ℕ) → TagCase t → is_language_body t ≡ true
tag_lawful _ (two a b [] ha hb region) = and_from _ _ ha hb
tag_lawful _ (two a b (c ∷ v) ha hb region) = and_from _ _ (and_from _ _ ha hb) (or_left _ _ (region_lawful (c ∷ v) region))
tag_lawful _ (three a b c v ha hb hc region) = and_from _ _ (and_from _ _ ha hb) (or_right _ _ (and_from _ _ hc (region_lawful v region)))

-- the bytes of a code need no backslash
pub code_bare : (u : List ℕ) → CodeCase u → all_bare u ≡ true
code_bare _ (letters x y hx hy) = and_from _ _ (letter_is_bare x hx) (and_from _ _ (letter_is_bare y hy) refl)
code_bare _ (digits x y z hx hy hz) = and_from _ _ (digit_is_bare x hx) (and_from _ _ (digit_is_bare y hy) (and_from _ _ (digit_is_bare z hz) refl))

region_bare : (v : List ℕ) → RegionCase v → all_bare v ≡ true
region_bare _ none = refl
region_bare _ (behind u code) = code_bare u code

-- the bytes of a tag need no backslash
pub tag_bare : (t : List ℕ) → TagCase t → all_bare t ≡ true
tag_bare _ (two a b v ha hb region) = and_from _ _ (letter_is_bare a ha) (and_from _ _ (letter_is_bare b hb) (region_bare v region))
tag_bare _ (three a b c v ha hb hc region) = and_from _ _ (letter_is_bare a ha) (and_from _ _ (letter_is_bare b hb) (and_from _ _ (letter_is_bare c hc) (region_bare v region)))

-- ---- each piece of a tag is taken

-- two letters are taken
pub letters_taken : (a b : ℕ) (s : List ℕ) → is_letter a ≡ true → is_letter b ≡ true → letters_end (a ∷ b ∷ s) ≡ Ok s
unfolding letters_end
letters_taken a b s ha hb = rw (ha, hb) refl

-- nothing is taken if the next byte is no letter
pub third_none : (s : List ℕ) → HeadFails is_letter s → third_end s ≡ Ok s
unfolding third_end
third_none [] h = refl
third_none (c ∷ s) h = rw h refl

-- a third letter is taken
pub third_some : (c : ℕ) (s : List ℕ) → is_letter c ≡ true → third_end (c ∷ s) ≡ Ok s
unfolding third_end
third_some c s h = rw h refl

-- a code is taken
pub code_taken : (u r : List ℕ) → CodeCase u → code_end (u ++ r) ≡ Ok r
unfolding code_end letters_end digits_end
code_taken _ r (letters x y hx hy) = rw (letter_no_digit x hx, hx, hy) refl
code_taken _ r (digits x y z hx hy hz) = rw (hx, hy, hz) refl

-- ---- what the scanners of the pieces take

-- the code of a region is in one of the cases of a code
pub code_case : (u : List ℕ) → Code u → CodeCase u
code_case [] code = absurd (elim code [ inl all ↦ omega (arith, all.count) | inr all ↦ omega (arith, all.count) ])
code_case (x ∷ []) code = absurd (elim code [ inl all ↦ omega (arith, all.count) | inr all ↦ omega (arith, all.count) ])
code_case (x ∷ y ∷ []) code = elim code [
  | inl all ↦ absurd (omega (arith, all.count))
  | inr all ↦ let p = and_parts (is_letter x) (is_letter y && true) all.passed in let q = and_parts (is_letter y) true p.1 in letters x y p.0 q.0
]
code_case (x ∷ y ∷ z ∷ []) code = elim code [
  | inl all ↦
      let p = and_parts (is_digit x) (is_digit y && (is_digit z && true)) all.passed in
      let q = and_parts (is_digit y) (is_digit z && true) p.1 in
      let o = and_parts (is_digit z) true q.1 in
      digits x y z p.0 q.0 o.0
  | inr all ↦ absurd (omega (arith, all.count))
]
code_case (x ∷ y ∷ z ∷ w ∷ u) code = absurd (elim code [ inl all ↦ omega (arith, all.count) | inr all ↦ omega (arith, all.count) ])

-- two letters, perhaps a third letter, and a region make a tag
pub tag_of : (u w v : List ℕ) → Run 2 is_letter u → Third w → RegionCase v → TagCase ((u ++ w) ++ v)
tag_of [] w v all third region = absurd (omega (arith, all.count))
tag_of (a ∷ []) w v all third region = absurd (omega (arith, all.count))
tag_of (a ∷ b ∷ c ∷ u) w v all third region = absurd (omega (arith, all.count))
tag_of (a ∷ b ∷ []) w v all third region =
    let p = and_parts (is_letter a) (is_letter b && true) all.passed in
    let q = and_parts (is_letter b) true p.1 in
    elim third [
      | inl o ↦ subst (λ (x : List ℕ). TagCase (a ∷ b ∷ (x ++ v))) (sym o.is) (three a b o.byte v p.0 q.0 o.passed region)
      | inr empty ↦ subst (λ (x : List ℕ). TagCase (a ∷ b ∷ (x ++ v))) (sym empty) (two a b v p.0 q.0 region)
    ]

-- the scanner takes exactly two letters
pub letters_scans : Scans (Run 2 is_letter) letters_end
unfolding letters_end
letters_scans = run_scans 2 is_letter 97 refl

digits_scans : Scans (Run 3 is_digit) digits_end
unfolding digits_end
digits_scans = run_scans 3 is_digit 48 refl

-- the scanner takes exactly a third letter, or nothing
pub third_scans : Scans Third third_end
unfolding third_end
third_scans = choose_scans is_letter (OneOf is_letter) Empty (scan_one is_letter) nothing (one_scans is_letter 97 refl) nothing_scans

-- the scanner takes exactly the codes of regions
pub code_scans : Scans Code code_end
unfolding code_end
code_scans = choose_scans is_digit (Run 3 is_digit) (Run 2 is_letter) digits_end letters_end digits_scans letters_scans

-- an example of a code
pub sample_code : Code (97 ∷ 97 ∷ [])
sample_code = inr (record { count = refl; passed = refl })

-- ---- whole tags, for any spelling of their hyphen

code_text_taken : (u r : List ℕ) → Code u → code_end (u ++ r) ≡ Ok r
code_text_taken u r code = code_taken u r (code_case u code)

module _ (spells : List ℕ → Bool) (begins : ℕ → Bool) (hyphen : Scanner) (is : IsHyphen spells begins hyphen) where
  region_scans : Scans (Region spells) (region_end begins hyphen)
  unfolding region_end
  region_scans =
      choose_scans begins (Joined (Hyphen spells) Code) Empty (scan_both hyphen code_end) nothing
      (both_scans (Hyphen spells) Code hyphen code_end is.scans code_scans (97 ∷ 97 ∷ []) sample_code) nothing_scans

  -- the scanner takes exactly the tags
  pub tag_scans : Scans (Tag spells) (tag_end begins hyphen)
  unfolding tag_end
  tag_scans =
      both_scans (Joined (Run 2 is_letter) Third) (Region spells) (scan_both letters_end third_end) (region_end begins hyphen)
      (both_scans (Run 2 is_letter) Third letters_end third_end letters_scans third_scans [] (inr refl))
      region_scans [] (inr refl)

  region_begun : (s : List ℕ) → BeginsWithTag begins s → region_end begins hyphen s ≡ scan_both hyphen code_end s
  unfolding region_end
  region_begun s l = ap (choose begins (scan_both hyphen code_end) nothing) l.is ∙ chosen_yes begins (scan_both hyphen code_end) nothing l.first l.more l.leads ∙ ap (scan_both hyphen code_end) (sym l.is)

  no_region : (r : List ℕ) → HeadFails begins r → region_end begins hyphen r ≡ Ok r
  unfolding region_end
  no_region [] h = refl
  no_region (c ∷ r) h = chosen_no begins (scan_both hyphen code_end) nothing c r h

  region_taken : (v r : List ℕ) → Region spells v → HeadFails begins r → region_end begins hyphen (v ++ r) ≡ Ok r
  region_taken v r region h = elim region [
    | inl j ↦
        let at : v ++ r ≡ j.prefix ++ (j.back ++ r) = ap (λ (w : List ℕ). w ++ r) j.is ∙ append_assoc j.prefix j.back r in
        ap (region_end begins hyphen) at
        ∙ region_begun (j.prefix ++ (j.back ++ r)) (is.leads j.prefix (j.back ++ r) j.first)
        ∙ ap (λ (x : Result (List ℕ) ℕ). x >>= code_end) (is.taken j.prefix (j.back ++ r) j.first)
        ∙ code_text_taken j.back r j.second
    | inr empty ↦ ap (λ (w : List ℕ). region_end begins hyphen (w ++ r)) empty ∙ no_region r h
  ]

  region_no_letter : (v r : List ℕ) → Region spells v → HeadFails is_letter r → HeadFails is_letter (v ++ r)
  region_no_letter v r region h = elim region [
    | inl j ↦
        let at : v ++ r ≡ j.prefix ++ (j.back ++ r) = ap (λ (w : List ℕ). w ++ r) j.is ∙ append_assoc j.prefix j.back r in
        let l = is.leads j.prefix (j.back ++ r) j.first in
        subst (HeadFails is_letter) (sym (at ∙ l.is)) l.no_letter
    | inr empty ↦ subst (λ (w : List ℕ). HeadFails is_letter (w ++ r)) (sym empty) h
  ]

  third_taken : (w s : List ℕ) → Third w → HeadFails is_letter s → third_end (w ++ s) ≡ Ok s
  third_taken w s third h = elim third [
    | inl o ↦ ap (λ (x : List ℕ). third_end (x ++ s)) o.is ∙ third_some o.byte s o.passed
    | inr empty ↦ ap (λ (x : List ℕ). third_end (x ++ s)) empty ∙ third_none s h
  ]

  two_taken : (u s : List ℕ) → Run 2 is_letter u → letters_end (u ++ s) ≡ Ok s
  two_taken [] s all = absurd (omega (arith, all.count))
  two_taken (a ∷ []) s all = absurd (omega (arith, all.count))
  two_taken (a ∷ b ∷ c ∷ u) s all = absurd (omega (arith, all.count))
  two_taken (a ∷ b ∷ []) s all =
      let p = and_parts (is_letter a) (is_letter b && true) all.passed in
      let q = and_parts (is_letter b) true p.1 in
      letters_taken a b s p.0 q.0

  -- each tag is taken if the bytes after it don't extend it
  pub tag_taken : (u r : List ℕ) → Tag spells u → TagEnds begins r → tag_end begins hyphen (u ++ r) ≡ Ok r
  unfolding tag_end
  tag_taken u r j h =
      let prefix = j.first in
      let behind : List ℕ = j.back ++ r in
      let at : u ++ r ≡ prefix.prefix ++ (prefix.back ++ behind) = ap (λ (w : List ℕ). w ++ r) j.is ∙ append_assoc j.prefix j.back r ∙ ap (λ (w : List ℕ). w ++ behind) prefix.is ∙ append_assoc prefix.prefix prefix.back behind in
      ap (λ (s : List ℕ). letters_end s >>= third_end >>= region_end begins hyphen) at
      ∙ ap (λ (x : Result (List ℕ) ℕ). x >>= third_end >>= region_end begins hyphen) (two_taken prefix.prefix (prefix.back ++ behind) prefix.first)
      ∙ ap (λ (x : Result (List ℕ) ℕ). x >>= region_end begins hyphen) (third_taken prefix.back behind prefix.second (region_no_letter j.back r j.second h.letter))
      ∙ region_taken j.back r j.second h.hyphen

-- ---- tags whose hyphen has no backslash

bare_is : (h : List ℕ) → is_bare_hyphen h ≡ true → h ≡ 45 ∷ []
bare_is [] e = absurd cc
bare_is (c ∷ []) e = ap (λ (d : ℕ). d ∷ []) (eqb-true c 45 e)
bare_is (c ∷ d ∷ s) e = absurd cc

pub code_text : (u : List ℕ) → CodeCase u → Code u
code_text _ (letters x y hx hy) = inr (record { count = refl; passed = and_from _ _ hx (and_from _ _ hy refl) })
code_text _ (digits x y z hx hy hz) = inl (record { count = refl; passed = and_from _ _ hx (and_from _ _ hy (and_from _ _ hz refl)) })

region_text : (v : List ℕ) → RegionCase v → Region is_bare_hyphen v
region_text _ none = inr refl
region_text _ (behind u code) = inl (record { prefix = 45 ∷ []; back = u; is = refl; first = refl; second = code_text u code })

pub two_letters : (a b : ℕ) → is_letter a ≡ true → is_letter b ≡ true → Run 2 is_letter (a ∷ b ∷ [])
two_letters a b ha hb = record { count = refl; passed = and_from _ _ ha (and_from _ _ hb refl) }

-- bytes in one of the cases are a tag whose hyphen has no backslash
pub tag_text : (t : List ℕ) → TagCase t → Tag is_bare_hyphen t
tag_text _ (two a b v ha hb region) = record {
  prefix = a ∷ b ∷ [];
  back = v;
  is = refl;
  first = record { prefix = a ∷ b ∷ []; back = []; is = refl; first = two_letters a b ha hb; second = inr refl };
  second = region_text v region;
}
tag_text _ (three a b c v ha hb hc region) = record {
  prefix = a ∷ b ∷ c ∷ [];
  back = v;
  is = refl;
  first = record { prefix = a ∷ b ∷ []; back = c ∷ []; is = refl; first = two_letters a b ha hb; second = inl (record { byte = c; is = refl; passed = hc }) };
  second = region_text v region;
}

text_region : (v : List ℕ) → Region is_bare_hyphen v → RegionCase v
text_region v region = elim region [
  | inl j ↦ subst RegionCase (sym (j.is ∙ ap (λ (w : List ℕ). w ++ j.back) (bare_is j.prefix j.first))) (behind j.back (code_case j.back j.second))
  | inr empty ↦ subst RegionCase (sym empty) none
]

-- a tag whose hyphen has no backslash is in one of the cases
pub text_tag : (t : List ℕ) → Tag is_bare_hyphen t → TagCase t
text_tag t j =
    subst TagCase (sym (j.is ∙ ap (λ (u : List ℕ). u ++ j.back) j.first.is)) (tag_of j.first.prefix j.first.back j.back j.first.first j.first.second (text_region j.back j.second))
