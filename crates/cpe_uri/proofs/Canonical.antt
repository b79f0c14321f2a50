-- Lemmas: the canonical URI of a name is a URI of the name in lower case.
use Rattle.std.proofs.Common.{◌≡◌, cond, ℕ, zero, suc, ◌+◌, ◌*◌, ◌/◌, ◌%◌, ◌<◌, ◌≤◌, Bool, true, false, not, ◌&&◌, ◌||◌, eqb, nat_eq, List, [], ◌∷◌, ◌++◌, length, get_or, map, replicate, codes, refl, sym, ap, subst, ◌∙◌, inl, inr, arith}
use Rattle.std.specs.List.{flat_map, list_all, join_with_byte, AllByRecursion}
use Rattle.std.specs.Char.{to_ascii_lowercase}
use Rattle.std.proofs.lemmas.Bool.{cases_Bool, eq-eqb, and_parts, and_from}
use Rattle.std.proofs.lemmas.Bool.Decides.{nat_tests}
use Rattle.std.proofs.lemmas.List.{map-append, append-nil}
use Rattle.std.proofs.lemmas.List.Folds.{list_all-append}
use Rattle.std.proofs.lemmas.Str.Ascii.{lowercase-lowercase}
use Rattle.cpe_values.specs.declared.value.Edge.{Edge}
use Rattle.cpe_values.specs.declared.value.Edge.TheVariants as edge
use Rattle.cpe_values.specs.declared.value.Value.{Value}
use Rattle.cpe_values.specs.declared.value.Value.TheVariants as value
use Rattle.cpe_values.specs.declared.spelling.Style.TheVariants as style
use Rattle.cpe_values.specs.Parts.{Parts, parts, is_character, IsText}
use Rattle.cpe_values.specs.Spelling.{is_bare}
use Rattle.cpe_values.specs.Lower.{lower_parts, lower_value}
use Rattle.cpe_values.specs.Values.{IsValue}
use Rattle.cpe_name.specs.Eleven.{Values}
use Rattle.cpe_name.specs.declared.attribute.Attribute.{Attribute}
use Rattle.cpe_name.specs.declared.attribute.Attribute.TheVariants.{Part, Vendor, Product, Version, Update, Edition, Language}
use Rattle.cpe_name.specs.Names.{named, attributes, value_of, IsName}
use Rattle.cpe_name.specs.Lower.{lower_name, IsLower}
use Rattle.cpe_name.proofs.LowerNames.{lower_at}
use Rattle.cpe_name.proofs.WholeTexts.{good_value}
use Rattle.cpe_uri.specs.Spelling.{edge_codes, text_codes, hex_digit, uri_character, uri_component, is_hex, hex_value, has_percent_form, spells, Spelled, IsSpellingOf}
use Rattle.cpe_uri.specs.Canon.{is_any_component, extended, packed, edition_component, components, trimmed, canon}
use Rattle.cpe_uri.specs.Grammar.{is_tilde, begins_with_tilde, Fields, IsEditionSpelling, Uri}
use Rattle.cpe_uri.proofs.Texts.{edge_lower}

-- ---- codes

-- whether a number is a code: 1 for `?`, 2 for `*`, or a character, which is its own code
abbrev pub is_code : ℕ → Bool
is_code c = eqb c 1 || eqb c 2 || is_character c

small : (c : ℕ) → is_code c ≡ true → c < 127
small c h = grind (arith, nat_tests)

pub digit_is_hex : (n : ℕ) → n < 16 → is_hex (hex_digit n) ≡ true
digit_is_hex n h = grind (arith, nat_tests)

pub digit_value : (n : ℕ) → n < 16 → hex_value (hex_digit n) ≡ n
digit_value n h = grind (arith, nat_tests)

coded : (c : ℕ) → is_code c ≡ true → is_bare style.Formatted c ≡ false → has_percent_form c ≡ true
coded c h k = grind (arith, nat_tests)

no_letter : (c : ℕ) → is_bare style.Formatted c ≡ false → to_ascii_lowercase c ≡ c
no_letter c h = grind (arith, nat_tests)

-- the canonical spelling of a code is an accepted spelling of the code in lower case
pub character_spells : (c : ℕ) → is_code c ≡ true → spells (to_ascii_lowercase c) (uri_character c) ≡ true
character_spells c h = elim (cases_Bool (is_bare style.Formatted c)) [
  | inl bare ↦ rw bare (and_from (is_bare style.Formatted c || eqb c 126) (eqb (to_ascii_lowercase c) (to_ascii_lowercase c)) (rw bare refl) (eq-eqb _ _ refl))
  | inr other ↦
      let low : to_ascii_lowercase c ≡ c = no_letter c other in
      let high : c / 16 < 16 = omega (arith, small c h) in
      let rest : c % 16 < 16 = omega arith in
      let sum : eqb (16 * hex_value (hex_digit (c / 16)) + hex_value (hex_digit (c % 16))) c ≡ true = rw (digit_value (c / 16) high, digit_value (c % 16) rest) (eq-eqb _ _ (omega arith)) in
      ap (λ (x : ℕ). spells x (uri_character c)) low ∙ rw (other, digit_is_hex (c / 16) high, digit_is_hex (c % 16) rest, sum) (coded c h other)
]

pub codes_spelled : (cs : List ℕ) → list_all is_code cs ≡ true → Spelled (map to_ascii_lowercase cs) (flat_map uri_character cs)
codes_spelled [] h = refl
codes_spelled (c ∷ cs) h =
    let p = and_parts (is_code c) (list_all is_code cs) h in
    (uri_character c, flat_map uri_character cs, refl, character_spells c p.0, codes_spelled cs p.1)

-- ---- texts and values

marks_codes : (n : ℕ) → list_all is_code (replicate n 1) ≡ true
marks_codes zero = refl
marks_codes (suc n) = marks_codes n

edge_are_codes : (e : Edge) → list_all is_code (edge_codes e) ≡ true
edge_are_codes edge.None = refl
edge_are_codes edge.Star = refl
edge_are_codes (edge.Marks n) = marks_codes n

body_codes : (b : List ℕ) → list_all is_character b ≡ true → list_all is_code b ≡ true
body_codes [] h = refl
body_codes (c ∷ b) h =
    let p = and_parts (is_character c) (list_all is_character b) h in
    let code : is_code c ≡ true = grind (arith, nat_tests, p.0) in
    and_from _ _ code (body_codes b p.1)

text_are_codes : (t : Parts) → IsText t → list_all is_code (text_codes t) ≡ true
text_are_codes t is =
    let body : list_all is_code t.body ≡ true = body_codes t.body is.characters in
    rw (list_all-append is_code (edge_codes t.lead ++ t.body) (edge_codes t.trail), list_all-append is_code (edge_codes t.lead) t.body, edge_are_codes t.lead, body) (edge_are_codes t.trail)

-- the codes of a text, in lower case, are those of the text in lower case
codes_low : (t : Parts) → map to_ascii_lowercase (text_codes t) ≡ text_codes (lower_parts t)
codes_low t = rw (map-append to_ascii_lowercase (edge_codes t.lead ++ t.body) (edge_codes t.trail), map-append to_ascii_lowercase (edge_codes t.lead) t.body, edge_lower t.lead, edge_lower t.trail) refl

-- the canonical spelling of a value is an accepted spelling of the value in lower case
pub value_is_spelled : (v : Value) → IsValue v → IsSpellingOf (lower_value v) (uri_component v)
value_is_spelled value.Any is = refl
value_is_spelled value.Na is = refl
value_is_spelled (value.Text t) is = subst (λ (cs : List ℕ). Spelled cs (uri_component (value.Text t))) (codes_low t) (codes_spelled (text_codes t) (text_are_codes t is))

-- ---- a component has neither a colon nor a tilde

-- the byte is neither a colon nor a tilde
abbrev pub is_quiet : ℕ → Bool
is_quiet c = not (is_tilde c) && not (eqb c 58)

digit_quiet : (n : ℕ) → n < 16 → is_quiet (hex_digit n) ≡ true
digit_quiet n h = grind (arith, nat_tests)

bare_quiet : (c : ℕ) → is_bare style.Formatted c ≡ true → is_quiet c ≡ true
bare_quiet c h = grind (arith, nat_tests)

character_quiet : (c : ℕ) → is_code c ≡ true → list_all is_quiet (uri_character c) ≡ true
character_quiet c h = elim (cases_Bool (is_bare style.Formatted c)) [
  | inl bare ↦ rw (bare, bare_quiet c bare) refl
  | inr other ↦ rw (other, digit_quiet (c / 16) (omega (arith, small c h)), digit_quiet (c % 16) (omega arith)) refl
]

codes_quiet : (cs : List ℕ) → list_all is_code cs ≡ true → list_all is_quiet (flat_map uri_character cs) ≡ true
codes_quiet [] h = refl
codes_quiet (c ∷ cs) h =
    let p = and_parts (is_code c) (list_all is_code cs) h in
    rw (list_all-append is_quiet (uri_character c) (flat_map uri_character cs), character_quiet c p.0) (codes_quiet cs p.1)

value_quiet : (v : Value) → IsValue v → list_all is_quiet (uri_component v) ≡ true
value_quiet value.Any is = refl
value_quiet value.Na is = refl
value_quiet (value.Text t) is = codes_quiet (text_codes t) (text_are_codes t is)

quiet_untilded : (s : List ℕ) → list_all is_quiet s ≡ true → list_all (λ c. not (is_tilde c)) s ≡ true
quiet_untilded [] h = refl
quiet_untilded (c ∷ s) h =
    let p = and_parts (is_quiet c) (list_all is_quiet s) h in
    and_from _ _ ((and_parts _ _ p.0).0) (quiet_untilded s p.1)

untilded_start : (s : List ℕ) → list_all (λ c. not (is_tilde c)) s ≡ true → begins_with_tilde s ≡ false
untilded_start [] h = refl
untilded_start (c ∷ s) h = elim (cases_Bool (is_tilde c)) [
  | inl tilde ↦ let no : false ≡ true = rw tilde at h in absurd (cc)
  | inr other ↦ other
]

quiet_uncoloned : (s : List ℕ) → list_all is_quiet s ≡ true → list_all (λ c. not (eqb c 58)) s ≡ true
quiet_uncoloned [] h = refl
quiet_uncoloned (c ∷ s) h =
    let p = and_parts (is_quiet c) (list_all is_quiet s) h in
    and_from _ _ ((and_parts _ _ p.0).1) (quiet_uncoloned s p.1)

-- ---- the edition

any_low : (v : Value) → is_any_component v ≡ true → lower_value v ≡ value.Any
any_low value.Any h = refl
any_low value.Na h = absurd cc
any_low (value.Text t) h = absurd cc

-- the components of a name are accepted spellings of its values in lower case
module _ (w : Values) (name : IsName w) where
  present : (a : Attribute) → IsSpellingOf (value_of (lower_name w) a) (uri_component (value_of w a))
  present a = subst (λ (v : Value). IsSpellingOf v (uri_component (value_of w a))) (sym (lower_at w a)) (value_is_spelled (value_of w a) (good_value w a name))

  untilded : (a : Attribute) → list_all (λ c. not (is_tilde c)) (uri_component (value_of w a)) ≡ true
  untilded a = quiet_untilded (uri_component (value_of w a)) (value_quiet (value_of w a) (good_value w a name))

  fields_spelled : (which : List Attribute) → Fields (lower_name w) which (flat_map (λ a. 126 ∷ uri_component (value_of w a)) which)
  fields_spelled [] = refl
  fields_spelled (a ∷ rest) = (uri_component (value_of w a), flat_map (λ b. 126 ∷ uri_component (value_of w b)) rest, refl, present a, untilded a, fields_spelled rest)

  others_any : (which : List Attribute) → list_all (λ a. is_any_component (value_of w a)) which ≡ true → AllByRecursion (λ a. value_of (lower_name w) a ≡ value.Any) which
  others_any [] h = tt
  others_any (a ∷ rest) h =
      let p = and_parts (is_any_component (value_of w a)) (list_all (λ b. is_any_component (value_of w b)) rest) h in
      (lower_at w a ∙ any_low (value_of w a) p.0, others_any rest p.1)

  edition_spelled : IsEditionSpelling (lower_name w) (edition_component w)
  edition_spelled = elim (cases_Bool (list_all (λ a. is_any_component (value_of w a)) extended)) [
    | inl any ↦ subst (IsEditionSpelling (lower_name w)) (sym (alone_is any)) (inl (record { bare = untilded_start (uri_component w.edition) (untilded Edition); edition = present Edition; others = others_any extended any }))
    | inr some ↦ subst (IsEditionSpelling (lower_name w)) (sym (packed_is some)) (inr (fields_spelled (Edition ∷ extended)))
  ]
    where
      alone_is : list_all (λ a. is_any_component (value_of w a)) extended ≡ true → edition_component w ≡ uri_component w.edition
      alone_is h = rw h refl

      packed_is : list_all (λ a. is_any_component (value_of w a)) extended ≡ false → edition_component w ≡ packed w
      packed_is h = rw h refl

-- ---- colons at the end

abbrev pub is_empty : List ℕ → Bool
is_empty [] = true
is_empty (c ∷ s) = false

-- the components, with a colon before each
abbrev pub behind_colons : List (List ℕ) → List ℕ
behind_colons cs = flat_map (λ c. 58 ∷ c) cs

-- the components, without the empty ones at the end
abbrev pub kept_behind : List (List ℕ) → List (List ℕ)
kept_behind [] = []
kept_behind (c ∷ cs) = cond (list_all is_empty (c ∷ cs)) [] (c ∷ kept_behind cs)

-- the components, without the empty ones at the end, except that the first component is kept
abbrev pub kept : List (List ℕ) → List (List ℕ)
kept [] = []
kept (c ∷ cs) = c ∷ kept_behind cs

-- no byte of the text is a colon
abbrev pub Uncoloned : List ℕ → Type 0
Uncoloned s = list_all (λ c. not (eqb c 58)) s ≡ true

joined : (c : List ℕ) (cs : List (List ℕ)) → join_with_byte 58 (c ∷ cs) ≡ c ++ behind_colons cs
joined c [] = sym (append-nil c)
joined c (d ∷ cs) = ap (λ (u : List ℕ). c ++ 58 ∷ u) (joined d cs)

other_byte : (b : ℕ) → not (eqb b 58) ≡ true → nat_eq 58 b ≡ false
other_byte b h = grind (arith, nat_tests)

-- trimming keeps a beginning that has no colons
trimmed_through : (c s : List ℕ) → Uncoloned c → trimmed 58 (c ++ s) ≡ c ++ trimmed 58 s
trimmed_through [] s h = refl
trimmed_through (b ∷ c) s h =
    let p = and_parts (not (eqb b 58)) (list_all (λ d. not (eqb d 58)) c) h in
    rw (other_byte b p.0) (ap (λ (u : List ℕ). b ∷ u) (trimmed_through c s p.1))

all_colons : (cs : List (List ℕ)) → AllByRecursion Uncoloned cs → list_all (nat_eq 58) (behind_colons cs) ≡ list_all is_empty cs
all_colons [] h = refl
all_colons ([] ∷ cs) h = all_colons cs h.1
all_colons ((b ∷ c) ∷ cs) h =
    let p = and_parts (not (eqb b 58)) (list_all (λ d. not (eqb d 58)) c) h.0 in
    rw (other_byte b p.0) refl

trimmed_behind : (cs : List (List ℕ)) → AllByRecursion Uncoloned cs → trimmed 58 (behind_colons cs) ≡ behind_colons (kept_behind cs)
trimmed_behind [] h = refl
trimmed_behind (c ∷ cs) h =
    elim (cases_Bool (list_all is_empty (c ∷ cs))) [
      | inl all ↦ let colons : list_all (nat_eq 58) (behind_colons (c ∷ cs)) ≡ true = all_colons (c ∷ cs) h ∙ all in rw (colons, all) refl
      | inr some ↦
          let colons : list_all (nat_eq 58) (behind_colons (c ∷ cs)) ≡ false = all_colons (c ∷ cs) h ∙ some in
          rw (colons, some) (ap (λ (u : List ℕ). 58 ∷ u) (trimmed_through c (behind_colons cs) h.0 ∙ ap (λ (u : List ℕ). c ++ u) (trimmed_behind cs h.1)))
    ]

-- the trimmed URI has the components, without the empty ones at the end
trimmed_join : (c : List ℕ) (cs : List (List ℕ)) → AllByRecursion Uncoloned (c ∷ cs) → trimmed 58 (codes "cpe:/" ++ join_with_byte 58 (c ∷ cs)) ≡ codes "cpe:/" ++ join_with_byte 58 (kept (c ∷ cs))
trimmed_join c cs h =
    ap (λ (u : List ℕ). codes "cpe:/" ++ u) (ap (trimmed 58) (joined c cs) ∙ trimmed_through c (behind_colons cs) h.0 ∙ ap (λ (u : List ℕ). c ++ u) (trimmed_behind cs h.1) ∙ sym (joined c (kept_behind cs)))

all_empty : (cs : List (List ℕ)) (i : ℕ) → list_all is_empty cs ≡ true → get_or cs i [] ≡ []
all_empty [] i h = refl
all_empty ([] ∷ cs) zero h = refl
all_empty ([] ∷ cs) (suc i) h = all_empty cs i h
all_empty ((b ∷ c) ∷ cs) i h = absurd cc

kept_behind_at : (cs : List (List ℕ)) (i : ℕ) → get_or (kept_behind cs) i [] ≡ get_or cs i []
kept_behind_at [] i = refl
kept_behind_at (c ∷ cs) zero = elim (cases_Bool (list_all is_empty (c ∷ cs))) [
  | inl all ↦ rw all (sym (all_empty (c ∷ cs) zero all))
  | inr some ↦ rw some refl
]
kept_behind_at (c ∷ cs) (suc i) = elim (cases_Bool (list_all is_empty (c ∷ cs))) [
  | inl all ↦ rw all (sym (all_empty (c ∷ cs) (suc i) all))
  | inr some ↦ rw some (kept_behind_at cs i)
]

-- a component that was dropped counts as empty, so each component is unchanged
kept_at : (cs : List (List ℕ)) (i : ℕ) → get_or (kept cs) i [] ≡ get_or cs i []
kept_at [] i = refl
kept_at (c ∷ cs) zero = refl
kept_at (c ∷ cs) (suc i) = kept_behind_at cs i

kept_behind_few : (cs : List (List ℕ)) → length (kept_behind cs) ≤ length cs
kept_behind_few [] = omega arith
kept_behind_few (c ∷ cs) = elim (cases_Bool (list_all is_empty (c ∷ cs))) [
  | inl all ↦ rw all (omega arith)
  | inr some ↦ rw some (omega (arith, kept_behind_few cs))
]

-- ---- the whole URI

value_again : (v : Value) → lower_value (lower_value v) ≡ lower_value v
value_again value.Any = refl
value_again value.Na = refl
value_again (value.Text t) = ap (λ (b : List ℕ). value.Text (parts t.lead b t.trail)) (again t.body)
  where
    again : (b : List ℕ) → map to_ascii_lowercase (map to_ascii_lowercase b) ≡ map to_ascii_lowercase b
    again [] = refl
    again (c ∷ b) = rw (lowercase-lowercase c) (ap (λ (u : List ℕ). to_ascii_lowercase c ∷ u) (again b))

-- `lower_name` returns a name in lower case
pub lower_is_lower : (w : Values) → IsLower (lower_name w)
lower_is_lower w = ap named (again attributes)
  where
    again : (which : List Attribute) → map (λ a. lower_value (value_of (lower_name w) a)) which ≡ map (λ a. lower_value (value_of w a)) which
    again [] = refl
    again (a ∷ rest) =
        let same : lower_value (value_of (lower_name w) a) ≡ lower_value (value_of w a) = ap lower_value (lower_at w a) ∙ value_again (value_of w a) in
        cc (same, again rest)

module _ (w : Values) (name : IsName w) where
  uncoloned : (a : Attribute) → Uncoloned (uri_component (value_of w a))
  uncoloned a = quiet_uncoloned (uri_component (value_of w a)) (value_quiet (value_of w a) (good_value w a name))

  packed_uncoloned : (which : List Attribute) → Uncoloned (flat_map (λ a. 126 ∷ uri_component (value_of w a)) which)
  packed_uncoloned [] = refl
  packed_uncoloned (a ∷ rest) = rw (list_all-append (λ c. not (eqb c 58)) (uri_component (value_of w a)) (flat_map (λ b. 126 ∷ uri_component (value_of w b)) rest), uncoloned a) (packed_uncoloned rest)

  edition_uncoloned : Uncoloned (edition_component w)
  edition_uncoloned = elim (cases_Bool (list_all (λ a. is_any_component (value_of w a)) extended)) [
    | inl any ↦ rw any (uncoloned Edition)
    | inr some ↦ rw some (packed_uncoloned (Edition ∷ extended))
  ]

  -- the components after the first
  abbrev pub behind : List (List ℕ)
  behind = uri_component w.vendor ∷ uri_component w.product ∷ uri_component w.version ∷ uri_component w.update ∷ edition_component w ∷ uri_component w.language ∷ []

  kept_spelled : (a : Attribute) (i : ℕ) → get_or (components w) i [] ≡ uri_component (value_of w a) → IsSpellingOf (value_of (lower_name w) a) (get_or (kept (components w)) i [])
  kept_spelled a i is = subst (IsSpellingOf (value_of (lower_name w) a)) (sym is ∙ sym (kept_at (components w) i)) (present w name a)

  -- the canonical URI of a name is a URI of the name in lower case
  pub canon_spelled : IsName (lower_name w) → Uri (lower_name w) (canon w)
  canon_spelled lowered = record {
    name = lowered;
    lower = lower_is_lower w;
    prefix = codes "cpe:/";
    components = kept (components w);
    text = trimmed_join (uri_component w.part) behind (uncoloned Part, (uncoloned Vendor, (uncoloned Product, (uncoloned Version, (uncoloned Update, (edition_uncoloned, (uncoloned Language, tt)))))));
    begins = refl;
    some = omega arith;
    few = omega (arith, kept_behind_few behind);
    part = kept_spelled Part 0 refl;
    vendor = kept_spelled Vendor 1 refl;
    product = kept_spelled Product 2 refl;
    version = kept_spelled Version 3 refl;
    update = kept_spelled Update 4 refl;
    edition = subst (IsEditionSpelling (lower_name w)) (sym (kept_at (components w) 5)) (edition_spelled w name);
    language = kept_spelled Language 6 refl;
  }
