-- Lemmas: the value that a piece of a URI spells.
use Rattle.std.proofs.Common.{◌≡◌, ℕ, zero, suc, true, false, eqb, List, [], ◌∷◌, length, map, get_or, refl, sym, ap, ◌∙◌, inl, inr}
use Rattle.std.specs.List.{AllByRecursion}
use Rattle.std.proofs.lemmas.List.{nil_from_length}
use Rattle.std.proofs.lemmas.Bool.{cases_Bool, eqb-true, both_ways}
use Rattle.cpe_values.specs.declared.value.Edge.TheVariants as edge
use Rattle.cpe_values.specs.declared.value.Value.{Value}
use Rattle.cpe_values.specs.declared.value.Value.TheVariants as value
use Rattle.cpe_values.specs.declared.spelling.Style.TheVariants as style
use Rattle.cpe_values.specs.Parts.{Parts, parts, IsText}
use Rattle.cpe_values.specs.Spelled.{IsSpelling}
use Rattle.cpe_values.specs.Values.{IsValue}
use Rattle.cpe_values.specs.Unspelling.{body_at, behind_body, parts_at}
use Rattle.cpe_values.proofs.Unspelled.{parts_are}
use Rattle.cpe_name.specs.Eleven.{Values, Written}
use Rattle.cpe_name.specs.declared.attribute.Attribute.{Attribute}
use Rattle.cpe_name.specs.declared.attribute.Attribute.TheVariants.{Part, Vendor, Product, Version, Update, Edition, Language, SwEdition, TargetSw, TargetHw, Other}
use Rattle.cpe_name.specs.Names.{attributes, value_of, Suits, IsName, named}
use Rattle.cpe_name.specs.Scanning.{slot}
use Rattle.cpe_name.specs.Spans.{texts}
use Rattle.cpe_name.proofs.Items.{good_of}
use Rattle.cpe_uri.specs.Spelling.{text_codes, Spelled, IsSpellingOf}
use Rattle.cpe_uri.specs.Spans.{AreUriComponents}
use Rattle.cpe_uri.specs.Rewriting.{rewritten, is_uri_hyphen}
use Rattle.cpe_uri.specs.SpanValues.{uri_value_at, IsUriSpan, AreSpans}
use Rattle.cpe_uri.proofs.Rewritten.{text_rewritten}

-- ---- one value

nothing_is : (s : List ℕ) → eqb (length s) 0 ≡ true → s ≡ []
nothing_is s h = nil_from_length s (eqb-true (length s) 0 h)

hyphen_is : (s : List ℕ) → is_uri_hyphen s ≡ true → s ≡ 45 ∷ []
hyphen_is [] h = absurd cc
hyphen_is (c ∷ []) h = ap (λ (d : ℕ). d ∷ []) (eqb-true c 45 h)
hyphen_is (c ∷ d ∷ s) h = absurd cc

-- the parts of a text are found from each spelling of the text
text_back : (t : Parts) (s : List ℕ) → IsText t → Spelled (text_codes t) s → parts_at (rewritten s) ≡ t
text_back t s good h = parts_are style.Wfn t (rewritten s) good (sym (text_rewritten t s good h))

none_found : (parts_at (rewritten [])).body ≡ []
unfolding rewritten body_at behind_body
none_found = refl

hyphen_found : parts_at (rewritten (45 ∷ [])) ≡ parts edge.None (45 ∷ []) edge.None
unfolding rewritten body_at behind_body
hyphen_found = refl

-- no text is spelled by an empty piece
pub text_some : (t : Parts) (s : List ℕ) → IsText t → Spelled (text_codes t) s → eqb (length s) 0 ≡ false
text_some t s good h = elim (cases_Bool (eqb (length s) 0)) [
  | inl k ↦ absurd (good.some (sym (ap (λ (x : Parts). x.body) (text_back t s good h)) ∙ ap (λ (u : List ℕ). (parts_at (rewritten u)).body) (nothing_is s k) ∙ none_found))
  | inr k ↦ k
]

-- no text is spelled by `-` alone
pub text_no_hyphen : (t : Parts) (s : List ℕ) → IsText t → Spelled (text_codes t) s → is_uri_hyphen s ≡ false
text_no_hyphen t s good h = elim (cases_Bool (is_uri_hyphen s)) [
  | inl k ↦ absurd (good.no_hyphen (sym (text_back t s good h) ∙ ap (λ (u : List ℕ). parts_at (rewritten u)) (hyphen_is s k) ∙ hyphen_found))
  | inr k ↦ k
]

-- `uri_value_at` returns the value that a piece spells
pub value_back : (v : Value) (s : List ℕ) → IsValue v → IsSpellingOf v s → uri_value_at s ≡ v
value_back value.Any s good h = ap uri_value_at h
value_back value.Na s good h = ap uri_value_at h
value_back (value.Text t) s good h = rw (text_some t s good h, text_no_hyphen t s good h) (ap value.Text (text_back t s good h))

-- a piece that spells neither ANY nor NA is, rewritten, the spelling of a text
pub spells_text : (s : List ℕ) → IsUriSpan s → eqb (length s) 0 ≡ false → is_uri_hyphen s ≡ false → IsSpelling (rewritten s)
spells_text s is any na = go is.value is.good is.present where
  go : (v : Value) → IsValue v → IsSpellingOf v s → IsSpelling (rewritten s)
  go value.Any good present = absurd (both_ways (eqb (length s) 0) any (ap (λ (u : List ℕ). eqb (length u) 0) present))
  go value.Na good present = absurd (both_ways (is_uri_hyphen s) na (ap is_uri_hyphen present))
  go (value.Text t) good present = record { spelled_in = style.Wfn; text = t; good = good; spells = sym (text_rewritten t s good present) }

-- ---- the values of a name

value_in : (us : List (List ℕ)) (n : ℕ) → get_or (map uri_value_at us) n value.Any ≡ uri_value_at (get_or us n [])
value_in [] n = refl
value_in (u ∷ us) zero = refl
value_in (u ∷ us) (suc n) = value_in us n

value_named : (us : List (List ℕ)) (a : Attribute) → value_of (named (map uri_value_at us)) a ≡ uri_value_at (slot us a)
value_named us Part = value_in us 0
value_named us Vendor = value_in us 1
value_named us Product = value_in us 2
value_named us Version = value_in us 3
value_named us Update = value_in us 4
value_named us Edition = value_in us 5
value_named us Language = value_in us 6
value_named us SwEdition = value_in us 7
value_named us TargetSw = value_in us 8
value_named us TargetHw = value_in us 9
value_named us Other = value_in us 10

-- these pieces spell the name's values of these attributes
abbrev pub AreSpelledIn : Values → List (List ℕ) → List Attribute → Type 0
AreSpelledIn w us which = AllByRecursion (λ a. IsSpellingOf (value_of w a) (slot us a)) which

values_same : (w : Values) (us : List (List ℕ)) (which : List Attribute) → AllByRecursion (λ a. Suits a (value_of w a)) which → AreSpelledIn w us which
    → map (value_of (named (map uri_value_at us))) which ≡ map (value_of w) which
values_same w us [] good h = refl
values_same w us (a ∷ which) good h =
    let here : value_of (named (map uri_value_at us)) a ≡ value_of w a = value_named us a ∙ value_back (value_of w a) (slot us a) (good_of a (value_of w a) good.0) h.0 in
    ap (λ (v : Value). v ∷ map (value_of (named (map uri_value_at us))) which) here ∙ ap (λ (vs : List Value). value_of w a ∷ vs) (values_same w us which good.1 h.1)

-- the values of these pieces make the name whose values the pieces spell
pub named_back : (w : Values) (us : List (List ℕ)) → IsName w → AreSpelledIn w us attributes → named (map uri_value_at us) ≡ w
named_back w us good h = ap named (values_same w us attributes good h)

-- the values of the found pieces make the name
pub name_back : (s : List ℕ) (c : Written) (are : AreUriComponents s c) → named (map uri_value_at (texts c)) ≡ are.name
name_back s c are = named_back are.name (texts c) are.uri.name are.are

spans_spelled : (w : Values) (us : List (List ℕ)) (which : List Attribute) → AllByRecursion (λ a. Suits a (value_of w a)) which → AreSpelledIn w us which → AreSpans (map (slot us) which)
spans_spelled w us [] good h = tt
spans_spelled w us (a ∷ which) good h =
    (record { value = value_of w a; good = good_of a (value_of w a) good.0; present = h.0 }, spans_spelled w us which good.1 h.1)

-- each piece spells a value
pub spans_are : (s : List ℕ) (c : Written) → AreUriComponents s c → AreSpans (texts c)
spans_are s c are = spans_spelled are.name (texts c) attributes are.uri.name are.are
