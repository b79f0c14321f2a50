-- Lemmas: the value that has a component.
use Rattle.std.proofs.Common.{◌≡◌, ◌≢◌, ℕ, true, false, List, [], ◌∷◌, map, refl, sym, ap, subst, ◌∙◌, inl, inr}
use Rattle.std.proofs.lemmas.Bool.{cases_Bool, eqb-true, both_ways}
use Rattle.std.specs.List.{AllByRecursion}
use Rattle.cpe_values.specs.declared.value.Edge.TheVariants as edge
use Rattle.cpe_values.specs.declared.value.Value.{Value}
use Rattle.cpe_values.specs.declared.value.Value.TheVariants as value
use Rattle.cpe_values.specs.declared.spelling.Style.TheVariants as style
use Rattle.cpe_values.specs.Parts.{Parts, parts, IsText}
use Rattle.cpe_values.specs.Spelling.{spelling}
use Rattle.cpe_values.specs.Values.{IsValue}
use Rattle.cpe_name.specs.Eleven.{Values, Written}
use Rattle.cpe_name.specs.declared.attribute.Attribute.{Attribute}
use Rattle.cpe_name.specs.Names.{attributes, value_of, IsName, named}
use Rattle.cpe_fs.specs.Grammar.{fs_component}
use Rattle.cpe_fs.specs.Spans.{is_only, IsFsSpan, AreFsComponents}
use Rattle.cpe_name.specs.Spans.{texts}
use Rattle.cpe_values.specs.declared.spelling.Style.{Style}
use Rattle.cpe_values.specs.Spelled.{IsSpelling}
use Rattle.cpe_values.specs.Unspelling.{body_at, behind_body, parts_at}
use Rattle.cpe_values.proofs.Unspelled.{parts_back, parts_are}
use Rattle.cpe_fs.specs.SpanValues.{fs_value_at}
use Rattle.cpe_name.proofs.Items.{good_of}
use Rattle.cpe_fs.proofs.Whole.{AllSuit, values_of, named_values, suit_values}

-- ---- values

-- a component that is only this byte
pub only_is : (byte : ℕ) (s : List ℕ) → is_only byte s ≡ true → s ≡ byte ∷ []
only_is byte [] h = absurd cc
only_is byte (c ∷ []) h = ap (λ (d : ℕ). d ∷ []) (eqb-true c byte h)
only_is byte (c ∷ d ∷ s) h = absurd cc

-- if the parts of a component are those of neither `*` nor `-`, its value is a text
text_value : (s : List ℕ) → (parts_at s).body ≢ [] → parts_at s ≢ parts edge.None (45 ∷ []) edge.None → fs_value_at s ≡ value.Text (parts_at s)
unfolding body_at behind_body
text_value s some other =
    elim (cases_Bool (is_only 42 s)) [
      | inl h ↦ absurd (some (ap (λ (u : List ℕ). (parts_at u).body) (only_is 42 s h)))
      | inr h ↦ elim (cases_Bool (is_only 45 s)) [
        | inl k ↦ absurd (other (ap parts_at (only_is 45 s k)))
        | inr k ↦ rw (h, k) refl
      ]
    ]

-- a component is that of at most one value
pub value_back : (v : Value) → IsValue v → fs_value_at (fs_component v) ≡ v
value_back value.Any good = refl
value_back value.Na good = refl
value_back (value.Text t) good =
    let back = parts_back style.Formatted t good in
    text_value (spelling style.Formatted t) (λ e. good.some (ap (λ (x : Parts). x.body) (sym back) ∙ e)) (λ e. good.no_hyphen (sym back ∙ e)) ∙ ap value.Text back

-- a component that is neither `*` nor `-` spells a text
pub spells_text : (s : List ℕ) → IsFsSpan s → is_only 42 s ≡ false → is_only 45 s ≡ false → IsSpelling s
spells_text s is any na = go is.value is.good is.spells where
  go : (v : Value) → IsValue v → fs_component v ≡ s → IsSpelling s
  go value.Any good spells = absurd (both_ways (is_only 42 s) any (ap (is_only 42) (sym spells)))
  go value.Na good spells = absurd (both_ways (is_only 45 s) na (ap (is_only 45) (sym spells)))
  go (value.Text t) good spells = record { spelled_in = style.Formatted; text = t; good = good; spells = spells }

-- the parts that are read from such a component are those of its value
pub text_read : (s : List ℕ) (read : Parts) → IsFsSpan s → is_only 42 s ≡ false → is_only 45 s ≡ false
    → ((sty : Style) (t : Parts) → IsText t → spelling sty t ≡ s → read ≡ t) → value.Text read ≡ fs_value_at s
text_read s read span any na scans =
    let is : IsSpelling s = spells_text s span any na in
    let there : read ≡ parts_at s = scans is.spelled_in is.text is.good is.spells ∙ sym (parts_are is.spelled_in is.text s is.good is.spells) in
    ap value.Text there ∙ rw (any, na) refl

-- ---- the values of a name

are_spans : (which : List Attribute) (vs : List Value) → AllSuit which vs → AllByRecursion IsFsSpan (map fs_component vs)
are_spans [] [] h = tt
are_spans [] (v ∷ vs) h = absurd h
are_spans (a ∷ rest) [] h = absurd h
are_spans (a ∷ rest) (v ∷ vs) h = (record { value = v; good = good_of a v h.0; spells = refl }, are_spans rest vs h.1)

values_back : (which : List Attribute) (vs : List Value) → AllSuit which vs → map fs_value_at (map fs_component vs) ≡ vs
values_back [] [] h = refl
values_back [] (v ∷ vs) h = absurd h
values_back (a ∷ rest) [] h = absurd h
values_back (a ∷ rest) (v ∷ vs) h = ap (λ (u : Value). u ∷ map fs_value_at (map fs_component vs)) (value_back v (good_of a v h.0)) ∙ ap (λ (us : List Value). v ∷ us) (values_back rest vs h.1)

-- the components of a name are components of values
pub spans_are : (s : List ℕ) (c : Written) → AreFsComponents s c → AllByRecursion IsFsSpan (texts c)
spans_are s c are = subst (AllByRecursion IsFsSpan) (sym are.are) (are_spans attributes (values_of are.name) (suit_values are.name are.fs.0))

-- the values at the components of a name are the name's values
pub named_back : (w : Values) → IsName w → named (map fs_value_at (map (λ a. fs_component (value_of w a)) attributes)) ≡ w
named_back w good = ap named (values_back attributes (values_of w) (suit_values w good)) ∙ named_values w

-- the values at the found components are those of the name
pub name_back : (s : List ℕ) (c : Written) (are : AreFsComponents s c) → named (map fs_value_at (texts c)) ≡ are.name
name_back s c are = ap (λ (us : List (List ℕ)). named (map fs_value_at us)) are.are ∙ named_back are.name are.fs.0
