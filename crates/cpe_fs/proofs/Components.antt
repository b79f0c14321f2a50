-- Lemmas: the scanner of texts reads a text to its end exactly if the text is the component of a value.
use Rattle.std.proofs.Common.{◌≡◌, ℕ, true, false, List, [], ◌∷◌, Option, Some, None, Result, Ok, Err, refl, sym, ap, subst, ◌∙◌, inl, inr}
use Rattle.std.proofs.lemmas.List.{append-nil}
use Rattle.std.proofs.lemmas.Bool.{cases_Bool, both_ways}
use Rattle.cpe_values.specs.declared.value.Value.{Value}
use Rattle.cpe_fs.specs.Scanning.{text_end}
use Rattle.cpe_fs.specs.Spans.{IsFsSpan}
use Rattle.cpe_fs.specs.SpanValues.{fs_value_at}
use Rattle.cpe_fs.specs.Component.{HasComponent, IsFsComponent, is_taken, is_component, read_component}
use Rattle.cpe_fs.proofs.Texts.{text_scans, text_taken}
use Rattle.cpe_fs.proofs.ValueLemmas.{value_back}

had : (s : List ℕ) → IsFsSpan s → IsFsComponent s
had s is = (is.value, (is.good, sym is.spells))

-- a text that the scanner reads to its end is the component of some value
taken : (s : List ℕ) (r : Result (List ℕ) ℕ) → text_end s ≡ r → is_taken r ≡ true → IsFsSpan s
taken s (Ok []) e h = let all = text_scans.takes s [] e in subst IsFsSpan (sym (all.cut ∙ append-nil all.taken)) all.lawful
taken s (Ok (c ∷ rest)) e h = absurd cc
taken s (Err left) e h = absurd cc

pub is_span : (s : List ℕ) → is_component s ≡ true → IsFsSpan s
unfolding is_component
is_span s h = taken s (text_end s) refl h

-- the scanner reads each component to its end
pub component_taken : (v : Value) (s : List ℕ) → HasComponent v s → is_component s ≡ true
unfolding is_component
component_taken v s has = ap is_taken (ap text_end (has.1 ∙ sym (append-nil _)) ∙ text_taken v [] has.0 tt)

-- `fs_value_at` returns a value that has this component
pub value_has : (s : List ℕ) → is_component s ≡ true → HasComponent (fs_value_at s) s
value_has s h =
    let is = is_span s h in
    subst (λ (v : Value). HasComponent v s) (sym (ap fs_value_at (sym is.spells) ∙ value_back is.value is.good)) (is.good, sym is.spells)

-- a component is that of only one value
pub one_value : (v : Value) (s : List ℕ) → HasComponent v s → fs_value_at s ≡ v
one_value v s has = ap fs_value_at has.1 ∙ value_back v has.0

pub not_component : (s : List ℕ) → is_component s ≡ false → ¬ (IsFsComponent s)
not_component s h = λ has. both_ways (is_component s) h (component_taken has.0 s has.1)

-- if `is_component` holds for a text, the text is the component of some value
pub is_of_some : (s : List ℕ) → is_component s ≡ true → IsFsComponent s
is_of_some s h = (fs_value_at s, value_has s h)

pub reads_value : (s : List ℕ) → is_component s ≡ true → read_component s ≡ Some (fs_value_at s)
unfolding read_component
reads_value s h = rw h refl

pub reads_none : (s : List ℕ) → is_component s ≡ false → read_component s ≡ None
unfolding read_component
reads_none s h = rw h refl

-- ---- the value that is read

-- `Some` with a fixed type, so that equations have one type
abbrev pub some_value : Value → Option Value
some_value v = Some v

abbrev pub no_value : Option Value
no_value = None

some_is : (v w : Value) → some_value v ≡ some_value w → v ≡ w
some_is v w e = cc

some≢none : (v : Value) → some_value v ≡ no_value → ⊥
some≢none v e = cc

-- a component is read as its value
pub read_value : (v : Value) (s : List ℕ) → HasComponent v s → read_component s ≡ Some v
read_value v s has = reads_value s (component_taken v s has) ∙ ap some_value (one_value v s has)

-- a value that is read has this component
pub read_has : (v : Value) (s : List ℕ) → read_component s ≡ Some v → HasComponent v s
read_has v s is =
    elim (cases_Bool (is_component s)) [
      | inl h ↦ subst (λ (u : Value). HasComponent u s) (some_is (fs_value_at s) v (sym (reads_value s h) ∙ is)) (value_has s h)
      | inr h ↦ absurd (some≢none v (sym is ∙ reads_none s h))
    ]

-- if no value is read, no value has this component
pub read_none : (s : List ℕ) → read_component s ≡ None → ¬ (IsFsComponent s)
read_none s is = λ has. some≢none has.0 (sym (read_value has.0 s has.1) ∙ is)
