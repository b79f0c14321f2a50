-- Lemmas: a component with a backslash before each bare `.` and `-` is the text of its value.
use Rattle.std.proofs.Common.{◌≡◌, ◌≢◌, ℕ, true, false, ◌||◌, eqb, List, [], ◌∷◌, ◌++◌, refl, sym, ap, ◌∙◌, inl, inr, arith}
use Rattle.std.specs.List.{flat_map}
use Rattle.std.proofs.lemmas.List.Concat.{flat_map-append}
use Rattle.std.proofs.lemmas.Bool.{cases_Bool}
use Rattle.std.proofs.lemmas.Bool.Decides.{nat_tests}
use Rattle.cpe_values.specs.declared.value.Edge.{Edge}
use Rattle.cpe_values.specs.declared.value.Edge.TheVariants as edge
use Rattle.cpe_values.specs.declared.value.Value.{Value}
use Rattle.cpe_values.specs.declared.value.Value.TheVariants as value
use Rattle.cpe_values.specs.declared.spelling.Style.TheVariants as style
use Rattle.cpe_values.specs.Parts.{Parts, IsText}
use Rattle.cpe_values.specs.Values.{IsValue}
use Rattle.cpe_values.specs.Spelling.{edge_text, is_word, style_character, spelling}
use Rattle.cpe_name.specs.Names.{value_of}
use Rattle.cpe_name.specs.Text.{value_text, output_text}
use Rattle.cpe_name.specs.declared.attribute.Attribute.{Attribute}
use Rattle.cpe_name.specs.OutputFrom.{output_from}
use Rattle.cpe_name.specs.Scanning.{slot}
use Rattle.cpe_name.proofs.Lists.{slot_by}
use Rattle.cpe_name.proofs.OutputTexts.{output_from_is}
use Rattle.cpe_name.proofs.Repeated.{each_made}
use Rattle.cpe_name.proofs.WholeTexts.{good_value}
use Rattle.cpe_fs.specs.Grammar.{fs_component}
use Rattle.cpe_fs.specs.Spans.{is_only, AreFsComponents}
use Rattle.cpe_name.specs.Spans.{texts}
use Rattle.cpe_fs.specs.SpanValues.{fs_value_at}
use Rattle.cpe_fs.specs.Rewriting.{requoted, span_text}
use Rattle.cpe_name.specs.Eleven.{Written}
use Rattle.cpe_fs.proofs.ValueLemmas.{value_back, only_is}

word_is_kept : (c : ℕ) → is_word c ≡ true → (eqb c 46 || eqb c 45) ≡ false
word_is_kept c h = grind (arith, nat_tests)

quotes : (c : ℕ) → (eqb c 46 || eqb c 45) ≡ true → requoted c ≡ 92 ∷ c ∷ []
quotes c h = rw h refl

keeps : (c : ℕ) → (eqb c 46 || eqb c 45) ≡ false → requoted c ≡ c ∷ []
keeps c h = rw h refl

-- the spelling of a character in a formatted string, requoted, is its spelling in a name
character_requoted : (c : ℕ) → flat_map requoted (style_character style.Formatted c) ≡ style_character style.Wfn c
character_requoted c =
    elim (cases_Bool (is_word c)) [
      | inl w ↦ rw (w, word_is_kept c w) refl
      | inr w ↦
          elim (cases_Bool (eqb c 46)) [
            | inl d ↦ rw (w, d, quotes c (rw d refl)) refl
            | inr d ↦ elim (cases_Bool (eqb c 45)) [
              | inl h ↦ rw (w, d, h, quotes c (rw (d, h) refl)) refl
              | inr h ↦ rw (w, d, h, keeps c (rw (d, h) refl)) refl
            ]
          ]
    ]

body_requoted : (b : List ℕ) → flat_map requoted (flat_map (style_character style.Formatted) b) ≡ flat_map (style_character style.Wfn) b
body_requoted [] = refl
body_requoted (c ∷ b) =
    flat_map-append requoted (style_character style.Formatted c) (flat_map (style_character style.Formatted) b)
    ∙ ap (λ (u : List ℕ). u ++ flat_map requoted (flat_map (style_character style.Formatted) b)) (character_requoted c)
    ∙ ap (λ (u : List ℕ). style_character style.Wfn c ++ u) (body_requoted b)

edge_requoted : (e : Edge) → flat_map requoted (edge_text e) ≡ edge_text e
edge_requoted edge.None = refl
edge_requoted edge.Star = refl
edge_requoted (edge.Marks n) = each_made requoted 63 63 n refl

spelling_requoted : (t : Parts) → flat_map requoted (spelling style.Formatted t) ≡ spelling style.Wfn t
spelling_requoted t =
    flat_map-append requoted (edge_text t.lead ++ flat_map (style_character style.Formatted) t.body) (edge_text t.trail)
    ∙ ap (λ (u : List ℕ). u ++ flat_map requoted (edge_text t.trail)) (flat_map-append requoted (edge_text t.lead) (flat_map (style_character style.Formatted) t.body))
    ∙ rw (edge_requoted t.lead, body_requoted t.body, edge_requoted t.trail) refl

-- ---- components

-- the component of a text is neither `*` nor `-`
text_is_not : (t : Parts) (v : Value) (byte : ℕ) → IsText t → fs_value_at (byte ∷ []) ≡ v → value.Text t ≢ v → is_only byte (spelling style.Formatted t) ≡ false
text_is_not t v byte good is other =
    elim (cases_Bool (is_only byte (spelling style.Formatted t))) [
      | inl h ↦ absurd (other (sym (value_back (value.Text t) good) ∙ ap fs_value_at (only_is byte (spelling style.Formatted t) h) ∙ is))
      | inr h ↦ h
    ]

spelled : (v : Value) → IsValue v → span_text (fs_component v) ≡ value_text v
unfolding span_text
spelled value.Any good = refl
spelled value.Na good = refl
spelled (value.Text t) good =
    rw (text_is_not t value.Any 42 good refl (λ e. cc), text_is_not t value.Na 45 good refl (λ e. cc)) (ap (λ (u : List ℕ). 34 ∷ (u ++ 34 ∷ [])) (spelling_requoted t))

-- ---- names

-- what is written from the components is the output text of the name
pub components_say : (s : List ℕ) (c : Written) (are : AreFsComponents s c) → output_from span_text c ≡ output_text are.name
components_say s c are = output_from_is span_text are.name c each where
  each : (a : Attribute) → span_text (slot (texts c) a) ≡ value_text (value_of are.name a)
  each a =
      ap (λ (us : List (List ℕ)). span_text (slot us a)) are.are ∙ ap span_text (slot_by (λ b. fs_component (value_of are.name b)) a) ∙ spelled (value_of are.name a) (good_value are.name a are.fs.0)
