-- Lemmas: what is written from the texts of values is the formatted string of their name.
use Rattle.std.proofs.Common.{◌≡◌, ℕ, zero, suc, true, false, ◌||◌, eqb, List, [], ◌∷◌, ◌++◌, length, replicate, refl, sym, ap, ◌∙◌, inl, inr, append_assoc, arith}
use Rattle.std.specs.Prelude.{codes}
use Rattle.std.specs.List.{flat_map}
use Rattle.std.proofs.lemmas.List.{append-nil}
use Rattle.std.proofs.lemmas.Bool.{cases_Bool, or_left, or_right, or_from}
use Rattle.std.proofs.lemmas.Bool.Decides.{nat_tests}
use Rattle.cpe_values.specs.declared.value.Edge.{Edge}
use Rattle.cpe_values.specs.declared.value.Edge.TheVariants as edge
use Rattle.cpe_values.specs.declared.value.Value.{Value}
use Rattle.cpe_values.specs.declared.value.Value.TheVariants as value
use Rattle.cpe_values.specs.declared.spelling.Style.TheVariants as style
use Rattle.cpe_values.specs.Parts.{Parts}
use Rattle.cpe_values.specs.Values.{IsValue}
use Rattle.cpe_values.specs.Spelling.{edge_text, is_word, style_character, spelling}
use Rattle.cpe_name.specs.Eleven.{Values, Written}
use Rattle.cpe_name.specs.declared.attribute.Attribute.{Attribute}
use Rattle.cpe_name.specs.declared.attribute.Attribute.TheVariants.{Part, Vendor, Product, Version, Update, Edition, Language, SwEdition, TargetSw, TargetHw, Other}
use Rattle.cpe_name.specs.Names.{value_of}
use Rattle.cpe_name.specs.Text.{value_text}
use Rattle.cpe_name.specs.Scanning.{slot}
use Rattle.cpe_name.specs.Spans.{texts, or_any, AreWritten}
use Rattle.cpe_name.proofs.Items.{between_is}
use Rattle.cpe_name.proofs.WholeTexts.{made_of_value, good_value, each_text}
use Rattle.cpe_fs.specs.Grammar.{fs_component, fs_text}
use Rattle.cpe_fs.specs.Unquoting.{begins_bare, unquoted, component_from, keyed, written_string}

-- ---- characters

kept : (c : ℕ) (s : List ℕ) → eqb c 92 ≡ false → unquoted (c ∷ s) ≡ c ∷ unquoted s
unfolding unquoted
kept c s h = rw h refl

dropped : (s : List ℕ) → begins_bare s ≡ true → unquoted (92 ∷ s) ≡ unquoted s
unfolding unquoted
dropped s h = rw h refl

stays : (s : List ℕ) → begins_bare s ≡ false → unquoted (92 ∷ s) ≡ 92 ∷ unquoted s
unfolding unquoted
stays s h = rw h refl

before_other : (c : ℕ) (s : List ℕ) → begins_bare s ≡ false → unquoted (c ∷ s) ≡ c ∷ unquoted s
unfolding unquoted
before_other c s h = elim (cases_Bool (eqb c 92)) [ inl k ↦ rw (k, h) refl | inr k ↦ rw k refl ]

word_no_slash : (c : ℕ) → is_word c ≡ true → eqb c 92 ≡ false
word_no_slash c h = grind (arith, nat_tests)

word_no_bare : (c : ℕ) → is_word c ≡ true → (eqb c 46 || eqb c 45) ≡ false
word_no_bare c h = grind (arith, nat_tests)

dot_no_slash : (c : ℕ) → eqb c 46 ≡ true → eqb c 92 ≡ false
dot_no_slash c h = grind (arith, nat_tests)

hyphen_no_slash : (c : ℕ) → eqb c 45 ≡ true → eqb c 92 ≡ false
hyphen_no_slash c h = grind (arith, nat_tests)

-- the spelling of a character in a name, unquoted, is its spelling in a formatted string
unquoted_character : (c : ℕ) (s : List ℕ) → begins_bare s ≡ false → unquoted (style_character style.Wfn c ++ s) ≡ style_character style.Formatted c ++ unquoted s
unquoted_character c s h =
    elim (cases_Bool (is_word c)) [
      | inl w ↦ rw w (kept c s (word_no_slash c w))
      | inr w ↦ elim (cases_Bool (eqb c 46)) [
        | inl d ↦ rw (w, d) (dropped (c ∷ s) (or_left _ _ d) ∙ kept c s (dot_no_slash c d))
        | inr d ↦ elim (cases_Bool (eqb c 45)) [
          | inl k ↦ rw (w, d, k) (dropped (c ∷ s) (or_right _ _ k) ∙ kept c s (hyphen_no_slash c k))
          | inr k ↦ rw (w, d, k) (stays (c ∷ s) (or_from _ _ d k) ∙ ap (λ (u : List ℕ). 92 ∷ u) (before_other c s h))
        ]
      ]
    ]

character_no_bare : (c : ℕ) (s : List ℕ) → begins_bare (style_character style.Wfn c ++ s) ≡ false
character_no_bare c s =
    elim (cases_Bool (is_word c)) [
      | inl w ↦ rw w (word_no_bare c w)
      | inr w ↦ rw w refl
    ]

-- ---- bodies and edges

body_no_bare : (b s : List ℕ) → begins_bare s ≡ false → begins_bare (flat_map (style_character style.Wfn) b ++ s) ≡ false
body_no_bare [] s h = h
body_no_bare (c ∷ b) s h = ap begins_bare (append_assoc (style_character style.Wfn c) (flat_map (style_character style.Wfn) b) s) ∙ character_no_bare c (flat_map (style_character style.Wfn) b ++ s)

unquoted_body : (b s : List ℕ) → begins_bare s ≡ false → unquoted (flat_map (style_character style.Wfn) b ++ s) ≡ flat_map (style_character style.Formatted) b ++ unquoted s
unquoted_body [] s h = refl
unquoted_body (c ∷ b) s h =
    ap unquoted (append_assoc (style_character style.Wfn c) (flat_map (style_character style.Wfn) b) s)
    ∙ unquoted_character c (flat_map (style_character style.Wfn) b ++ s) (body_no_bare b s h)
    ∙ ap (λ (u : List ℕ). style_character style.Formatted c ++ u) (unquoted_body b s h)
    ∙ sym (append_assoc (style_character style.Formatted c) (flat_map (style_character style.Formatted) b) (unquoted s))

unquoted_marks : (n : ℕ) (s : List ℕ) → unquoted (replicate n 63 ++ s) ≡ replicate n 63 ++ unquoted s
unquoted_marks zero s = refl
unquoted_marks (suc n) s = kept 63 (replicate n 63 ++ s) refl ∙ ap (λ (u : List ℕ). 63 ∷ u) (unquoted_marks n s)

unquoted_edge : (e : Edge) (s : List ℕ) → unquoted (edge_text e ++ s) ≡ edge_text e ++ unquoted s
unquoted_edge edge.None s = refl
unquoted_edge edge.Star s = kept 42 s refl
unquoted_edge (edge.Marks n) s = unquoted_marks n s

nothing_kept : unquoted [] ≡ []
unfolding unquoted
nothing_kept = refl

-- the empty text, unquoted, is empty
pub none_kept : (s : List ℕ) → length s ≡ 0 → unquoted s ≡ []
none_kept [] h = nothing_kept
none_kept (c ∷ s) h = absurd (omega (arith, h))

unquoted_end : (e : Edge) → unquoted (edge_text e) ≡ edge_text e
unquoted_end e = ap unquoted (sym (append-nil (edge_text e))) ∙ unquoted_edge e [] ∙ ap (λ (u : List ℕ). edge_text e ++ u) nothing_kept ∙ append-nil (edge_text e)

edge_no_bare : (e : Edge) → begins_bare (edge_text e) ≡ false
edge_no_bare edge.None = refl
edge_no_bare edge.Star = refl
edge_no_bare (edge.Marks zero) = refl
edge_no_bare (edge.Marks (suc n)) = refl

-- the spelling of a text in a name, unquoted, is its spelling in a formatted string
unquoted_spelling : (t : Parts) → unquoted (spelling style.Wfn t) ≡ spelling style.Formatted t
unquoted_spelling t =
    ap unquoted (append_assoc (edge_text t.lead) (flat_map (style_character style.Wfn) t.body) (edge_text t.trail))
    ∙ unquoted_edge t.lead (flat_map (style_character style.Wfn) t.body ++ edge_text t.trail)
    ∙ ap (λ (u : List ℕ). edge_text t.lead ++ u) (unquoted_body t.body (edge_text t.trail) (edge_no_bare t.trail) ∙ ap (λ (u : List ℕ). flat_map (style_character style.Formatted) t.body ++ u) (unquoted_end t.trail))
    ∙ sym (append_assoc (edge_text t.lead) (flat_map (style_character style.Formatted) t.body) (edge_text t.trail))

-- ---- components

text_component : (v : Value) → component_from (value_text v) ≡ fs_component v
unfolding component_from
text_component value.Any = refl
text_component value.Na = refl
text_component (value.Text t) = ap unquoted (between_is (spelling style.Wfn t) (34 ∷ [])) ∙ unquoted_spelling t

none_component : component_from [] ≡ fs_component value.Any
unfolding component_from
none_component = refl

component_is : (u : List ℕ) (v : Value) → IsValue v → or_any u ≡ value_text v → component_from u ≡ fs_component v
component_is = made_of_value component_from fs_component none_component text_component

-- ---- names

string_by : (Attribute → List ℕ) → List ℕ
string_by f =
    (codes "cpe:2.3:" ++ f Part) ++ (58 ∷ f Vendor) ++ (58 ∷ f Product) ++ (58 ∷ f Version) ++ (58 ∷ f Update) ++ (58 ∷ f Edition) ++ (58 ∷ f Language) ++ (58 ∷ f SwEdition) ++ (58 ∷ f TargetSw) ++ (58 ∷ f TargetHw)
    ++ (58 ∷ f Other)

strings_alike : (f g : Attribute → List ℕ) → ((a : Attribute) → f a ≡ g a) → string_by f ≡ string_by g
unfolding string_by
strings_alike f g h = rw (h Part, h Vendor, h Product, h Version, h Update, h Edition, h Language, h SwEdition, h TargetSw, h TargetHw, h Other) refl

regroup : (p a b c d e f g h i j : List ℕ) → p ++ a ++ b ++ c ++ d ++ e ++ f ++ g ++ h ++ i ++ j ≡ p ++ (a ++ (b ++ (c ++ (d ++ (e ++ (f ++ (g ++ (h ++ (i ++ j)))))))))
regroup p a b c d e f g h i j = simp append_assoc

fs_by : (w : Values) → string_by (λ a. fs_component (value_of w a)) ≡ fs_text w
unfolding string_by
fs_by w = regroup (codes "cpe:2.3:" ++ fs_component w.part) (58 ∷ fs_component w.vendor) (58 ∷ fs_component w.product) (58 ∷ fs_component w.version) (58 ∷ fs_component w.update) (58 ∷ fs_component w.edition) (58 ∷ fs_component w.language) (58 ∷ fs_component w.sw_edition) (58 ∷ fs_component w.target_sw) (58 ∷ fs_component w.target_hw) (58 ∷ fs_component w.other)

string_of : (t : Written) → string_by (λ a. component_from (slot (texts t) a)) ≡ written_string t
unfolding string_by keyed
string_of t = refl

-- what is written from the texts of a name is its formatted string
pub written_is : (s : List ℕ) (t : Written) (are : AreWritten s t) → written_string t ≡ fs_text are.name
written_is s t are =
    sym (string_of t)
    ∙ strings_alike (λ a. component_from (slot (texts t) a)) (λ a. fs_component (value_of are.name a)) (λ a. component_is (slot (texts t) a) (value_of are.name a) (good_value are.name a are.has.name) (each_text are.name (texts t) are.are a))
    ∙ fs_by are.name
