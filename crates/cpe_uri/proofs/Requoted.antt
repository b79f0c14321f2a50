-- Lemmas: what is written from the texts of values is the canonical URI of their name.
use Rattle.std.proofs.Common.{◌≡◌, ℕ, zero, suc, ◌-◌, Bool, true, false, cond, eqb, nat_eq, List, [], ◌∷◌, ◌++◌, length, take, replicate, refl, sym, ap, ◌∙◌, inl, inr, append_assoc, arith}
use Rattle.std.specs.Prelude.{codes}
use Rattle.std.specs.List.{flat_map, list_all}
use Rattle.std.proofs.lemmas.List.{append-nil, nil_from_length}
use Rattle.std.proofs.lemmas.Bool.{cases_Bool}
use Rattle.std.proofs.lemmas.Bool.Decides.{nat_tests}
use Rattle.cpe_values.specs.declared.value.Edge.{Edge}
use Rattle.cpe_values.specs.declared.value.Edge.TheVariants as edge
use Rattle.cpe_values.specs.declared.value.Value.{Value}
use Rattle.cpe_values.specs.declared.value.Value.TheVariants as value
use Rattle.cpe_values.specs.declared.spelling.Style.TheVariants as style
use Rattle.cpe_values.specs.Parts.{Parts}
use Rattle.cpe_values.specs.Values.{IsValue}
use Rattle.cpe_values.specs.Spelling.{edge_text, is_word, spelling}
use Rattle.cpe_values.specs.Spelling as wfn
use Rattle.cpe_values.specs.Skipping.{skip_while}
use Rattle.cpe_values.proofs.SkippingLemmas.{skipped_copied}
use Rattle.cpe_name.specs.Eleven.{Values, Written}
use Rattle.cpe_name.specs.declared.attribute.Attribute.{Attribute}
use Rattle.cpe_name.specs.declared.attribute.Attribute.TheVariants.{Part, Vendor, Product, Version, Update, Edition, Language, SwEdition, TargetSw, TargetHw, Other}
use Rattle.cpe_name.specs.Names.{value_of}
use Rattle.cpe_name.specs.Text.{value_text}
use Rattle.cpe_name.specs.Scanning.{slot}
use Rattle.cpe_name.specs.Spans.{texts, or_any, AreWritten}
use Rattle.cpe_name.proofs.Items.{between_is}
use Rattle.cpe_name.proofs.WholeTexts.{value_found, made_of_value, good_value, each_text}
use Rattle.cpe_uri.specs.Spelling.{edge_codes, text_codes, uri_character, uri_component}
use Rattle.cpe_uri.specs.Canon.{is_any_component, extended, packed, edition_component, trimmed, canon}
use Rattle.cpe_uri.specs.Requoting.{quotes, spelled_byte, requoted, component_from, says_any, first_from, behind, packed_from, edition_from, untrimmed_from, uri_from}

-- ---- characters

word_no_slash : (c : ℕ) → is_word c ≡ true → eqb c 92 ≡ false
word_no_slash c h = grind (arith, nat_tests)

word_no_mark : (c : ℕ) → is_word c ≡ true → eqb c 63 ≡ false
word_no_mark c h = grind (arith, nat_tests)

word_no_star : (c : ℕ) → is_word c ≡ true → eqb c 42 ≡ false
word_no_star c h = grind (arith, nat_tests)

-- a letter, a digit or `_` of a name is written as its canonical spelling
bare_character : (c : ℕ) (s : List ℕ) → is_word c ≡ true → requoted false (c ∷ s) ≡ uri_character c ++ requoted false s
unfolding requoted
bare_character c s h = rw (word_no_slash c h, word_no_mark c h, word_no_star c h) refl

quoted_character : (c : ℕ) (s : List ℕ) → requoted false (92 ∷ c ∷ s) ≡ uri_character c ++ requoted false s
unfolding requoted
quoted_character c s = refl

requoted_character : (c : ℕ) (s : List ℕ) → requoted false (wfn.style_character style.Wfn c ++ s) ≡ uri_character c ++ requoted false s
requoted_character c s =
    elim (cases_Bool (is_word c)) [
      | inl h ↦ let bare : wfn.style_character style.Wfn c ≡ c ∷ [] = rw h refl in ap (λ (u : List ℕ). requoted false (u ++ s)) bare ∙ bare_character c s h
      | inr h ↦ let quoted : wfn.style_character style.Wfn c ≡ 92 ∷ c ∷ [] = rw h refl in ap (λ (u : List ℕ). requoted false (u ++ s)) quoted ∙ quoted_character c s
    ]

-- a letter, a digit or `_` is copied
word_copied : (c : ℕ) (s : List ℕ) → is_word c ≡ true → requoted false (c ∷ s) ≡ c ∷ requoted false s
word_copied c s h =
    let bare : uri_character c ≡ c ∷ [] = rw h refl in
    bare_character c s h ∙ ap (λ (u : List ℕ). u ++ requoted false s) bare

pub word_requoted : (s : List ℕ) → requoted false s ≡ take (length s - length (skip_while is_word s)) s ++ requoted false (skip_while is_word s)
word_requoted s = skipped_copied (requoted false) is_word word_copied s

-- ---- bodies and edges

requoted_body : (b s : List ℕ) → requoted false (flat_map (wfn.style_character style.Wfn) b ++ s) ≡ flat_map uri_character b ++ requoted false s
requoted_body [] s = refl
requoted_body (c ∷ b) s =
    ap (requoted false) (append_assoc (wfn.style_character style.Wfn c) (flat_map (wfn.style_character style.Wfn) b) s)
    ∙ requoted_character c (flat_map (wfn.style_character style.Wfn) b ++ s)
    ∙ ap (λ (u : List ℕ). uri_character c ++ u) (requoted_body b s)
    ∙ sym (append_assoc (uri_character c) (flat_map uri_character b) (requoted false s))

requoted_mark : (s : List ℕ) → requoted false (63 ∷ s) ≡ uri_character 1 ++ requoted false s
unfolding requoted
requoted_mark s = refl

requoted_star : (s : List ℕ) → requoted false (42 ∷ s) ≡ uri_character 2 ++ requoted false s
unfolding requoted
requoted_star s = refl

requoted_marks : (n : ℕ) (s : List ℕ) → requoted false (replicate n 63 ++ s) ≡ flat_map uri_character (replicate n 1) ++ requoted false s
requoted_marks zero s = refl
requoted_marks (suc n) s = requoted_mark (replicate n 63 ++ s) ∙ ap (λ (u : List ℕ). uri_character 1 ++ u) (requoted_marks n s)

requoted_edge : (e : Edge) (s : List ℕ) → requoted false (edge_text e ++ s) ≡ flat_map uri_character (edge_codes e) ++ requoted false s
requoted_edge edge.None s = refl
requoted_edge edge.Star s = requoted_star s
requoted_edge (edge.Marks n) s = requoted_marks n s

-- after one more byte is written, the written bytes and the rest give the same URI as before
pub requoted_on : (quoted after : Bool) (c : ℕ) (s old new : List ℕ) → after ≡ quotes quoted c → new ≡ old ++ spelled_byte quoted c → new ++ requoted after s ≡ old ++ requoted quoted (c ∷ s)
unfolding requoted
requoted_on quoted after c s old new is h =
    ap (λ (q : Bool). new ++ requoted q s) is
    ∙ ap (λ (u : List ℕ). u ++ requoted (quotes quoted c) s) h
    ∙ append_assoc old (spelled_byte quoted c) (requoted (quotes quoted c) s)

nothing_requoted : (quoted : Bool) → requoted quoted [] ≡ []
unfolding requoted
nothing_requoted quoted = refl

-- nothing is left after the last byte
pub requoted_done : (quoted : Bool) (s new : List ℕ) → length s ≡ 0 → new ++ requoted quoted s ≡ new
requoted_done quoted s new none =
    ap (λ (u : List ℕ). new ++ requoted quoted u) (nil_from_length s none) ∙ ap (λ (u : List ℕ). new ++ u) (nothing_requoted quoted) ∙ append-nil new

requoted_end : (e : Edge) → requoted false (edge_text e) ≡ flat_map uri_character (edge_codes e)
requoted_end e =
    ap (requoted false) (sym (append-nil (edge_text e))) ∙ requoted_edge e [] ∙ ap (λ (u : List ℕ). flat_map uri_character (edge_codes e) ++ u) (nothing_requoted false) ∙ append-nil (flat_map uri_character (edge_codes e))

spelled_both : (a b : List ℕ) → flat_map uri_character (a ++ b) ≡ flat_map uri_character a ++ flat_map uri_character b
spelled_both [] b = refl
spelled_both (c ∷ a) b = ap (λ (u : List ℕ). uri_character c ++ u) (spelled_both a b) ∙ sym (append_assoc (uri_character c) (flat_map uri_character a) (flat_map uri_character b))

codes_spelled : (t : Parts) → flat_map uri_character (text_codes t) ≡ flat_map uri_character (edge_codes t.lead) ++ (flat_map uri_character t.body ++ flat_map uri_character (edge_codes t.trail))
codes_spelled t =
    spelled_both (edge_codes t.lead ++ t.body) (edge_codes t.trail)
    ∙ ap (λ (u : List ℕ). u ++ flat_map uri_character (edge_codes t.trail)) (spelled_both (edge_codes t.lead) t.body)
    ∙ append_assoc (flat_map uri_character (edge_codes t.lead)) (flat_map uri_character t.body) (flat_map uri_character (edge_codes t.trail))

-- the spelling of a text in a name, requoted, is its spelling in a URI
requoted_spelling : (t : Parts) → requoted false (spelling style.Wfn t) ≡ flat_map uri_character (text_codes t)
requoted_spelling t =
    ap (requoted false) (append_assoc (edge_text t.lead) (flat_map (wfn.style_character style.Wfn) t.body) (edge_text t.trail))
    ∙ requoted_edge t.lead (flat_map (wfn.style_character style.Wfn) t.body ++ edge_text t.trail)
    ∙ ap (λ (u : List ℕ). flat_map uri_character (edge_codes t.lead) ++ u) (requoted_body t.body (edge_text t.trail) ∙ ap (λ (u : List ℕ). flat_map uri_character t.body ++ u) (requoted_end t.trail))
    ∙ sym (codes_spelled t)

-- ---- components

text_component : (v : Value) → component_from (value_text v) ≡ uri_component v
unfolding component_from
text_component value.Any = refl
text_component value.Na = refl
text_component (value.Text t) = ap (requoted false) (between_is (spelling style.Wfn t) (34 ∷ [])) ∙ requoted_spelling t

none_component : component_from [] ≡ uri_component value.Any
unfolding component_from
none_component = refl

component_is : (u : List ℕ) (v : Value) → IsValue v → or_any u ≡ value_text v → component_from u ≡ uri_component v
component_is = made_of_value component_from uri_component none_component text_component

text_says_any : (v : Value) → says_any (value_text v) ≡ is_any_component v
text_says_any value.Any = refl
text_says_any value.Na = refl
text_says_any (value.Text t) = refl

any_is : (u : List ℕ) (v : Value) → IsValue v → or_any u ≡ value_text v → says_any u ≡ is_any_component v
any_is [] v good is = ap is_any_component (value_found v [] good is)
any_is (c ∷ u) v good is = ap says_any is ∙ text_says_any v

-- ---- names

packed_by : (Attribute → List ℕ) → List ℕ
packed_by f = (126 ∷ f Edition) ++ (126 ∷ f SwEdition) ++ (126 ∷ f TargetSw) ++ (126 ∷ f TargetHw) ++ (126 ∷ f Other)

edition_by : (Attribute → List ℕ) → (Attribute → Bool) → List ℕ
edition_by f g = cond (list_all g extended) (58 ∷ f Edition) (58 ∷ packed_by f)

untrimmed_by : (Attribute → List ℕ) → (Attribute → Bool) → List ℕ
untrimmed_by f g = (codes "cpe:/" ++ f Part) ++ (58 ∷ f Vendor) ++ (58 ∷ f Product) ++ (58 ∷ f Version) ++ (58 ∷ f Update) ++ edition_by f g ++ (58 ∷ f Language)

alike : (f h : Attribute → List ℕ) (g k : Attribute → Bool) → ((a : Attribute) → f a ≡ h a) → ((a : Attribute) → g a ≡ k a) → untrimmed_by f g ≡ untrimmed_by h k
unfolding untrimmed_by edition_by packed_by
alike f h g k e d = rw (d SwEdition, d TargetSw, d TargetHw, d Other, e Part, e Vendor, e Product, e Version, e Update, e Edition, e Language, e SwEdition, e TargetSw, e TargetHw, e Other) refl

regroup : (p a b c d e f : List ℕ) → p ++ a ++ b ++ c ++ d ++ (58 ∷ e) ++ f ≡ p ++ (a ++ (b ++ (c ++ (d ++ (58 ∷ (e ++ f))))))
regroup p a b c d e f = simp append_assoc

regroup_packed : (a b c d e : List ℕ) → a ++ b ++ c ++ d ++ e ≡ a ++ (b ++ (c ++ (d ++ (e ++ []))))
regroup_packed a b c d e = simp (append_assoc, append-nil)

edition_is : (w : Values) → edition_by (λ a. uri_component (value_of w a)) (λ a. is_any_component (value_of w a)) ≡ 58 ∷ edition_component w
unfolding edition_by packed_by
edition_is w = go (list_all (λ a. is_any_component (value_of w a)) extended) where
  go : (alone : Bool) → cond alone (58 ∷ uri_component w.edition) (58 ∷ packed_by (λ a. uri_component (value_of w a))) ≡ 58 ∷ cond alone (uri_component w.edition) (packed w)
  go true = refl
  go false = ap (λ (u : List ℕ). 58 ∷ u) (regroup_packed (126 ∷ uri_component w.edition) (126 ∷ uri_component w.sw_edition) (126 ∷ uri_component w.target_sw) (126 ∷ uri_component w.target_hw) (126 ∷ uri_component w.other))

canon_by : (w : Values) → trimmed 58 (untrimmed_by (λ a. uri_component (value_of w a)) (λ a. is_any_component (value_of w a))) ≡ canon w
unfolding untrimmed_by
canon_by w =
    let prefix = (codes "cpe:/" ++ uri_component w.part) ++ (58 ∷ uri_component w.vendor) ++ (58 ∷ uri_component w.product) ++ (58 ∷ uri_component w.version) ++ (58 ∷ uri_component w.update) in
    ap (λ (u : List ℕ). trimmed 58 (prefix ++ u ++ (58 ∷ uri_component w.language))) (edition_is w)
    ∙ ap (trimmed 58) (regroup (codes "cpe:/" ++ uri_component w.part) (58 ∷ uri_component w.vendor) (58 ∷ uri_component w.product) (58 ∷ uri_component w.version) (58 ∷ uri_component w.update) (edition_component w) (58 ∷ uri_component w.language))

untrimmed_of : (t : Written) → untrimmed_by (λ a. component_from (slot (texts t) a)) (λ a. says_any (slot (texts t) a)) ≡ untrimmed_from t
unfolding untrimmed_by edition_by packed_by untrimmed_from edition_from packed_from first_from behind
untrimmed_of t = refl

-- not all bytes of the URI are colons
pub some_other : (t : Written) → list_all (nat_eq 58) (untrimmed_from t) ≡ false
unfolding untrimmed_from first_from
some_other t = refl

-- what is written from the texts of a name is its canonical URI
pub written_is : (s : List ℕ) (t : Written) (are : AreWritten s t) → uri_from t ≡ canon are.name
unfolding uri_from
written_is s t are =
    let each = each_text are.name (texts t) are.are in
    let good = λ (a : Attribute). good_value are.name a are.has.name in
    ap (trimmed 58)
    (sym (untrimmed_of t)
    ∙ alike
    (λ a. component_from (slot (texts t) a))
    (λ a. uri_component (value_of are.name a))
    (λ a. says_any (slot (texts t) a))
    (λ a. is_any_component (value_of are.name a))
    (λ a. component_is (slot (texts t) a) (value_of are.name a) (good a) (each a))
    (λ a. any_is (slot (texts t) a) (value_of are.name a) (good a) (each a)))
    ∙ canon_by are.name
