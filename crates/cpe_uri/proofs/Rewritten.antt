-- Lemmas: a piece of a URI, rewritten, is the spelling of its text in a name.
use Rattle.std.specs.Prelude.{if◌then◌else◌, ◌==◌}
use Rattle.std.proofs.Common.{◌≡◌, ℕ, ◌+◌, ◌-◌, ◌*◌, ◌<◌, ◌≤◌, ◌%◌, true, false, not, ◌&&◌, ◌||◌, eqb, List, [], ◌∷◌, ◌++◌, length, take, drop, get_or, slice_index, refl, sym, ap, subst, ◌∙◌, inl, inr, append_assoc, arith}
use Rattle.std.specs.Char.{to_ascii_lowercase}
use Rattle.std.specs.List.{flat_map, list_all}
use Rattle.std.proofs.lemmas.List.{append-nil, take_all}
use Rattle.std.proofs.lemmas.List.Concat.{flat_map-append}
use Rattle.std.proofs.lemmas.Bool.{cases_Bool, eqb-true, and_parts, or_cases, not-true}
use Rattle.std.proofs.lemmas.Bool.Decides.{nat_tests}
use Rattle.cpe_values.specs.declared.value.Edge.{Edge}
use Rattle.cpe_values.specs.declared.value.Edge.TheVariants as edge
use Rattle.cpe_values.specs.declared.spelling.Style.TheVariants as style
use Rattle.cpe_values.specs.Parts.{Parts, is_character, IsText}
use Rattle.cpe_values.specs.Spelling.{is_word, is_lower_word, is_bare, style_character, edge_text, spelling}
use Rattle.cpe_values.specs.Skipping.{skip_while}
use Rattle.cpe_values.proofs.SkippingLemmas.{skipped_copied}
use Rattle.cpe_name.proofs.Repeated.{each_made}
use Rattle.cpe_uri.specs.Spelling.{edge_codes, text_codes, is_hex, hex_value, has_percent_form, spells, Spelled}
use Rattle.cpe_uri.specs.Rewriting.{code_spelled, code_text, is_requoted, bare_text, rewritten}

-- ---- one bare byte or percent form

-- a bare byte at the beginning is rewritten, and then the rest
pub bare_rewritten : (b : ℕ) (s : List ℕ) → eqb b 37 ≡ false → rewritten (b ∷ s) ≡ bare_text b ++ rewritten s
unfolding rewritten
bare_rewritten b [] h = sym (append-nil (bare_text b))
bare_rewritten b (d ∷ []) h = refl
bare_rewritten b (d ∷ e ∷ s) h = rw h refl

-- the first byte of a slice is rewritten, and then the rest, if this byte isn't a percent sign
pub bare_at : (s : List ℕ) → 1 ≤ length s → eqb (slice_index s 0) 37 ≡ false → rewritten s ≡ bare_text (slice_index s 0) ++ rewritten (take (length s - 1) (drop 1 s))
bare_at [] some h = absurd (omega (arith, some))
bare_at (c ∷ s) some h =
    let n : length (c ∷ s) - 1 ≡ length s = omega arith in
    bare_rewritten c s h ∙ ap (λ (u : List ℕ). bare_text c ++ rewritten u) (sym (take_all (length (c ∷ s) - 1) s (omega (arith, n))))

pub cut_rewritten : (s : List ℕ) → length s < 2 → rewritten (37 ∷ s) ≡ bare_text 37 ++ rewritten s
unfolding rewritten
cut_rewritten [] h = refl
cut_rewritten (d ∷ []) h = refl
cut_rewritten (d ∷ e ∷ s) h = absurd (omega (arith, h))

percent_rewritten : (h l : ℕ) (s : List ℕ) → rewritten (37 ∷ h ∷ l ∷ s) ≡ code_text (code_spelled h l) ++ rewritten s
unfolding rewritten
percent_rewritten h l s = refl

-- a percent form at the beginning is rewritten, and then the rest
pub digits_rewritten : (s : List ℕ) → 2 ≤ length s → rewritten (37 ∷ s) ≡ code_text (code_spelled (get_or s 0 0) (get_or s 1 0)) ++ rewritten (take (length s - 2) (drop 2 s))
digits_rewritten [] h = absurd (omega (arith, h))
digits_rewritten (d ∷ []) h = absurd (omega (arith, h))
digits_rewritten (d ∷ e ∷ s) h =
    let all : take (length (d ∷ e ∷ s) - 2) s ≡ s = take_all (length (d ∷ e ∷ s) - 2) s (omega arith) in
    percent_rewritten d e s ∙ ap (λ (u : List ℕ). code_text (code_spelled d e) ++ rewritten u) (sym all)

-- if a prefix of a text is written, the written bytes and the bytes left are the whole text
pub put_prefix : (now old prefix left text : List ℕ) → now ≡ old ++ prefix → text ≡ prefix ++ left → now ++ left ≡ old ++ text
put_prefix now old prefix left text put is = ap (λ (u : List ℕ). u ++ left) put ∙ append_assoc old prefix left ∙ ap (λ (u : List ℕ). old ++ u) (sym is)

pub rewritten_none : (s : List ℕ) → length s ≡ 0 → rewritten s ≡ []
unfolding rewritten
rewritten_none [] h = refl
rewritten_none (c ∷ s) h = absurd (omega (arith, h))

-- ---- words of small letters, digits and `_`

lower_word_bare : (b : ℕ) → is_lower_word b ≡ true → bare_text b ≡ b ∷ []
lower_word_bare b h =
    let alone : is_requoted b ≡ false = grind (arith, nat_tests) in
    let lower : to_ascii_lowercase b ≡ b = grind (arith, nat_tests) in
    rw (alone, lower) refl

lower_word_rewritten : (b : ℕ) (s : List ℕ) → is_lower_word b ≡ true → rewritten (b ∷ s) ≡ b ∷ rewritten s
lower_word_rewritten b s h =
    let other : eqb b 37 ≡ false = grind (arith, nat_tests) in
    bare_rewritten b s other ∙ ap (λ (u : List ℕ). u ++ rewritten s) (lower_word_bare b h)

pub word_rewritten : (s : List ℕ) → rewritten s ≡ take (length s - length (skip_while is_lower_word s)) s ++ rewritten (skip_while is_lower_word s)
word_rewritten s = skipped_copied rewritten is_lower_word lower_word_rewritten s

-- ---- one code

-- the text of a code in a name: a special, or a character in its spelling
abbrev named_code : ℕ → List ℕ
named_code c = if c == 1 then 63 ∷ [] else (if c == 2 then 42 ∷ [] else style_character style.Wfn c)

word_alone : (b : ℕ) → is_word b ≡ true → is_requoted b ≡ false
word_alone b h = grind (arith, nat_tests)

word_lower : (b : ℕ) → is_word b ≡ true → is_word (to_ascii_lowercase b) ≡ true
word_lower b h = grind (arith, nat_tests)

word_code : (c : ℕ) → is_word c ≡ true → named_code c ≡ c ∷ []
word_code c h =
    let one : eqb c 1 ≡ false = grind (arith, nat_tests) in
    let two : eqb c 2 ≡ false = grind (arith, nat_tests) in
    rw (one, two, h) refl

requoted_code : (b : ℕ) → is_requoted b ≡ true → bare_text b ≡ named_code (to_ascii_lowercase b)
requoted_code b h = elim (or_cases (eqb b 46 || eqb b 45) (eqb b 126) h) [
  | inl k ↦ elim (or_cases (eqb b 46) (eqb b 45) k) [
    | inl dot ↦ subst (λ (c : ℕ). bare_text c ≡ named_code (to_ascii_lowercase c)) (sym (eqb-true b 46 dot)) refl
    | inr hyphen ↦ subst (λ (c : ℕ). bare_text c ≡ named_code (to_ascii_lowercase c)) (sym (eqb-true b 45 hyphen)) refl
  ]
  | inr tilde ↦ subst (λ (c : ℕ). bare_text c ≡ named_code (to_ascii_lowercase c)) (sym (eqb-true b 126 tilde)) refl
]

-- a bare byte is a letter, a digit or `_`, or it gets a backslash
bare_is : (b : ℕ) → (is_bare style.Formatted b || eqb b 126) ≡ true → is_word b ≡ false → is_requoted b ≡ true
bare_is b h word = grind (arith, nat_tests)

bare_code : (b : ℕ) → (is_bare style.Formatted b || eqb b 126) ≡ true → bare_text b ≡ named_code (to_ascii_lowercase b)
bare_code b h =
    elim (cases_Bool (is_word b)) [
      | inl word ↦ rw (word_alone b word) (sym (word_code (to_ascii_lowercase b) (word_lower b word)))
      | inr other ↦ requoted_code b (bare_is b h other)
    ]

bare_no_percent : (b : ℕ) → (is_bare style.Formatted b || eqb b 126) ≡ true → eqb b 37 ≡ false
bare_no_percent b h = grind (arith, nat_tests)

percent_code : (c : ℕ) → has_percent_form c ≡ true → (code_text c ≡ named_code c) × (c % 256 ≡ c)
percent_code c h = elim (or_cases (eqb c 1 || eqb c 2) (is_character c && not (is_word c)) h) [
  | inl k ↦ elim (or_cases (eqb c 1) (eqb c 2) k) [
    | inl one ↦ subst (λ (d : ℕ). (code_text d ≡ named_code d) × (d % 256 ≡ d)) (sym (eqb-true c 1 one)) (refl, refl)
    | inr two ↦ subst (λ (d : ℕ). (code_text d ≡ named_code d) × (d % 256 ≡ d)) (sym (eqb-true c 2 two)) (refl, refl)
  ]
  | inr k ↦
      let p = and_parts (is_character c) (not (is_word c)) k in
      let word : is_word c ≡ false = not-true (is_word c) p.1 in
      let small : c < 256 = character_small c p.0 in
      (rw word refl, omega (arith, small))
]
  where
    character_small : (c : ℕ) → is_character c ≡ true → c < 256
    character_small c h = grind (arith, nat_tests)

-- each accepted spelling of a code is rewritten as the text of this code in a name
code_rewritten : (c : ℕ) (u v : List ℕ) → spells c u ≡ true → rewritten (u ++ v) ≡ named_code c ++ rewritten v
code_rewritten c [] v h = absurd cc
code_rewritten c (b ∷ []) v h =
    let p = and_parts (is_bare style.Formatted b || eqb b 126) (eqb (to_ascii_lowercase b) c) h in
    bare_rewritten b v (bare_no_percent b p.0)
    ∙ ap (λ (w : List ℕ). w ++ rewritten v) (bare_code b p.0 ∙ ap named_code (eqb-true (to_ascii_lowercase b) c p.1))
code_rewritten c (b ∷ d ∷ []) v h = absurd cc
code_rewritten c (p ∷ h ∷ l ∷ []) v e =
    let a = and_parts (eqb p 37 && is_hex h && is_hex l && eqb (16 * hex_value h + hex_value l) c) (has_percent_form c) e in
    let b = and_parts (eqb p 37 && is_hex h && is_hex l) (eqb (16 * hex_value h + hex_value l) c) a.0 in
    let d = and_parts (eqb p 37 && is_hex h) (is_hex l) b.0 in
    let f = and_parts (eqb p 37) (is_hex h) d.0 in
    let code : code_spelled h l ≡ c = ap (λ (n : ℕ). n % 256) (eqb-true (16 * hex_value h + hex_value l) c b.1) ∙ (percent_code c a.1).1 in
    ap (λ (q : ℕ). rewritten (q ∷ h ∷ l ∷ v)) (eqb-true p 37 f.0)
    ∙ percent_rewritten h l v
    ∙ ap (λ (w : List ℕ). w ++ rewritten v) (ap code_text code ∙ (percent_code c a.1).0)
code_rewritten c (p ∷ h ∷ l ∷ d ∷ u) v e = absurd cc

-- ---- texts

codes_rewritten : (cs s : List ℕ) → Spelled cs s → rewritten s ≡ flat_map named_code cs
unfolding rewritten
codes_rewritten [] s h = ap rewritten h
codes_rewritten (c ∷ cs) s h =
    ap rewritten h.2
    ∙ code_rewritten c h.0 h.1 h.3
    ∙ ap (λ (w : List ℕ). named_code c ++ w) (codes_rewritten cs h.1 h.4)

named_edge : (e : Edge) → flat_map named_code (edge_codes e) ≡ edge_text e
named_edge edge.None = refl
named_edge edge.Star = refl
named_edge (edge.Marks n) = each_made named_code 1 63 n refl

named_character : (c : ℕ) → is_character c ≡ true → named_code c ≡ style_character style.Wfn c
named_character c h =
    let one : eqb c 1 ≡ false = grind (arith, nat_tests) in
    let two : eqb c 2 ≡ false = grind (arith, nat_tests) in
    rw (one, two) refl

named_body : (b : List ℕ) → list_all is_character b ≡ true → flat_map named_code b ≡ flat_map (style_character style.Wfn) b
named_body [] h = refl
named_body (c ∷ b) h =
    let p = and_parts (is_character c) (list_all is_character b) h in
    ap (λ (u : List ℕ). u ++ flat_map named_code b) (named_character c p.0)
    ∙ ap (λ (u : List ℕ). style_character style.Wfn c ++ u) (named_body b p.1)

-- each spelling of a text, rewritten, is the text's spelling in a name
pub text_rewritten : (t : Parts) (s : List ℕ) → IsText t → Spelled (text_codes t) s → rewritten s ≡ spelling style.Wfn t
text_rewritten t s good h =
    codes_rewritten (text_codes t) s h
    ∙ flat_map-append named_code (edge_codes t.lead ++ t.body) (edge_codes t.trail)
    ∙ ap (λ (u : List ℕ). u ++ flat_map named_code (edge_codes t.trail)) (flat_map-append named_code (edge_codes t.lead) t.body)
    ∙ rw (named_edge t.lead, named_body t.body good.characters, named_edge t.trail) refl
