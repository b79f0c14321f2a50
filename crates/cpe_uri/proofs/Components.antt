-- Lemmas: the machine reads the components of ANY, NA and texts, and can still reach an end from each state.
use Rattle.std.proofs.Common.{◌≡◌, ◌⊎◌, ℕ, ◌+◌, ◌*◌, ◌<◌, ◌≤◌, ◌&&◌, ◌||◌, not, ltb, leb, Bool, true, false, eqb, cond, List, [], ◌∷◌, ◌++◌, length, map, take, drop, ◌-◌, slice_index, Option, Some, None, Ok, refl, sym, ap, subst, ◌∙◌, inl, inr, arith}
use Rattle.std.specs.Option.{option_map}
use Rattle.std.specs.List.{list_all}
use Rattle.std.specs.Char.{to_ascii_lowercase}
use Rattle.std.proofs.lemmas.Bool.{not-true, cases_Bool, eqb-true, eq-eqb, and_parts, and_from, or_cases, or_left, or_right, both_ways}
use Rattle.std.proofs.lemmas.Bool.Decides.{nat_tests}
use Rattle.std.proofs.lemmas.List.{take_all}
use Rattle.name_grammar.proofs.Reading.{rest_goes, went_in, went_out}
use Rattle.cpe_values.specs.declared.spelling.Style.TheVariants as style
use Rattle.cpe_values.specs.Parts.{is_character}
use Rattle.cpe_values.specs.Skipping.{skip_while}
use Rattle.cpe_values.specs.Spelling.{is_bare}
use Rattle.cpe_values.proofs.SkippingLemmas.{length-skip_while}
use Rattle.cpe_uri.specs.Spelling.{is_hex, hex_value, has_percent_form, spells, Spelled}
use Rattle.cpe_uri.specs.declared.text.Stage.{Stage}
use Rattle.cpe_uri.specs.declared.text.Stage.TheVariants.{Start, Na, Hyphen, LeadStar, LeadMarks, Body, TrailMarks, TrailStar}
use Rattle.cpe_uri.specs.declared.text.TextState.{TextState}
use Rattle.cpe_uri.specs.declared.text.TextState.TheVariants.{Whole, Percent, Half}
use Rattle.cpe_uri.specs.TextMachine.{begins_body, after_mark, after_star, after_character, takes_character, takes_special, takes_digit, is_start, next, is_over, is_bare_here, after_bare, after_percent, after_digit, after_code, text_step, may_end, is_in_body, ends_component, read_from}
use Rattle.cpe_uri.proofs.Stages.{some_stage, no_stage, stage_is, no_stage_is, run, run_then, NextCase, mark, star, plain, next_case}

-- ---- the cases of a test

when_true : {X : Type 0} (b : Bool) (x y : X) → b ≡ true → cond b x y ≡ x
when_true true x y h = refl
when_true false x y h = absurd cc

when_false : {X : Type 0} (b : Bool) (x y : X) → b ≡ false → cond b x y ≡ y
when_false true x y h = absurd cc
when_false false x y h = refl

-- ---- what the functions of `text.rt` test

bare_no_percent : (b : ℕ) → is_bare style.Formatted b ≡ true → eqb b 37 ≡ false
bare_no_percent b h = grind (arith, nat_tests)

bare_character : (b : ℕ) → is_bare style.Formatted b ≡ true → is_character b ≡ true
bare_character b h = grind (arith, nat_tests)

bare_no_mark : (b : ℕ) → is_bare style.Formatted b ≡ true → eqb b 1 ≡ false
bare_no_mark b h = grind (arith, nat_tests)

bare_no_star : (b : ℕ) → is_bare style.Formatted b ≡ true → eqb b 2 ≡ false
bare_no_star b h = grind (arith, nat_tests)

pub skip_within : (s : List ℕ) → length (skip_while (is_bare style.Formatted) s) ≤ length s
skip_within s = length-skip_while (is_bare style.Formatted) s

module _ (packed : Bool) where
  body_stays : (c : ℕ) → is_bare style.Formatted c ≡ true → text_step packed (Whole Body) c ≡ Some (Whole Body)
  body_stays c h = rw (bare_no_percent c h, h, bare_no_mark c h, bare_no_star c h, bare_character c h) refl

  -- bare characters inside a body don't change what is read after them
  pub skip_same : (s : List ℕ) → read_from packed (Whole Body) (skip_while (is_bare style.Formatted) s) ≡ read_from packed (Whole Body) s
  skip_same [] = refl
  skip_same (c ∷ s) = elim (cases_Bool (is_bare style.Formatted c)) [
    | inl h ↦ ap (read_from packed (Whole Body)) (when_true _ (skip_while (is_bare style.Formatted) s) (c ∷ s) h) ∙ skip_same s ∙ sym (rest_goes (text_step packed) may_end (Whole Body) (Whole Body) c s (body_stays c h))
    | inr h ↦ ap (read_from packed (Whole Body)) (when_false _ (skip_while (is_bare style.Formatted) s) (c ∷ s) h)
  ]

  pub skip_in_body : (q : TextState) (s : List ℕ) → is_in_body q ≡ true → read_from packed q (skip_while (is_bare style.Formatted) s) ≡ read_from packed q s
  skip_in_body (Whole Start) s h = absurd cc
  skip_in_body (Whole Na) s h = absurd cc
  skip_in_body (Whole Hyphen) s h = absurd cc
  skip_in_body (Whole LeadStar) s h = absurd cc
  skip_in_body (Whole (LeadMarks n)) s h = absurd cc
  skip_in_body (Whole Body) s h = skip_same s
  skip_in_body (Whole (TrailMarks n)) s h = absurd cc
  skip_in_body (Whole TrailStar) s h = absurd cc
  skip_in_body (Percent q) s h = absurd cc
  skip_in_body (Half q n) s h = absurd cc

  body_ended : (s : List ℕ) → ends_component s ≡ true → read_from packed (Whole Body) s ≡ Ok s
  body_ended [] h = refl
  body_ended (c ∷ s) h = let e : c ≡ 58 = eqb-true c 58 h in rw e refl

  -- inside a body, the machine succeeds at the end of a component
  pub ended_body : (q : TextState) (s : List ℕ) → is_in_body q ≡ true → ends_component s ≡ true → read_from packed q s ≡ Ok s
  ended_body (Whole Start) s h e = absurd cc
  ended_body (Whole Na) s h e = absurd cc
  ended_body (Whole Hyphen) s h e = absurd cc
  ended_body (Whole LeadStar) s h e = absurd cc
  ended_body (Whole (LeadMarks n)) s h e = absurd cc
  ended_body (Whole Body) s h e = body_ended s e
  ended_body (Whole (TrailMarks n)) s h e = absurd cc
  ended_body (Whole TrailStar) s h e = absurd cc
  ended_body (Percent q) s h e = absurd cc
  ended_body (Half q n) s h e = absurd cc

  body_begins : (c : ℕ) → is_bare style.Formatted c ≡ true → eqb c 45 ≡ false → text_step packed (Whole Start) c ≡ Some (Whole Body)
  body_begins c h k = rw (bare_no_percent c h, h, bare_no_mark c h, bare_no_star c h, bare_character c h, k) refl

  -- if a component begins with bare characters, the machine may begin after them, inside the body
  begun : (c : ℕ) (s : List ℕ) → begins_body c ≡ true → read_from packed (Whole Body) (skip_while (is_bare style.Formatted) s) ≡ read_from packed (Whole Start) (c ∷ s)
  begun c s h =
      let p = and_parts (is_bare style.Formatted c) (not (eqb c 45)) h in
      skip_same s ∙ sym (rest_goes (text_step packed) may_end (Whole Start) (Whole Body) c s (body_begins c p.0 (not-true (eqb c 45) p.1)))

  pub begun_at : (s : List ℕ) → 1 ≤ length s → begins_body (slice_index s 0) ≡ true → read_from packed (Whole Body) (skip_while (is_bare style.Formatted) (take (length s - 1) (drop 1 s))) ≡ read_from packed (Whole Start) s
  begun_at [] some h = absurd (omega (arith, some))
  begun_at (c ∷ s) some h = let n : length (c ∷ s) - 1 ≡ length s = omega arith in ap (λ (u : List ℕ). read_from packed (Whole Body) (skip_while (is_bare style.Formatted) u)) (take_all (length (c ∷ s) - 1) s (omega (arith, n))) ∙ begun c s h

  -- if there is a step, the machine continues from the next state
  pub went : (q t : TextState) (c : ℕ) (s : List ℕ) → text_step packed q c ≡ Some t → read_from packed q (c ∷ s) ≡ read_from packed t s
  went q t c s e = rest_goes (text_step packed) may_end q t c s e

  pub went_at : (q t : TextState) (s : List ℕ) → 1 ≤ length s → text_step packed q (slice_index s 0) ≡ Some t → read_from packed t (take (length s - 1) (drop 1 s)) ≡ read_from packed q s
  went_at q t [] some e = absurd (omega (arith, some))
  went_at q t (c ∷ s) some e = let n : length (c ∷ s) - 1 ≡ length s = omega arith in ap (read_from packed t) (take_all (length (c ∷ s) - 1) s (omega (arith, n))) ∙ sym (went q t c s e)

-- ---- what was read: codes, each in an accepted spelling

abbrev some_state : TextState → Option TextState
some_state q = Some q

abbrev no_state : Option TextState
no_state = None

state_is : (p q : TextState) → some_state p ≡ some_state q → p ≡ q
state_is p q e = cc

no_state_is : (q : TextState) → no_state ≡ some_state q → ⊥
no_state_is q e = cc

mapped : (o : Option Stage) (t : TextState) → option_map Whole o ≡ some_state t → (q : Stage) × (o ≡ Some q) × (t ≡ Whole q)
mapped (Some q) t e = (q, refl, sym (state_is (Whole q) t e))
mapped None t e = absurd (no_state_is t e)

chose : (b : Bool) (o : Option TextState) (t : TextState) → cond b o no_state ≡ some_state t → (b ≡ true) × (o ≡ Some t)
chose true o t e = (refl, e)
chose false o t e = absurd (no_state_is t e)

-- no step returns to the stage `Start`
pub later_next : (q t : Stage) (c : ℕ) → next q c ≡ Some t → is_start t ≡ false
later_next q t c e = go q c t (next_case q t c e) where
  is_not : (p t : Stage) → is_start p ≡ false → some_stage p ≡ some_stage t → is_start t ≡ false
  is_not p t h e = subst (λ (x : Stage). is_start x ≡ false) (stage_is p t e) h

  chosen_not : (b : Bool) (p t : Stage) → is_start p ≡ false → cond b (some_stage p) no_stage ≡ some_stage t → is_start t ≡ false
  chosen_not true p t h e = is_not p t h e
  chosen_not false p t h e = absurd (no_stage_is t e)

  either_not : (a b : Bool) (p r t : Stage) → is_start p ≡ false → is_start r ≡ false → cond a (some_stage (cond b p r)) no_stage ≡ some_stage t → is_start t ≡ false
  either_not a true p r t hp hr e = chosen_not a p t hp e
  either_not a false p r t hp hr e = chosen_not a r t hr e

  after_mark_not : (q t : Stage) → after_mark q ≡ some_stage t → is_start t ≡ false
  after_mark_not Start t e = is_not (LeadMarks 1) t refl e
  after_mark_not Na t e = is_not (TrailMarks 1) t refl e
  after_mark_not Hyphen t e = is_not (TrailMarks 1) t refl e
  after_mark_not LeadStar t e = absurd (no_stage_is t e)
  after_mark_not (LeadMarks n) t e = chosen_not (ltb n 4294967295) (LeadMarks (n + 1)) t refl e
  after_mark_not Body t e = is_not (TrailMarks 1) t refl e
  after_mark_not (TrailMarks n) t e = chosen_not (ltb n 4294967295) (TrailMarks (n + 1)) t refl e
  after_mark_not TrailStar t e = absurd (no_stage_is t e)

  after_star_not : (q t : Stage) → after_star q ≡ some_stage t → is_start t ≡ false
  after_star_not Start t e = is_not LeadStar t refl e
  after_star_not Na t e = is_not TrailStar t refl e
  after_star_not Hyphen t e = is_not TrailStar t refl e
  after_star_not LeadStar t e = absurd (no_stage_is t e)
  after_star_not (LeadMarks n) t e = absurd (no_stage_is t e)
  after_star_not Body t e = is_not TrailStar t refl e
  after_star_not (TrailMarks n) t e = absurd (no_stage_is t e)
  after_star_not TrailStar t e = absurd (no_stage_is t e)

  go : (q : Stage) (c : ℕ) (t : Stage) → NextCase q c t → is_start t ≡ false
  go _ _ _ (mark q t h) = after_mark_not q t h
  go _ _ _ (star q t h) = after_star_not q t h
  go _ _ _ (plain q t c good h) = either_not (takes_character q) (is_start q && eqb c 45) Hyphen Body t refl refl h

-- a letter in either case has the same next stage
next_lower : (q : Stage) (b : ℕ) → next q (to_ascii_lowercase b) ≡ next q b
next_lower q b =
    let one : eqb (to_ascii_lowercase b) 1 ≡ eqb b 1 = grind (arith, nat_tests) in
    let two : eqb (to_ascii_lowercase b) 2 ≡ eqb b 2 = grind (arith, nat_tests) in
    let good : is_character (to_ascii_lowercase b) ≡ is_character b = grind (arith, nat_tests) in
    let hyphen : eqb (to_ascii_lowercase b) 45 ≡ eqb b 45 = grind (arith, nat_tests) in
    rw (one, two, good, hyphen) refl

lower_lower : (b : ℕ) → to_ascii_lowercase (to_ascii_lowercase b) ≡ to_ascii_lowercase b
lower_lower b = grind (arith, nat_tests)

coded_lower : (c : ℕ) → has_percent_form c ≡ true → to_ascii_lowercase c ≡ c
coded_lower c h = grind (arith, nat_tests)

-- the text spells codes in lower case; after these codes, from the stage `q` on, the component may end
pub record Read (q : Stage) (s : List ℕ) : Type 0 where
  pub codes : List ℕ
  pub spelled : Spelled codes s
  pub lower : map to_ascii_lowercase codes ≡ codes
  pub end : Stage
  pub runs : run q codes ≡ Some end
  pub over : is_over end ≡ true

read_more : (q t : Stage) (c : ℕ) (u s : List ℕ) → next q c ≡ Some t → spells c u ≡ true → to_ascii_lowercase c ≡ c → Read t s → Read q (u ++ s)
read_more q t c u s e good low r = record {
  codes = c ∷ r.codes;
  spelled = (u, s, refl, good, r.spelled);
  lower = ap (λ (d : ℕ). d ∷ map to_ascii_lowercase r.codes) low ∙ ap (λ (cs : List ℕ). c ∷ cs) r.lower;
  end = r.end;
  runs = run_then q t c r.codes e ∙ r.runs;
  over = r.over;
}

read_end : (q : Stage) → is_over q ≡ true → Read q []
read_end q h = record { codes = []; spelled = refl; lower = refl; end = q; runs = refl; over = h }

-- the outcome of reading a text: `Read` holds, or the text is a hyphen alone at the beginning
abbrev pub Outcome : Stage → List ℕ → Type 0
Outcome q s = Read q s ⊎ ((is_start q ≡ true) × (s ≡ 45 ∷ []))

not_lone : (q : Stage) (s : List ℕ) → is_start q ≡ false → Outcome q s → Read q s
not_lone q s h o = elim o [ inl r ↦ r | inr lone ↦ absurd (both_ways (is_start q) h lone.0) ]

-- a bare hyphen at the beginning, with codes after it, has this outcome
hyphen_read : (q : Stage) (s : List ℕ) → is_start q ≡ true → Read Na s → Outcome q (45 ∷ s)
hyphen_read Start s h r = go r.codes r.spelled r.lower r.runs where
  go : (codes : List ℕ) → Spelled codes s → map to_ascii_lowercase codes ≡ codes → run Na codes ≡ Some r.end → Outcome Start (45 ∷ s)
  go [] empty low e = inr (refl, ap (λ (u : List ℕ). 45 ∷ u) empty)
  go (c ∷ codes) spelled low e = inl (record { codes = 45 ∷ c ∷ codes; spelled = (45 ∷ [], s, refl, refl, spelled); lower = ap (λ (cs : List ℕ). 45 ∷ cs) low; end = r.end; runs = e; over = r.over })
hyphen_read Na s h r = absurd cc
hyphen_read Hyphen s h r = absurd cc
hyphen_read LeadStar s h r = absurd cc
hyphen_read (LeadMarks n) s h r = absurd cc
hyphen_read Body s h r = absurd cc
hyphen_read (TrailMarks n) s h r = absurd cc
hyphen_read TrailStar s h r = absurd cc

module _ (packed : Bool) where
  bare_unit : (b : ℕ) → is_bare_here packed b ≡ true → spells (to_ascii_lowercase b) (b ∷ []) ≡ true
  bare_unit b h = and_from (is_bare style.Formatted b || eqb b 126) (eqb (to_ascii_lowercase b) (to_ascii_lowercase b)) (elim (or_cases (is_bare style.Formatted b) (eqb b 126 && not packed) h) [
    | inl bare ↦ or_left _ _ bare
    | inr tilde ↦ or_right _ _ (and_parts (eqb b 126) (not packed) tilde).0
  ]) (eq-eqb _ _ refl)

  -- a bare byte, with a text after it that was read, has this outcome
  bare_read : (q : Stage) (b : ℕ) (s : List ℕ) (t : TextState) → ((p : Stage) → read_from packed (Whole p) s ≡ Ok [] → Outcome p s) → eqb b 37 ≡ false → text_step packed (Whole q) b ≡ Some t → read_from packed t s ≡ Ok [] → Outcome q (b ∷ s)
  bare_read q b s t again other taken e =
      let bare = chose (is_bare_here packed b) (after_bare q b) t (sym (when_false (eqb b 37) (after_percent q) _ other) ∙ taken) in
      elim (cases_Bool (is_start q && eqb b 45)) [
        | inl first ↦
            let p = and_parts (is_start q) (eqb b 45) first in
            let is : Whole Na ≡ t = state_is (Whole Na) t (sym (when_true (is_start q && eqb b 45) (some_state (Whole Na)) (option_map Whole (next q b)) first) ∙ bare.1) in
            let rest = not_lone Na s refl (again Na (ap (λ (x : TextState). read_from packed x s) is ∙ e)) in
            subst (λ (d : ℕ). Outcome q (d ∷ s)) (sym (eqb-true b 45 p.1)) (hyphen_read q s p.0 rest)
        | inr later ↦
            let so = mapped (next q b) t (sym (when_false (is_start q && eqb b 45) (some_state (Whole Na)) (option_map Whole (next q b)) later) ∙ bare.1) in
            let rest = not_lone so.0 s (later_next q so.0 b so.1) (again so.0 (ap (λ (x : TextState). read_from packed x s) (sym so.2) ∙ e)) in
            inl (read_more q so.0 (to_ascii_lowercase b) (b ∷ []) s (next_lower q b ∙ so.1) (bare_unit b bare.0) (lower_lower b) rest)
      ]

  -- ---- after a percent sign and its digits

  from_state : (t u : TextState) (s : List ℕ) → t ≡ u → read_from packed u s ≡ Ok [] → read_from packed t s ≡ Ok []
  from_state t u s same e = ap (λ (x : TextState). read_from packed x s) same ∙ e

  percent_read : (q : Stage) (s : List ℕ) → read_from packed (Whole q) (37 ∷ s) ≡ Ok [] → read_from packed (Percent q) s ≡ Ok []
  percent_read q s e =
      let so = went_in (text_step packed) may_end (Whole q) 37 s e in
      from_state (Percent q) so.0 s (state_is (Percent q) so.0 (chose (takes_character q || takes_special q) (Some (Percent q)) so.0 so.1).1) so.2

  digit_read : (q : Stage) (h : ℕ) (s : List ℕ) → read_from packed (Percent q) (h ∷ s) ≡ Ok [] → (is_hex h ≡ true) × (read_from packed (Half q (hex_value h)) s ≡ Ok [])
  digit_read q h s e =
      let so = went_in (text_step packed) may_end (Percent q) h s e in
      let hex = chose (is_hex h) (after_digit q (hex_value h)) so.0 so.1 in
      (hex.0, from_state (Half q (hex_value h)) so.0 s (state_is (Half q (hex_value h)) so.0 (chose (takes_digit q (hex_value h)) (Some (Half q (hex_value h))) so.0 hex.1).1) so.2)

  -- the code has a percent form and a next stage, from which the rest is read
  record CodeRead (q : Stage) (c : ℕ) (s : List ℕ) : Type 0 where
    stage : Stage
    form : has_percent_form c ≡ true
    rest_goes : next q c ≡ Some stage
    rest : read_from packed (Whole stage) s ≡ Ok []

  code_read : (q : Stage) (h l : ℕ) (s : List ℕ) → read_from packed (Half q h) (l ∷ s) ≡ Ok [] → (is_hex l ≡ true) × CodeRead q (16 * h + hex_value l) s
  code_read q h l s e =
      let so = went_in (text_step packed) may_end (Half q h) l s e in
      let hex = chose (is_hex l) (after_code q (16 * h + hex_value l)) so.0 so.1 in
      let form = chose (has_percent_form (16 * h + hex_value l)) (option_map Whole (next q (16 * h + hex_value l))) so.0 hex.1 in
      let to = mapped (next q (16 * h + hex_value l)) so.0 form.1 in
      (hex.0, record { stage = to.0; form = form.0; rest_goes = to.1; rest = from_state (Whole to.0) so.0 s (sym to.2) so.2 })

  form_spells : (h l : ℕ) → is_hex h ≡ true → is_hex l ≡ true → has_percent_form (16 * hex_value h + hex_value l) ≡ true → spells (16 * hex_value h + hex_value l) (37 ∷ h ∷ l ∷ []) ≡ true
  form_spells h l hex hex2 form = rw (hex, hex2, eq-eqb (16 * hex_value h + hex_value l) (16 * hex_value h + hex_value l) refl) form

  form_after : (q : Stage) (h l : ℕ) (s : List ℕ) → ((p : Stage) → read_from packed (Whole p) s ≡ Ok [] → Outcome p s) → is_hex h ≡ true → is_hex l ≡ true → CodeRead q (16 * hex_value h + hex_value l) s → Read q (37 ∷ h ∷ l ∷ s)
  form_after q h l s again hex hex2 code =
      read_more q code.stage (16 * hex_value h + hex_value l) (37 ∷ h ∷ l ∷ []) s code.rest_goes (form_spells h l hex hex2 code.form) (coded_lower (16 * hex_value h + hex_value l) code.form) (not_lone code.stage s (later_next q code.stage (16 * hex_value h + hex_value l) code.rest_goes) (again code.stage code.rest))

  -- a text that begins with a percent form was read code by code
  form_read : (q : Stage) (h l : ℕ) (s : List ℕ) → ((p : Stage) → read_from packed (Whole p) s ≡ Ok [] → Outcome p s) → read_from packed (Whole q) (37 ∷ h ∷ l ∷ s) ≡ Ok [] → Read q (37 ∷ h ∷ l ∷ s)
  form_read q h l s again e =
      let high = digit_read q h (l ∷ s) (percent_read q (h ∷ l ∷ s) e) in
      let low = code_read q (hex_value h) l s high.1 in
      form_after q h l s again high.0 low.0 low.1

  -- a percent sign at the end of a text is refused
  cut_percent : (q : Stage) → read_from packed (Whole q) (37 ∷ []) ≡ Ok [] → ⊥
  cut_percent q e = let over = went_out (text_step packed) may_end (Percent q) (percent_read q [] e) in absurd cc

  cut_half : (q : Stage) (h : ℕ) → read_from packed (Whole q) (37 ∷ h ∷ []) ≡ Ok [] → ⊥
  cut_half q h e = let over = went_out (text_step packed) may_end (Half q (hex_value h)) (digit_read q h [] (percent_read q (h ∷ []) e)).1 in absurd cc

  -- a text that is read whole was read code by code
  pub was_read : (q : Stage) (s : List ℕ) → read_from packed (Whole q) s ≡ Ok [] → Outcome q s
  was_read q [] e = inl (read_end q (went_out (text_step packed) may_end (Whole q) e))
  was_read q (c ∷ []) e = elim (cases_Bool (eqb c 37)) [
    | inl form ↦ absurd (cut_percent q (ap (λ (d : ℕ). read_from packed (Whole q) (d ∷ [])) (sym (eqb-true c 37 form)) ∙ e))
    | inr other ↦ let so = went_in (text_step packed) may_end (Whole q) c [] e in bare_read q c [] so.0 (λ p k. was_read p [] k) other so.1 so.2
  ]
  was_read q (c ∷ h ∷ []) e = elim (cases_Bool (eqb c 37)) [
    | inl form ↦ absurd (cut_half q h (ap (λ (d : ℕ). read_from packed (Whole q) (d ∷ h ∷ [])) (sym (eqb-true c 37 form)) ∙ e))
    | inr other ↦ let so = went_in (text_step packed) may_end (Whole q) c (h ∷ []) e in bare_read q c (h ∷ []) so.0 (λ p k. was_read p (h ∷ []) k) other so.1 so.2
  ]
  was_read q (c ∷ h ∷ l ∷ s) e = elim (cases_Bool (eqb c 37)) [
    | inl form ↦ inl (subst (λ (d : ℕ). Read q (d ∷ h ∷ l ∷ s)) (sym (eqb-true c 37 form)) (form_read q h l s (λ p k. was_read p s k) (ap (λ (d : ℕ). read_from packed (Whole q) (d ∷ h ∷ l ∷ s)) (sym (eqb-true c 37 form)) ∙ e)))
    | inr other ↦ let so = went_in (text_step packed) may_end (Whole q) c (h ∷ l ∷ s) e in bare_read q c (h ∷ l ∷ s) so.0 (λ p k. was_read p (h ∷ l ∷ s) k) other so.1 so.2
  ]

-- ---- codes are read in each accepted spelling

special_or_character : (q t : Stage) (c : ℕ) → next q c ≡ Some t → takes_character q || takes_special q ≡ true
special_or_character q t c e = go q c t (next_case q t c e) where
  some_is : (o : Option Stage) (t : Stage) → o ≡ Some t → Rattle.std.specs.Prelude.is_some o ≡ true
  some_is o t e = ap Rattle.std.specs.Prelude.is_some e

  go : (q : Stage) (c : ℕ) (t : Stage) → NextCase q c t → takes_character q || takes_special q ≡ true
  go _ _ _ (mark q t h) = or_right _ _ (or_left _ _ (some_is (after_mark q) t h))
  go _ _ _ (star q t h) = or_right _ _ (or_right _ _ (some_is (after_star q) t h))
  go _ _ _ (plain q t c good h) = or_left _ _ (takes q h) where
    takes : (q : Stage) → after_character q c ≡ Some t → takes_character q ≡ true
    takes q h = elim (cases_Bool (takes_character q)) [ inl yes' ↦ yes' | inr no' ↦ absurd (no_stage_is t (rw no' at h)) ]

digit_taken : (q t : Stage) (h l c : ℕ) → is_hex h ≡ true → is_hex l ≡ true → 16 * hex_value h + hex_value l ≡ c → next q c ≡ Some t → takes_digit q (hex_value h) ≡ true
digit_taken q t h l c hex hex2 is e = go q c t is (next_case q t c e) where
  small : hex_value l < 16
  small = grind (arith, nat_tests)

  some_is : (o : Option Stage) (t : Stage) → o ≡ Some t → Rattle.std.specs.Prelude.is_some o ≡ true
  some_is o t e = ap Rattle.std.specs.Prelude.is_some e

  takes : (q t : Stage) (c : ℕ) → after_character q c ≡ Some t → takes_character q ≡ true
  takes q t c h = elim (cases_Bool (takes_character q)) [ inl yes' ↦ yes' | inr no' ↦ absurd (no_stage_is t (rw no' at h)) ]

  special : (q : Stage) → hex_value h ≡ 0 → takes_special q ≡ true → takes_digit q (hex_value h) ≡ true
  special q none yes' = rw none yes'

  character : (q : Stage) (n : ℕ) → 2 ≤ n → n ≤ 7 → takes_character q ≡ true → takes_digit q n ≡ true
  character q n low high yes' =
      let none : eqb n 0 ≡ false = grind (arith, nat_tests) in
      let from : leb 2 n ≡ true = grind (arith, nat_tests) in
      let to : leb n 7 ≡ true = grind (arith, nat_tests) in
      rw (none, from, to) yes'

  go : (q : Stage) (c : ℕ) (t : Stage) → 16 * hex_value h + hex_value l ≡ c → NextCase q c t → takes_digit q (hex_value h) ≡ true
  go _ _ _ is (mark q t e) = special q (omega (arith, is)) (or_left _ _ (some_is (after_mark q) t e))
  go _ _ _ is (star q t e) = special q (omega (arith, is)) (or_right _ _ (some_is (after_star q) t e))
  go _ _ _ is (plain q t c good e) =
      let first : 33 ≤ c = grind (arith, nat_tests) in
      let last : c ≤ 126 = grind (arith, nat_tests) in
      character q (hex_value h) (omega (arith, is, small, first)) (omega (arith, is, last)) (takes q t c e)

module _ (packed : Bool) where
  -- in a packed field, the text has no bare tilde
  abbrev pub NoTilde : List ℕ → Type 0
  NoTilde s = packed ≡ true → list_all (λ c. not (eqb c 126)) s ≡ true

  bare_is_spelled : (b : ℕ) → is_bare style.Formatted b || eqb b 126 ≡ true → (packed ≡ true → eqb b 126 ≡ false) → is_bare_here packed b ≡ true
  bare_is_spelled b h never = elim (or_cases (is_bare style.Formatted b) (eqb b 126) h) [
    | inl bare ↦ or_left _ _ bare
    | inr tilde ↦ or_right _ _ (and_from _ _ tilde (elim (cases_Bool packed) [ inl is ↦ absurd (both_ways (eqb b 126) (never is) tilde) | inr is ↦ rw is refl ]))
  ]

  bare_is_other : (b : ℕ) → is_bare style.Formatted b || eqb b 126 ≡ true → eqb b 37 ≡ false
  bare_is_other b h = grind (arith, nat_tests)

  not_tilde : (b : ℕ) (s : List ℕ) → NoTilde (b ∷ s) → packed ≡ true → eqb b 126 ≡ false
  not_tilde b s none is = elim (cases_Bool (eqb b 126)) [
    | inl h ↦ let never = (and_parts (not (eqb b 126)) (list_all (λ c. not (eqb c 126)) s) (none is)).0 in absurd (both_ways (not (eqb b 126)) (rw h refl) never)
    | inr h ↦ h
  ]

  -- after the percent form of a code, the machine continues from the next stage
  form_unit : (q t : Stage) (c b h l : ℕ) (r : List ℕ) → eqb b 37 ≡ true → is_hex h ≡ true → is_hex l ≡ true → 16 * hex_value h + hex_value l ≡ c → has_percent_form c ≡ true → next q c ≡ Some t
      → read_from packed (Whole q) (b ∷ h ∷ l ∷ r) ≡ read_from packed (Whole t) r
  form_unit q t c b h l r sign hex hex2 code form e =
      let percent : text_step packed (Whole q) b ≡ Some (Percent q) = rw (sign, special_or_character q t c e) refl in
      let high : text_step packed (Percent q) h ≡ Some (Half q (hex_value h)) = rw (hex, digit_taken q t h l c hex hex2 code e) refl in
      let low : text_step packed (Half q (hex_value h)) l ≡ Some (Whole t) = rw (hex2, code, form, e) refl in
      went packed (Whole q) (Percent q) b (h ∷ l ∷ r) percent ∙ went packed (Percent q) (Half q (hex_value h)) h (l ∷ r) high ∙ went packed (Half q (hex_value h)) (Whole t) l r low

  -- After an accepted spelling of a code, the machine continues from the next stage. The bare hyphen at the beginning
  -- is an exception.
  pub unit_read : (q t : Stage) (c : ℕ) (u r : List ℕ) → spells c u ≡ true → NoTilde u → next q c ≡ Some t → ((is_start q ≡ true) × (u ≡ 45 ∷ []) → ⊥) → read_from packed (Whole q) (u ++ r) ≡ read_from packed (Whole t) r
  unit_read q t c [] r good none e other = absurd cc
  unit_read q t c (b ∷ []) r good none e other =
      let p = and_parts (is_bare style.Formatted b || eqb b 126) (eqb (to_ascii_lowercase b) c) good in
      let is : to_ascii_lowercase b ≡ c = eqb-true (to_ascii_lowercase b) c p.1 in
      let first : is_start q && eqb b 45 ≡ false = elim (cases_Bool (is_start q && eqb b 45)) [
        | inl h ↦ let so = and_parts (is_start q) (eqb b 45) h in absurd (other (so.0, ap (λ (d : ℕ). d ∷ []) (eqb-true b 45 so.1)))
        | inr h ↦ h
      ] in
      let there : next q b ≡ Some t = sym (next_lower q b) ∙ ap (next q) is ∙ e in
      went packed (Whole q) (Whole t) b r (
      when_false (eqb b 37) (after_percent q) (cond (is_bare_here packed b) (after_bare q b) no_state) (bare_is_other b p.0)
      ∙ when_true (is_bare_here packed b) (after_bare q b) no_state (bare_is_spelled b p.0 (not_tilde b [] none))
      ∙ when_false (is_start q && eqb b 45) (some_state (Whole Na)) (option_map Whole (next q b)) first
      ∙ ap (option_map Whole) there)
  unit_read q t c (b ∷ d ∷ []) r good none e other = absurd cc
  unit_read q t c (b ∷ h ∷ l ∷ []) r good none e other =
      let p = and_parts (eqb b 37 && is_hex h && is_hex l && eqb (16 * hex_value h + hex_value l) c) (has_percent_form c) good in
      let o = and_parts (eqb b 37 && is_hex h && is_hex l) (eqb (16 * hex_value h + hex_value l) c) p.0 in
      let n = and_parts (eqb b 37 && is_hex h) (is_hex l) o.0 in
      let m = and_parts (eqb b 37) (is_hex h) n.0 in
      form_unit q t c b h l r m.0 m.1 n.1 (eqb-true _ c o.1) p.1 e
  unit_read q t c (b ∷ h ∷ l ∷ d ∷ u) r good none e other = absurd cc

-- ---- the machine can reach an end from each state

-- a state that the machine can reach
abbrev pub Good : TextState → Type 0
Good (Whole q) = Unit {0}
Good (Percent q) = takes_character q || takes_special q ≡ true
Good (Half q h) = takes_digit q h ≡ true

module _ (packed : Bool) where
  pub stays_good : (q t : TextState) (c : ℕ) → Good q → text_step packed q c ≡ Some t → Good t
  stays_good (Whole q) t c good e =
      elim (cases_Bool (eqb c 37)) [
        | inl h ↦
            let so = chose (takes_character q || takes_special q) (Some (Percent q)) t (sym (when_true (eqb c 37) (after_percent q) (cond (is_bare_here packed c) (after_bare q c) no_state) h) ∙ e) in
            subst Good (state_is (Percent q) t so.1) so.0
        | inr h ↦
            let so = chose (is_bare_here packed c) (after_bare q c) t (sym (when_false (eqb c 37) (after_percent q) (cond (is_bare_here packed c) (after_bare q c) no_state) h) ∙ e) in
            elim (cases_Bool (is_start q && eqb c 45)) [
              | inl first ↦ subst Good (state_is (Whole Na) t (sym (when_true (is_start q && eqb c 45) (some_state (Whole Na)) (option_map Whole (next q c)) first) ∙ so.1)) tt
              | inr later ↦ let to = mapped (next q c) t (sym (when_false (is_start q && eqb c 45) (some_state (Whole Na)) (option_map Whole (next q c)) later) ∙ so.1) in subst Good (sym to.2) tt
            ]
      ]
  stays_good (Percent q) t c good e =
      let hex = chose (is_hex c) (after_digit q (hex_value c)) t e in
      let so = chose (takes_digit q (hex_value c)) (Some (Half q (hex_value c))) t hex.1 in
      subst Good (state_is (Half q (hex_value c)) t so.1) so.0
  stays_good (Half q h) t c good e =
      let hex = chose (is_hex c) (after_code q (16 * h + hex_value c)) t e in
      let so = chose (has_percent_form (16 * h + hex_value c)) (option_map Whole (next q (16 * h + hex_value c))) t hex.1 in
      let to = mapped (next q (16 * h + hex_value c)) t so.1 in
      subst Good (sym to.2) tt

  abbrev Completes : TextState → Type 0
  Completes q = (u : List ℕ) × (read_from packed q u ≡ Ok [])

  from_stage : (q : Stage) → Completes (Whole q)
  from_stage Start = ([], refl)
  from_stage Na = ([], refl)
  from_stage Hyphen = (97 ∷ [], refl)
  from_stage LeadStar = (97 ∷ [], refl)
  from_stage (LeadMarks n) = (97 ∷ [], refl)
  from_stage Body = ([], refl)
  from_stage (TrailMarks n) = ([], refl)
  from_stage TrailStar = ([], refl)

  -- if the machine can reach an end from the next state, it can from this state
  before : (q t : TextState) (c : ℕ) → text_step packed q c ≡ Some t → Completes t → Completes q
  before q t c e more = (c ∷ more.0, went packed q t c more.0 e ∙ more.1)

  -- after `%0`, the digit of a question mark may follow, or otherwise that of an asterisk
  from_special : (q : Stage) → takes_special q ≡ true → Completes (Half q 0)
  from_special q h = go (next q 1) refl (next q 2) refl where
    go : (o : Option Stage) → next q 1 ≡ o → (p : Option Stage) → next q 2 ≡ p → Completes (Half q 0)
    go (Some t) e p f = before (Half q 0) (Whole t) 49 (ap (option_map Whole) e) (from_stage t)
    go None e (Some t) f = before (Half q 0) (Whole t) 50 (ap (option_map Whole) f) (from_stage t)
    go None e None f = absurd (both_ways (takes_special q) (rw (e, f) refl) h)

  -- after the first digit of a character, a second digit may follow
  from_character : (q : Stage) (h : ℕ) → takes_character q ≡ true → 2 ≤ h → h ≤ 7 → Completes (Half q h)
  from_character q h good low high =
      elim (cases_Bool (eqb h 4 || eqb h 6)) [
        | inl even ↦ with_code q h 48 (16 * h) good refl (grind (arith, nat_tests)) (grind (arith, nat_tests)) (grind (arith, nat_tests)) (grind (arith, nat_tests))
        | inr other ↦ with_code q h 101 (16 * h + 14) good refl (grind (arith, nat_tests)) (grind (arith, nat_tests)) (grind (arith, nat_tests)) (grind (arith, nat_tests))
      ]
    where
      with_code : (q : Stage) (h l c : ℕ) → takes_character q ≡ true → is_hex l ≡ true → 16 * h + hex_value l ≡ c → has_percent_form c ≡ true → is_character c ≡ true → (eqb c 1 ≡ false) × (eqb c 2 ≡ false) → Completes (Half q h)
      with_code q h l c takes hex is form good no_special = go (next q c) refl where
        go : (o : Option Stage) → next q c ≡ o → Completes (Half q h)
        go (Some t) e = before (Half q h) (Whole t) l (rw (hex, is, form, e) refl) (from_stage t)
        go None e = absurd (stage_there (sym e ∙ rw (no_special.0, no_special.1, good, takes) refl)) where
          stage_there : no_stage ≡ some_stage (cond (is_start q && eqb c 45) Hyphen Body) → ⊥
          stage_there e = no_stage_is _ e

  pub completed : (q : TextState) → Good q → Completes q
  completed (Whole q) good = from_stage q
  completed (Percent q) good = elim (or_cases (takes_character q) (takes_special q) good) [
    | inl character ↦ before (Percent q) (Half q 2) 50 (rw character refl) (from_character q 2 character (omega arith) (omega arith))
    | inr special ↦ before (Percent q) (Half q 0) 48 (rw special refl) (from_special q special)
  ]
  completed (Half q h) good = elim (cases_Bool (eqb h 0)) [
    | inl none ↦ subst (λ (n : ℕ). Completes (Half q n)) (sym (eqb-true h 0 none)) (from_special q (rw none at good))
    | inr some ↦
        let so : leb 2 h && leb h 7 && takes_character q ≡ true = rw some at good in
        let p = and_parts (leb 2 h && leb h 7) (takes_character q) so in
        let o = and_parts (leb 2 h) (leb h 7) p.0 in
        from_character q h p.1 (grind (arith, nat_tests)) (grind (arith, nat_tests))
  ]
