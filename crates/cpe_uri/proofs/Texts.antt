-- Lemmas: the scanner of components reads those of ANY, NA and texts in each accepted spelling. It stops at the place
-- of any other text.
use Rattle.std.proofs.Common.{◌≡◌, ◌≢◌, ◌⊎◌, ℕ, zero, suc, replicate, not, Bool, true, false, eqb, List, [], ◌∷◌, ◌++◌, map, Option, Some, None, Ok, refl, sym, ap, subst, ◌∙◌, inl, inr, append_assoc}
use Rattle.std.specs.List.{list_all}
use Rattle.std.specs.Char.{to_ascii_lowercase}
use Rattle.std.proofs.lemmas.Bool.{cases_Bool, eqb-true, eq-eqb, and_parts, and_from, both_ways}
use Rattle.std.proofs.lemmas.List.{append_cancel_left, append_cancel_right}
use Rattle.name_grammar.proofs.Reading.{went_in, ends_here, ends_there, Taken, machine_scans}
use Rattle.name_grammar.proofs.Scans.{Scans, wider}
use Rattle.cpe_values.specs.declared.value.Edge.{Edge}
use Rattle.cpe_values.specs.declared.value.Edge.TheVariants as edge
use Rattle.cpe_values.specs.declared.value.Value.{Value}
use Rattle.cpe_values.specs.declared.value.Value.TheVariants as value
use Rattle.cpe_values.specs.Lower.{lower_parts}
use Rattle.cpe_values.specs.Parts.{Parts, parts, IsText}
use Rattle.cpe_values.specs.Values.{IsValue}
use Rattle.cpe_uri.specs.Spelling.{edge_codes, text_codes, spells, Spelled, IsSpellingOf}
use Rattle.cpe_uri.specs.declared.text.Stage.{Stage}
use Rattle.cpe_uri.specs.declared.text.Stage.TheVariants.{Start, Na, Hyphen}
use Rattle.cpe_uri.specs.declared.text.TextState.{TextState}
use Rattle.cpe_uri.specs.declared.text.TextState.TheVariants.{Whole, Percent, Half}
use Rattle.cpe_uri.specs.TextMachine.{is_start, next, is_over, text_step, may_end, read_from, text_end}
use Rattle.cpe_uri.specs.Spans.{IsTextComponent}
use Rattle.cpe_uri.proofs.Stages.{stage_is, no_stage_is, start_text, run, Over, text_over}
use Rattle.cpe_uri.proofs.Components.{went, was_read, NoTilde, unit_read, Good, stays_good, completed, later_next}

-- ---- where a component ends

-- a component ends here: at the end of the text, at a colon, or, in a packed field, at a tilde
abbrev pub EndsIn : Bool → List ℕ → Type 0
EndsIn packed [] = Unit {0}
EndsIn packed (c ∷ r) = (c ≡ 58) ⊎ ((c ≡ 126) × (packed ≡ true))

no_step : (packed : Bool) (q : Stage) (c : ℕ) (r : List ℕ) → EndsIn packed (c ∷ r) → text_step packed (Whole q) c ≡ None
no_step packed q c r ends = elim ends [
  | inl colon ↦ rw colon refl
  | inr tilde ↦ rw (tilde.0, tilde.1) refl
]

ended : (packed : Bool) (q : Stage) (r : List ℕ) → is_over q ≡ true → EndsIn packed r → read_from packed (Whole q) r ≡ Ok r
ended packed q [] over ends = ends_there (text_step packed) may_end (Whole q) over
ended packed q (c ∷ r) over ends = ends_here (text_step packed) may_end (Whole q) c r (no_step packed q c r ends) over

-- ---- each accepted spelling is read

module _ (packed : Bool) where
  abbrev no_tilde : List ℕ → Bool
  no_tilde s = list_all (λ c. not (eqb c 126)) s

  all_parts : (u v : List ℕ) → no_tilde (u ++ v) ≡ true → (no_tilde u ≡ true) × (no_tilde v ≡ true)
  all_parts [] v h = (refl, h)
  all_parts (c ∷ u) v h =
      let p = and_parts (not (eqb c 126)) (no_tilde (u ++ v)) h in
      let so = all_parts u v p.1 in
      (and_from _ _ p.0 so.0, so.1)

  next_of : (q : Stage) (c : ℕ) (cs : List ℕ) (end : Stage) → run q (c ∷ cs) ≡ Some end → (t : Stage) × (next q c ≡ Some t) × (run t cs ≡ Some end)
  next_of q c cs end e = go (next q c) refl where
    go : (o : Option Stage) → next q c ≡ o → (t : Stage) × (next q c ≡ Some t) × (run t cs ≡ Some end)
    go (Some t) is = (t, is, rw is at e)
    go None is = absurd (no_stage_is end (rw is at e))

  -- a text is cut after the spelling of its first code
  cut_behind : (c : ℕ) (cs s r : List ℕ) (h : Spelled (c ∷ cs) s) → NoTilde packed s → (s ++ r ≡ h.0 ++ (h.1 ++ r)) × NoTilde packed h.0 × NoTilde packed h.1
  cut_behind c cs s r h none =
      (ap (λ (w : List ℕ). w ++ r) h.2 ∙ append_assoc h.0 h.1 r, λ is. (all_parts h.0 h.1 (ap no_tilde (sym h.2) ∙ none is)).0, λ is. (all_parts h.0 h.1 (ap no_tilde (sym h.2) ∙ none is)).1)

  rest_read : (q : Stage) (cs s r : List ℕ) (end : Stage) → is_start q ≡ false → Spelled cs s → NoTilde packed s → run q cs ≡ Some end → read_from packed (Whole q) (s ++ r) ≡ read_from packed (Whole end) r
  rest_read q [] s r end later spelled none e = ap (λ (u : List ℕ). read_from packed (Whole q) (u ++ r)) spelled ∙ ap (λ (p : Stage). read_from packed (Whole p) r) (stage_is q end e)
  rest_read q (c ∷ cs) s r end later spelled none e =
      let so = next_of q c cs end e in
      let u = spelled.0 in
      let v = spelled.1 in
      let cut = cut_behind c cs s r spelled none in
      ap (read_from packed (Whole q)) cut.0
      ∙ unit_read packed q so.0 c u (v ++ r) spelled.3 cut.1 so.1 (λ lone. both_ways (is_start q) later lone.0)
      ∙ rest_read so.0 cs v r end (later_next q so.0 c so.1) spelled.4 cut.2 so.2

  -- a bare hyphen at the beginning, and codes after it, are read
  hyphen_read : (cs s r : List ℕ) (end : Stage) → Spelled cs s → NoTilde packed s → run Hyphen cs ≡ Some end → is_over end ≡ true → read_from packed (Whole Na) (s ++ r) ≡ read_from packed (Whole end) r
  hyphen_read [] s r end spelled none e over = let is : Hyphen ≡ end = stage_is Hyphen end e in absurd (both_ways (is_over end) (ap is_over (sym is)) over)
  hyphen_read (c ∷ cs) s r end spelled none e over = rest_read Na (c ∷ cs) s r end refl spelled none e

  is_hyphen : (u : List ℕ) → (u ≡ 45 ∷ []) ⊎ (u ≢ 45 ∷ [])
  is_hyphen [] = inr (λ e. absurd cc)
  is_hyphen (c ∷ []) = elim (cases_Bool (eqb c 45)) [
    | inl h ↦ inl (ap (λ (d : ℕ). d ∷ []) (eqb-true c 45 h))
    | inr h ↦ inr (λ e. both_ways (eqb c 45) h (eq-eqb c 45 (first_is c e)))
  ]
    where
      first_is : (c : ℕ) → c ∷ [] ≡ 45 ∷ [] → c ≡ 45
      first_is c e = cc
  is_hyphen (c ∷ d ∷ u) = inr (λ e. absurd cc)

  hyphen_code : (c : ℕ) (u : List ℕ) → u ≡ 45 ∷ [] → spells c u ≡ true → c ≡ 45
  hyphen_code c u is h =
      let good : spells c (45 ∷ []) ≡ true = ap (spells c) (sym is) ∙ h in
      sym (eqb-true (to_ascii_lowercase 45) c (and_parts true (eqb (to_ascii_lowercase 45) c) good).1)

  start_read : (c : ℕ) (cs s r : List ℕ) (end : Stage) → Spelled (c ∷ cs) s → NoTilde packed s → run Start (c ∷ cs) ≡ Some end → is_over end ≡ true → read_from packed (Whole Start) (s ++ r) ≡ read_from packed (Whole end) r
  start_read c cs s r end spelled none e over =
      let so = next_of Start c cs end e in
      let u = spelled.0 in
      let v = spelled.1 in
      let cut = cut_behind c cs s r spelled none in
      elim (is_hyphen u) [
        | inl lone ↦
            let code : c ≡ 45 = hyphen_code c u lone spelled.3 in
            let from : run Hyphen cs ≡ Some end = ap (λ (d : ℕ). run Start (d ∷ cs)) (sym code) ∙ e in
            ap (read_from packed (Whole Start)) (cut.0 ∙ ap (λ (w : List ℕ). w ++ (v ++ r)) lone)
            ∙ went packed (Whole Start) (Whole Na) 45 (v ++ r) refl
            ∙ hyphen_read cs v r end spelled.4 cut.2 from over
        | inr other ↦
            ap (read_from packed (Whole Start)) cut.0
            ∙ unit_read packed Start so.0 c u (v ++ r) spelled.3 cut.1 so.1 (λ lone. other lone.1)
            ∙ rest_read so.0 cs v r end (later_next Start so.0 c so.1) spelled.4 cut.2 so.2
      ]

  some_codes : (t : Parts) → IsText t → text_codes t ≢ []
  some_codes t good e = go t.lead t.body t.trail good.some e where
    go : (lead : Edge) (body : List ℕ) (trail : Edge) → body ≢ [] → edge_codes lead ++ body ++ edge_codes trail ≢ []
    go lead [] trail some e = some refl
    go edge.None (c ∷ body) trail some e = absurd cc
    go edge.Star (c ∷ body) trail some e = absurd cc
    go (edge.Marks zero) (c ∷ body) trail some e = absurd cc
    go (edge.Marks (suc n)) (c ∷ body) trail some e = absurd cc

  codes_read : (cs s r : List ℕ) → cs ≢ [] → Spelled cs s → NoTilde packed s → Over Start cs → EndsIn packed r → read_from packed (Whole Start) (s ++ r) ≡ Ok r
  codes_read [] s r some spelled none over ends = absurd (some refl)
  codes_read (c ∷ cs) s r some spelled none over ends = start_read c cs s r over.end spelled none over.runs over.over ∙ ended packed over.end r over.over ends

  -- the component of a value is read in each accepted spelling
  pub text_taken : (v : Value) (s r : List ℕ) → IsValue v → IsSpellingOf v s → NoTilde packed s → EndsIn packed r → text_end packed (s ++ r) ≡ Ok r
  unfolding text_end
  text_taken value.Any s r good present none ends = ap (λ (u : List ℕ). read_from packed (Whole Start) (u ++ r)) present ∙ ended packed Start r refl ends
  text_taken value.Na s r good present none ends =
      ap (λ (u : List ℕ). read_from packed (Whole Start) (u ++ r)) present ∙ went packed (Whole Start) (Whole Na) 45 r refl ∙ ended packed Na r refl ends
  text_taken (value.Text t) s r good present none ends = codes_read (text_codes t) s r (some_codes t good) present none (text_over t good) ends

-- ---- what is read

abbrev some_state : TextState → Option TextState
some_state t = Some t

abbrev no_state : Option TextState
no_state = None

no_tilde_step : (q : TextState) → text_step true q 126 ≡ None
no_tilde_step (Whole q) = refl
no_tilde_step (Percent q) = refl
no_tilde_step (Half q h) = refl

taken_no_tilde : (q : TextState) (s : List ℕ) → read_from true q s ≡ Ok [] → list_all (λ c. not (eqb c 126)) s ≡ true
taken_no_tilde q [] e = refl
taken_no_tilde q (c ∷ s) e =
    let so = went_in (text_step true) may_end q c s e in
    elim (cases_Bool (eqb c 126)) [
      | inl h ↦ absurd (no_way so.0 (sym (no_tilde_step q) ∙ ap (text_step true q) (sym (eqb-true c 126 h)) ∙ so.1))
      | inr h ↦ and_from _ _ (rw h refl) (taken_no_tilde so.0 s so.2)
    ]
  where
    no_way : (t : TextState) → no_state ≡ some_state t → ⊥
    no_way t e = cc

none_taken : (packed : Bool) (s : List ℕ) → read_from packed (Whole Start) s ≡ Ok [] → NoTilde packed s
none_taken true s e is = taken_no_tilde (Whole Start) s e
none_taken false s e is = absurd cc

-- lower case doesn't change the codes of specials
pub edge_lower : (e : Edge) → map to_ascii_lowercase (edge_codes e) ≡ edge_codes e
edge_lower edge.None = refl
edge_lower edge.Star = refl
edge_lower (edge.Marks n) = marks_lower n where
  marks_lower : (n : ℕ) → map to_ascii_lowercase (replicate n 1) ≡ replicate n 1
  marks_lower zero = refl
  marks_lower (suc n) = ap (λ (u : List ℕ). 1 ∷ u) (marks_lower n)

map_over : (a b : List ℕ) → map to_ascii_lowercase (a ++ b) ≡ map to_ascii_lowercase a ++ map to_ascii_lowercase b
map_over [] b = refl
map_over (c ∷ a) b = ap (λ (u : List ℕ). to_ascii_lowercase c ∷ u) (map_over a b)

lower_text_is : (t : Parts) → map to_ascii_lowercase (text_codes t) ≡ text_codes t → lower_parts t ≡ t
lower_text_is t h =
    let whole : (edge_codes t.lead ++ map to_ascii_lowercase t.body) ++ edge_codes t.trail ≡ (edge_codes t.lead ++ t.body) ++ edge_codes t.trail =
    ap (λ (u : List ℕ). (edge_codes t.lead ++ map to_ascii_lowercase t.body) ++ u) (sym (edge_lower t.trail))
    ∙ ap (λ (u : List ℕ). (u ++ map to_ascii_lowercase t.body) ++ map to_ascii_lowercase (edge_codes t.trail)) (sym (edge_lower t.lead))
    ∙ ap (λ (u : List ℕ). u ++ map to_ascii_lowercase (edge_codes t.trail)) (sym (map_over (edge_codes t.lead) t.body))
    ∙ sym (map_over (edge_codes t.lead ++ t.body) (edge_codes t.trail))
    ∙ h
    in
    let prefix = append_cancel_right (edge_codes t.lead ++ map to_ascii_lowercase t.body) (edge_codes t.lead ++ t.body) (edge_codes t.trail) whole in
    ap (λ (b : List ℕ). parts t.lead b t.trail) (append_cancel_left (edge_codes t.lead) (map to_ascii_lowercase t.body) t.body prefix)

read_text : (packed : Bool) (s : List ℕ) → NoTilde packed s → (codes : List ℕ) → Spelled codes s → map to_ascii_lowercase codes ≡ codes → (end : Stage) → run Start codes ≡ Some end → is_over end ≡ true → IsTextComponent packed s
read_text packed s none [] spelled low end e over = record { value = value.Any; good = tt; lower = refl; present = spelled; none = none }
read_text packed s none (c ∷ codes) spelled low end e over =
    let so = start_text (c ∷ codes) end e over (λ e. absurd cc) in record {
      value = value.Text so.text;
      good = so.good;
      lower = ap value.Text (lower_text_is so.text (ap (map to_ascii_lowercase) (sym so.is) ∙ low ∙ so.is));
      present = subst (λ (cs : List ℕ). Spelled cs s) so.is spelled;
      none = none;
    }

a_text : (packed : Bool) (s : List ℕ) → read_from packed (Whole Start) s ≡ Ok [] → IsTextComponent packed s
a_text packed s e =
    let none = none_taken packed s e in
    elim (was_read packed Start s e) [
      | inl r ↦ read_text packed s none r.codes r.spelled r.lower r.end r.runs r.over
      | inr lone ↦ record { value = value.Na; good = tt; lower = refl; present = lone.1; none = none }
    ]

-- the scanner of components reads only components of values
pub text_scans : (packed : Bool) → Scans (IsTextComponent packed) (text_end packed)
unfolding text_end
text_scans packed = wider (Taken (text_step packed) may_end (Whole Start)) (IsTextComponent packed) (text_end packed) (a_text packed) (machine_scans (text_step packed) may_end Good (stays_good packed) (completed packed) (Whole Start) tt)
