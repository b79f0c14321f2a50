-- Lemmas: after the codes of a text, from the stage `Start` on, a component may end. After other codes it may not.
use Rattle.std.proofs.Common.{◌≡◌, ◌≢◌, ℕ, zero, suc, ◌+◌, ◌<◌, ◌≤◌, ltb, true, false, eqb, cond, List, [], ◌∷◌, ◌++◌, replicate, Option, Some, None, refl, sym, ap, subst, ◌∙◌, inl, inr, append_assoc, arith}
use Rattle.std.specs.Option.{option_and_then}
use Rattle.std.specs.List.{list_all}
use Rattle.std.proofs.lemmas.Bool.{cases_Bool, eqb-true, eq-eqb, ltb-true, lt-ltb, and_parts, and_from, both_ways}
use Rattle.std.proofs.lemmas.Bool.Decides.{nat_tests}
use Rattle.cpe_values.specs.declared.value.Edge.{Edge}
use Rattle.cpe_values.specs.declared.value.Edge.TheVariants as edge
use Rattle.cpe_values.specs.Parts.{Parts, parts, IsEdge, IsText, is_character}
use Rattle.cpe_uri.specs.Spelling.{edge_codes, text_codes}
use Rattle.cpe_uri.specs.declared.text.Stage.{Stage}
use Rattle.cpe_uri.specs.declared.text.Stage.TheVariants.{Start, Hyphen, LeadStar, LeadMarks, Body, TrailMarks, TrailStar}
use Rattle.cpe_uri.specs.TextMachine.{after_mark, after_star, after_character, next, is_over}

-- ---- steps

-- `Some` with a fixed type, so that equations have one type
abbrev pub some_stage : Stage → Option Stage
some_stage q = Some q

abbrev pub no_stage : Option Stage
no_stage = None

pub stage_is : (p q : Stage) → some_stage p ≡ some_stage q → p ≡ q
stage_is p q e = cc

pub no_stage_is : (q : Stage) → no_stage ≡ some_stage q → ⊥
no_stage_is q e = cc

-- the stage after these codes, if there is one
abbrev pub run : Stage → List ℕ → Option Stage
run q [] = Some q
run q (c ∷ cs) = option_and_then (λ t. run t cs) (next q c)

-- the next code is that of a question mark, of an asterisk, or a character
pub data NextCase : Stage → ℕ → Stage → Type 0 where
  mark : (q t : Stage) → after_mark q ≡ Some t → NextCase q 1 t
  star : (q t : Stage) → after_star q ≡ Some t → NextCase q 2 t
  plain : (q t : Stage) (c : ℕ) → is_character c ≡ true → after_character q c ≡ Some t → NextCase q c t

pub next_case : (q t : Stage) (c : ℕ) → next q c ≡ Some t → NextCase q c t
next_case q t c e =
    elim (cases_Bool (eqb c 1)) [
      | inl one ↦ subst (λ (d : ℕ). NextCase q d t) (sym (eqb-true c 1 one)) (mark q t (rw one at e))
      | inr more ↦ elim (cases_Bool (eqb c 2)) [
        | inl two ↦ subst (λ (d : ℕ). NextCase q d t) (sym (eqb-true c 2 two)) (star q t (rw (more, two) at e))
        | inr other ↦ elim (cases_Bool (is_character c)) [
          | inl good ↦ plain q t c good (rw (more, other, good) at e)
          | inr bad ↦ absurd (no_stage_is t (rw (more, other, bad) at e))
        ]
      ]
    ]

character_next : (q : Stage) (c : ℕ) → is_character c ≡ true → next q c ≡ after_character q c
character_next q c h =
    let one : eqb c 1 ≡ false = grind (arith, nat_tests) in
    let two : eqb c 2 ≡ false = grind (arith, nat_tests) in
    rw (one, two, h) refl

ran : (o : Option Stage) (cs : List ℕ) (end : Stage) → option_and_then (λ t. run t cs) o ≡ Some end → (t : Stage) × (o ≡ Some t) × (run t cs ≡ Some end)
ran (Some t) cs end e = (t, refl, e)
ran None cs end e = absurd (no_stage_is end e)

pub run_then : (q t : Stage) (c : ℕ) (cs : List ℕ) → next q c ≡ Some t → run q (c ∷ cs) ≡ run t cs
run_then q t c cs e = rw e refl

-- ---- what may follow

-- the codes are a body, perhaps empty, and a trail
record Rest (cs : List ℕ) : Type 0 where
  body : List ℕ
  trail : Edge
  is : cs ≡ body ++ edge_codes trail
  characters : list_all is_character body ≡ true
  edge : IsEdge trail

-- the codes are question marks; with the `n` question marks before them they are within the limit
record Marks (n : ℕ) (cs : List ℕ) : Type 0 where
  count : ℕ
  is : cs ≡ replicate count 1
  few : n + count ≤ 4294967295

-- the codes are question marks, a body that isn't empty, and a trail
record Led (n : ℕ) (cs : List ℕ) : Type 0 where
  count : ℕ
  rest : List ℕ
  is : cs ≡ replicate count 1 ++ rest
  few : n + count ≤ 4294967295
  text : Rest rest
  some : text.body ≢ []

fewer : (n : ℕ) (t : Stage) (made : ℕ → Stage) → cond (ltb n 4294967295) (some_stage (made (n + 1))) no_stage ≡ some_stage t → (n < 4294967295) × (made (n + 1) ≡ t)
fewer n t made e =
    elim (cases_Bool (ltb n 4294967295)) [
      | inl h ↦ (ltb-true n 4294967295 h, stage_is (made (n + 1)) t (rw h at e))
      | inr h ↦ absurd (no_stage_is t (rw h at e))
    ]

trail_marks : (n : ℕ) (cs : List ℕ) (end : Stage) → n ≤ 4294967295 → run (TrailMarks n) cs ≡ Some end → Marks n cs
trail_marks n [] end le e = record { count = 0; is = refl; few = omega (arith, le) }
trail_marks n (c ∷ cs) end le e =
    let more = ran (next (TrailMarks n) c) cs end e in
    go (λ (m : ℕ) (le : m ≤ 4294967295) (r : run (TrailMarks m) cs ≡ Some end). trail_marks m cs end le r) c more.0 (next_case (TrailMarks n) more.0 c more.1) more.2 where
      go : ((m : ℕ) → m ≤ 4294967295 → run (TrailMarks m) cs ≡ Some end → Marks m cs) → (c : ℕ) (t : Stage) → NextCase (TrailMarks n) c t → run t cs ≡ Some end → Marks n (c ∷ cs)
      go again _ _ (mark q t h) r =
          let so = fewer n t TrailMarks h in
          let rest = again (n + 1) (omega (arith, so.0)) (subst (λ (p : Stage). run p cs ≡ Some end) (sym so.1) r) in
          record { count = suc rest.count; is = ap (λ (u : List ℕ). 1 ∷ u) rest.is; few = omega (arith, rest.few) }
      go again _ _ (star q t h) r = absurd (no_stage_is t h)
      go again _ _ (plain q t c good h) r = absurd (no_stage_is t h)

trail_star : (cs : List ℕ) (end : Stage) → run TrailStar cs ≡ Some end → cs ≡ []
trail_star [] end e = refl
trail_star (c ∷ cs) end e =
    let more = ran (next TrailStar c) cs end e in
    go c more.0 (next_case TrailStar more.0 c more.1) where
      go : (c : ℕ) (t : Stage) → NextCase TrailStar c t → c ∷ cs ≡ []
      go _ _ (mark q t h) = absurd (no_stage_is t h)
      go _ _ (star q t h) = absurd (no_stage_is t h)
      go _ _ (plain q t c good h) = absurd (no_stage_is t h)

after_body : (cs : List ℕ) (end : Stage) → run Body cs ≡ Some end → Rest cs
after_body [] end e = record { body = []; trail = edge.None; is = refl; characters = refl; edge = tt }
after_body (c ∷ cs) end e =
    let more = ran (next Body c) cs end e in
    go (λ (r : run Body cs ≡ Some end). after_body cs end r) c more.0 (next_case Body more.0 c more.1) more.2 where
      go : (run Body cs ≡ Some end → Rest cs) → (c : ℕ) (t : Stage) → NextCase Body c t → run t cs ≡ Some end → Rest (c ∷ cs)
      go again _ _ (mark q t h) r =
          let rest = trail_marks 1 cs end (omega arith) (subst (λ (p : Stage). run p cs ≡ Some end) (sym (stage_is (TrailMarks 1) t h)) r) in
          record { body = []; trail = edge.Marks (suc rest.count); is = ap (λ (u : List ℕ). 1 ∷ u) rest.is; characters = refl; edge = (omega arith, omega (arith, rest.few)) }
      go again _ _ (star q t h) r =
          let none = trail_star cs end (subst (λ (p : Stage). run p cs ≡ Some end) (sym (stage_is TrailStar t h)) r) in
          record { body = []; trail = edge.Star; is = ap (λ (u : List ℕ). 2 ∷ u) none; characters = refl; edge = tt }
      go again _ _ (plain q t c good h) r =
          let rest = again (subst (λ (p : Stage). run p cs ≡ Some end) (sym (stage_is Body t h)) r) in
          record { body = c ∷ rest.body; trail = rest.trail; is = ap (λ (u : List ℕ). c ∷ u) rest.is; characters = and_from _ _ good rest.characters; edge = rest.edge }

-- a character and the codes that may follow it are a body and a trail
led_body : (c : ℕ) (cs : List ℕ) (end : Stage) → is_character c ≡ true → run Body cs ≡ Some end → (r : Rest (c ∷ cs)) × (r.body ≢ [])
led_body c cs end good e =
    let rest = after_body cs end e in
    (record { body = c ∷ rest.body; trail = rest.trail; is = ap (λ (u : List ℕ). c ∷ u) rest.is; characters = and_from _ _ good rest.characters; edge = rest.edge }, λ e. absurd cc)

lead_star : (cs : List ℕ) (end : Stage) → run LeadStar cs ≡ Some end → is_over end ≡ true → (r : Rest cs) × (r.body ≢ [])
lead_star [] end e over = let is : LeadStar ≡ end = stage_is LeadStar end e in absurd (both_ways (is_over end) (ap is_over (sym is)) over)
lead_star (c ∷ cs) end e over =
    let more = ran (next LeadStar c) cs end e in
    go c more.0 (next_case LeadStar more.0 c more.1) more.2 where
      go : (c : ℕ) (t : Stage) → NextCase LeadStar c t → run t cs ≡ Some end → (r : Rest (c ∷ cs)) × (r.body ≢ [])
      go _ _ (mark q t h) r = absurd (no_stage_is t h)
      go _ _ (star q t h) r = absurd (no_stage_is t h)
      go _ _ (plain q t c good h) r = led_body c cs end good (subst (λ (p : Stage). run p cs ≡ Some end) (sym (stage_is Body t h)) r)

lead_marks : (n : ℕ) (cs : List ℕ) (end : Stage) → n ≤ 4294967295 → run (LeadMarks n) cs ≡ Some end → is_over end ≡ true → Led n cs
lead_marks n [] end le e over = let is : LeadMarks n ≡ end = stage_is (LeadMarks n) end e in absurd (both_ways (is_over end) (ap is_over (sym is)) over)
lead_marks n (c ∷ cs) end le e over =
    let more = ran (next (LeadMarks n) c) cs end e in
    go (λ (m : ℕ) (le : m ≤ 4294967295) (r : run (LeadMarks m) cs ≡ Some end). lead_marks m cs end le r over) c more.0 (next_case (LeadMarks n) more.0 c more.1) more.2 where
      go : ((m : ℕ) → m ≤ 4294967295 → run (LeadMarks m) cs ≡ Some end → Led m cs) → (c : ℕ) (t : Stage) → NextCase (LeadMarks n) c t → run t cs ≡ Some end → Led n (c ∷ cs)
      go again _ _ (mark q t h) r =
          let so = fewer n t LeadMarks h in
          let rest = again (n + 1) (omega (arith, so.0)) (subst (λ (p : Stage). run p cs ≡ Some end) (sym so.1) r) in
          record { count = suc rest.count; rest = rest.rest; is = ap (λ (u : List ℕ). 1 ∷ u) rest.is; few = omega (arith, rest.few); text = rest.text; some = rest.some }
      go again _ _ (star q t h) r = absurd (no_stage_is t h)
      go again _ _ (plain q t c good h) r =
          let rest = led_body c cs end good (subst (λ (p : Stage). run p cs ≡ Some end) (sym (stage_is Body t h)) r) in
          record { count = 0; rest = c ∷ cs; is = refl; few = omega (arith, le); text = rest.0; some = rest.1 }

-- ---- from the first stage on

-- the codes are those of a text
pub record TextOf (cs : List ℕ) : Type 0 where
  pub text : Parts
  pub good : IsText text
  pub is : cs ≡ text_codes text

text_of : (cs rest : List ℕ) (lead : Edge) (r : Rest rest) → IsEdge lead → cs ≡ edge_codes lead ++ rest → r.body ≢ [] → (parts lead r.body r.trail ≢ parts edge.None (45 ∷ []) edge.None) → TextOf cs
text_of cs rest lead r good is some other = record {
  text = parts lead r.body r.trail;
  good = record { lead = good; characters = r.characters; some = some; no_hyphen = other; trail = r.edge };
  is = is ∙ ap (λ (u : List ℕ). edge_codes lead ++ u) r.is ∙ sym (append_assoc (edge_codes lead) r.body (edge_codes r.trail));
}

-- a hyphen at the beginning, and at least one code that may follow it, are the codes of a text
hyphen_text : (cs : List ℕ) (end : Stage) → run Hyphen cs ≡ Some end → is_over end ≡ true → TextOf (45 ∷ cs)
hyphen_text [] end e over = let is : Hyphen ≡ end = stage_is Hyphen end e in absurd (both_ways (is_over end) (ap is_over (sym is)) over)
hyphen_text (c ∷ cs) end e over =
    let rest = after_body (c ∷ cs) end e in
    let r : Rest (45 ∷ c ∷ cs) = record { body = 45 ∷ rest.body; trail = rest.trail; is = ap (λ (u : List ℕ). 45 ∷ u) rest.is; characters = and_from _ _ refl rest.characters; edge = rest.edge } in
    text_of (45 ∷ c ∷ cs) (45 ∷ c ∷ cs) edge.None r tt refl (λ e. absurd cc) (λ e. nothing_left rest.body rest.trail rest.is (tail_is rest.body (ap (λ (t : Parts). t.body) e)) (ap (λ (t : Parts). t.trail) e)) where
      tail_is : (b : List ℕ) → 45 ∷ b ≡ 45 ∷ [] → b ≡ []
      tail_is b e = cc

      nothing_left : (b : List ℕ) (x : Edge) → c ∷ cs ≡ b ++ edge_codes x → b ≡ [] → x ≡ edge.None → ⊥
      nothing_left b x is none nothing = let empty : c ∷ cs ≡ [] = is ∙ ap (λ (u : List ℕ). u ++ edge_codes x) none ∙ ap edge_codes nothing in absurd cc

other_first : (c : ℕ) (b : List ℕ) (x : Edge) → eqb c 45 ≡ false → parts edge.None (c ∷ b) x ≢ parts edge.None (45 ∷ []) edge.None
other_first c b x h e = let is : c ≡ 45 = first_is (ap (λ (t : Parts). t.body) e) in both_ways (eqb c 45) h (eq-eqb c 45 is) where
  first_is : c ∷ b ≡ 45 ∷ [] → c ≡ 45
  first_is e = cc

no_marks : (n : ℕ) → edge.Marks (suc n) ≡ edge.None → ⊥
no_marks n e = cc

no_star : edge.Star ≡ edge.None → ⊥
no_star e = cc

plain_text : (c : ℕ) (cs : List ℕ) (end : Stage) → is_character c ≡ true → eqb c 45 ≡ false → run Body cs ≡ Some end → TextOf (c ∷ cs)
plain_text c cs end good other r =
    let rest = after_body cs end r in
    let all : Rest (c ∷ cs) = record { body = c ∷ rest.body; trail = rest.trail; is = ap (λ (u : List ℕ). c ∷ u) rest.is; characters = and_from _ _ good rest.characters; edge = rest.edge } in
    text_of (c ∷ cs) (c ∷ cs) edge.None all tt refl (λ e. absurd cc) (other_first c rest.body rest.trail other)

-- if a component may end after codes, from the stage `Start` on, they are the codes of a text
pub start_text : (cs : List ℕ) (end : Stage) → run Start cs ≡ Some end → is_over end ≡ true → cs ≢ [] → TextOf cs
start_text [] end e over some = absurd (some refl)
start_text (c ∷ cs) end e over some =
    let more = ran (next Start c) cs end e in
    go c more.0 (next_case Start more.0 c more.1) more.2 where
      go : (c : ℕ) (t : Stage) → NextCase Start c t → run t cs ≡ Some end → TextOf (c ∷ cs)
      go _ _ (mark q t h) r =
          let led = lead_marks 1 cs end (omega arith) (subst (λ (p : Stage). run p cs ≡ Some end) (sym (stage_is (LeadMarks 1) t h)) r) over in
          text_of (1 ∷ cs) led.rest (edge.Marks (suc led.count)) led.text (omega arith, omega (arith, led.few)) (ap (λ (u : List ℕ). 1 ∷ u) led.is) led.some (λ e. absurd (no_marks led.count (ap (λ (t : Parts). t.lead) e)))
      go _ _ (star q t h) r =
          let led = lead_star cs end (subst (λ (p : Stage). run p cs ≡ Some end) (sym (stage_is LeadStar t h)) r) over in
          text_of (2 ∷ cs) cs edge.Star led.0 tt refl led.1 (λ e. absurd (no_star (ap (λ (t : Parts). t.lead) e)))
      go _ _ (plain q t c good h) r =
          elim (cases_Bool (eqb c 45)) [
            | inl hyphen ↦
                let is : Hyphen ≡ t = stage_is Hyphen t (rw hyphen at h) in
                subst (λ (d : ℕ). TextOf (d ∷ cs)) (sym (eqb-true c 45 hyphen)) (hyphen_text cs end (subst (λ (p : Stage). run p cs ≡ Some end) (sym is) r) over)
            | inr other ↦
                let is : Body ≡ t = stage_is Body t (rw other at h) in
                plain_text c cs end good other (subst (λ (p : Stage). run p cs ≡ Some end) (sym is) r)
          ]

-- ---- after the codes of a text a component may end

-- after these codes, from the stage `q` on, a component may end
pub record Over (q : Stage) (cs : List ℕ) : Type 0 where
  pub end : Stage
  pub runs : run q cs ≡ Some end
  pub over : is_over end ≡ true

run_over : (q t : Stage) (c : ℕ) (cs : List ℕ) → next q c ≡ Some t → Over t cs → Over q (c ∷ cs)
run_over q t c cs e o = record { end = o.end; runs = run_then q t c cs e ∙ o.runs; over = o.over }

over_trail_marks : (k n : ℕ) → n + k ≤ 4294967295 → Over (TrailMarks n) (replicate k 1)
over_trail_marks zero n le = record { end = TrailMarks n; runs = refl; over = refl }
over_trail_marks (suc k) n le = let less : ltb n 4294967295 ≡ true = lt-ltb n 4294967295 (omega (arith, le)) in run_over (TrailMarks n) (TrailMarks (n + 1)) 1 (replicate k 1) (rw less refl) (over_trail_marks k (n + 1) (omega (arith, le)))

over_trail : (x : Edge) → IsEdge x → Over Body (edge_codes x)
over_trail edge.None good = record { end = Body; runs = refl; over = refl }
over_trail edge.Star good = record { end = TrailStar; runs = refl; over = refl }
over_trail (edge.Marks zero) good = record { end = Body; runs = refl; over = refl }
over_trail (edge.Marks (suc k)) good = run_over Body (TrailMarks 1) 1 (replicate k 1) refl (over_trail_marks k 1 (omega (arith, good.1)))

over_body : (b : List ℕ) (x : Edge) → list_all is_character b ≡ true → IsEdge x → Over Body (b ++ edge_codes x)
over_body [] x h good = over_trail x good
over_body (c ∷ b) x h good = let p = and_parts (is_character c) (list_all is_character b) h in run_over Body Body c (b ++ edge_codes x) (character_next Body c p.0) (over_body b x p.1 good)

over_led : (q : Stage) (b : List ℕ) (x : Edge) → ((c : ℕ) → after_character q c ≡ Some Body) → b ≢ [] → list_all is_character b ≡ true → IsEdge x → Over q (b ++ edge_codes x)
over_led q [] x led some h good = absurd (some refl)
over_led q (c ∷ b) x led some h good = let p = and_parts (is_character c) (list_all is_character b) h in run_over q Body c (b ++ edge_codes x) (character_next q c p.0 ∙ led c) (over_body b x p.1 good)

over_lead_marks : (k n : ℕ) (rest : List ℕ) → n + k ≤ 4294967295 → ((m : ℕ) → Over (LeadMarks m) rest) → Over (LeadMarks n) (replicate k 1 ++ rest)
over_lead_marks zero n rest le then = then n
over_lead_marks (suc k) n rest le then = let less : ltb n 4294967295 ≡ true = lt-ltb n 4294967295 (omega (arith, le)) in run_over (LeadMarks n) (LeadMarks (n + 1)) 1 (replicate k 1 ++ rest) (rw less refl) (over_lead_marks k (n + 1) rest (omega (arith, le)) then)

over_plain : (b : List ℕ) (x : Edge) → b ≢ [] → list_all is_character b ≡ true → IsEdge x → (parts edge.None b x ≢ parts edge.None (45 ∷ []) edge.None) → Over Start (b ++ edge_codes x)
over_plain [] x some h good other = absurd (some refl)
over_plain (c ∷ b) x some h good other =
    let p = and_parts (is_character c) (list_all is_character b) h in
    elim (cases_Bool (eqb c 45)) [
      | inl hyphen ↦ run_over Start Hyphen c (b ++ edge_codes x) (character_next Start c p.0 ∙ rw hyphen refl) (more b x (over_body b x p.1 good) (λ (none : b ≡ []) (nothing : x ≡ edge.None). other (ap (λ (d : ℕ). parts edge.None (d ∷ b) x) (eqb-true c 45 hyphen) ∙ ap (λ (u : List ℕ). parts edge.None (45 ∷ u) x) none ∙ ap (λ (y : Edge). parts edge.None (45 ∷ []) y) nothing)) good)
      | inr first ↦ run_over Start Body c (b ++ edge_codes x) (character_next Start c p.0 ∙ rw first refl) (over_body b x p.1 good)
    ]
  where
    -- the stage `Hyphen` has the same next stages as `Body`, but no component may end at it
    more : (b : List ℕ) (x : Edge) → Over Body (b ++ edge_codes x) → (b ≡ [] → x ≡ edge.None → ⊥) → IsEdge x → Over Hyphen (b ++ edge_codes x)
    more [] edge.None o never good = absurd (never refl refl)
    more [] edge.Star o never good = record { end = o.end; runs = o.runs; over = o.over }
    more [] (edge.Marks zero) o never good = absurd (omega (arith, good.0))
    more [] (edge.Marks (suc k)) o never good = record { end = o.end; runs = o.runs; over = o.over }
    more (c ∷ b) x o never good = record { end = o.end; runs = o.runs; over = o.over }

-- after the codes of a text, from the stage `Start` on, a component may end
pub text_over : (t : Parts) → IsText t → Over Start (text_codes t)
text_over t good = go t.lead good.lead good.no_hyphen where
  regroup : (lead : Edge) → edge_codes lead ++ (t.body ++ edge_codes t.trail) ≡ (edge_codes lead ++ t.body) ++ edge_codes t.trail
  regroup lead = sym (append_assoc (edge_codes lead) t.body (edge_codes t.trail))

  go : (lead : Edge) → IsEdge lead → (parts lead t.body t.trail ≢ parts edge.None (45 ∷ []) edge.None) → Over Start (edge_codes lead ++ t.body ++ edge_codes t.trail)
  go edge.None is other = over_plain t.body t.trail good.some good.characters good.trail other
  go edge.Star is other = run_over Start LeadStar 2 (t.body ++ edge_codes t.trail) refl (over_led LeadStar t.body t.trail (λ c. refl) good.some good.characters good.trail)
  go (edge.Marks zero) is other = absurd (omega (arith, is.0))
  go (edge.Marks (suc k)) is other =
      subst (Over Start) (regroup (edge.Marks (suc k)))
      (run_over Start (LeadMarks 1) 1 (replicate k 1 ++ (t.body ++ edge_codes t.trail)) refl (over_lead_marks k 1 (t.body ++ edge_codes t.trail) (omega (arith, is.1)) (λ m. over_led (LeadMarks m) t.body t.trail (λ c. refl) good.some good.characters good.trail)))
