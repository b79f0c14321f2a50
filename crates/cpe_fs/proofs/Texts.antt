-- Lemmas: the scanner of texts reads exactly the components of values.
use Rattle.std.proofs.Common.{◌≡◌, ◌≢◌, ℕ, zero, suc, Bool, false, List, [], ◌∷◌, ◌++◌, Result, Ok, refl, sym, ap, subst, ◌∙◌, inl, inr, append_assoc, arith}
use Rattle.std.proofs.lemmas.Bool.{cases_Bool, eqb-true, both_ways}
use Rattle.cpe_values.specs.declared.value.Edge.{Edge}
use Rattle.cpe_values.specs.declared.value.Edge.TheVariants as edge
use Rattle.cpe_values.specs.declared.value.Value.{Value}
use Rattle.cpe_values.specs.declared.value.Value.TheVariants as value
use Rattle.cpe_values.specs.declared.spelling.Style.TheVariants as style
use Rattle.cpe_values.specs.Faults.{is_lone_hyphen}
use Rattle.cpe_values.specs.Parts.{Parts, parts, IsEdge}
use Rattle.cpe_values.specs.Spelling.{edge_text, spelling}
use Rattle.cpe_values.specs.Values.{IsValue}
use Rattle.cpe_values.proofs.Lawful.{lone_is}
use Rattle.name_grammar.specs.Scanners.{◌>>=◌, scan_both, nothing, scan_one}
use Rattle.name_grammar.proofs.Scans.{Scans, wider, Empty, nothing_scans, OneOf, one_scans, Joined, both_scans, Either, choose_scans, chosen_yes, chosen_no, HeadFails}
use Rattle.cpe_values.specs.Scanning.{is_star, is_mark, starts_body, edge_end, stem_end}
use Rattle.cpe_values.specs.Stems as texts
use Rattle.cpe_values.specs.Stems.{AreCharacters, IsEdgeText}
use Rattle.cpe_values.proofs.Edges.{edge_scans, edge_taken}
use Rattle.cpe_values.proofs.Stems as stems
use Rattle.cpe_values.proofs.Stems.{stem_scans, a_letter, stem_taken, body_begins, begins_fail}
use Rattle.cpe_fs.specs.Grammar.{fs_component}
use Rattle.cpe_fs.specs.Scanning.{led_end, text_end}
use Rattle.cpe_fs.specs.Spans.{IsFsSpan}

-- a body as a component spells it
abbrev pub body_text : List ℕ → List ℕ
body_text b = texts.body_text style.Formatted b

abbrev IsStem : List ℕ → Type 0
IsStem u = texts.IsStem style.Formatted u

-- ---- the component of a value

text_of : (t : Parts) → IsEdge t.lead → AreCharacters t.body → t.body ≢ [] → IsEdge t.trail → IsFsSpan (spelling style.Formatted t)
text_of t lead printable some trail =
    elim (cases_Bool (is_lone_hyphen t)) [
      | inl h ↦ record { value = value.Na; good = tt; spells = sym (ap (spelling style.Formatted) (lone_is t h)) }
      | inr h ↦ record {
        value = value.Text t;
        good = record { lead = lead; characters = printable; some = some; no_hyphen = λ e. both_ways (is_lone_hyphen t) h (ap is_lone_hyphen e); trail = trail };
        spells = refl;
      }
    ]

led_text : (lead : Edge) (u : List ℕ) → IsEdge lead → IsStem u → IsFsSpan (edge_text lead ++ u)
led_text lead u good stem =
    subst IsFsSpan (append_assoc (edge_text lead) (body_text (stem.first ∷ stem.bytes)) (edge_text stem.trail) ∙ ap (λ (v : List ℕ). edge_text lead ++ v) (sym stem.is))
    (text_of (parts lead (stem.first ∷ stem.bytes) stem.trail) good stem.printable (λ e. absurd cc) stem.good)

starred : (u : List ℕ) → Joined (OneOf is_star) (Either IsStem Empty) u → IsFsSpan u
starred u j =
    let star : j.prefix ≡ 42 ∷ [] = j.first.is ∙ ap (λ (d : ℕ). d ∷ []) (eqb-true j.first.byte 42 j.first.passed) in
    let is : u ≡ 42 ∷ j.back = j.is ∙ ap (λ (v : List ℕ). v ++ j.back) star in
    elim (j.second) [
      | inl stem ↦ subst IsFsSpan (sym is) (led_text edge.Star j.back tt stem)
      | inr none ↦ record { value = value.Any; good = tt; spells = sym (is ∙ ap (λ (v : List ℕ). 42 ∷ v) none) }
    ]

led : (u : List ℕ) → Joined IsEdgeText IsStem u → IsFsSpan u
led u j = subst IsFsSpan (sym (j.is ∙ ap (λ (v : List ℕ). v ++ j.back) j.first.is)) (led_text j.first.edge j.back j.first.good j.second)

led_scans : Scans (Either IsStem Empty) led_end
unfolding led_end
led_scans = choose_scans (starts_body style.Formatted) IsStem Empty (stem_end style.Formatted) nothing (stem_scans style.Formatted) nothing_scans

-- the scanner of texts reads only components of values
pub text_scans : Scans IsFsSpan text_end
unfolding text_end
text_scans =
    wider (Either (Joined (OneOf is_star) (Either IsStem Empty)) (Joined IsEdgeText IsStem)) IsFsSpan text_end (λ u h. elim h [ inl j ↦ starred u j | inr j ↦ led u j ])
    (choose_scans is_star _ _ (scan_both (scan_one is_star) led_end) (scan_both edge_end (stem_end style.Formatted))
    (both_scans (OneOf is_star) (Either IsStem Empty) (scan_one is_star) led_end (one_scans is_star 42 refl) led_scans [] (inr refl))
    (both_scans IsEdgeText IsStem edge_end (stem_end style.Formatted) edge_scans (stem_scans style.Formatted) (97 ∷ []) (a_letter style.Formatted)))

-- ---- each component is read before a colon and at the end

-- a component ends here: nothing follows, or a colon follows
abbrev pub Ends : List ℕ → Type 0
Ends [] = Unit {0}
Ends (c ∷ s) = c ≡ 58

-- at the end of a component no byte passes a test that a colon fails
pub ends_fail : (passes : ℕ → Bool) (r : List ℕ) → passes 58 ≡ false → Ends r → HeadFails passes r
ends_fail passes [] never h = tt
ends_fail passes (c ∷ s) never h = rw h never

-- where a component ends, no byte follows that could extend a body or its trail
stem_ends : (r : List ℕ) → Ends r → texts.EndsStem style.Formatted r
stem_ends r h = record { star = ends_fail is_star r refl h; mark = ends_fail is_mark r refl h; body = ends_fail (starts_body style.Formatted) r refl h }

abbrev Begins : List ℕ → Type 0
Begins s = stems.Begins style.Formatted s

-- the scanner of specials reads exactly the lead, because a body doesn't begin with a special
edge_before : (e : Edge) (s : List ℕ) → IsEdge e → Begins s → edge_end (edge_text e ++ s) ≡ Ok s
edge_before e s good b = edge_taken e s good (begins_fail style.Formatted is_star s b b.no_star) (begins_fail style.Formatted is_mark s b b.no_mark)

text_other : (c : ℕ) (s : List ℕ) → is_star c ≡ false → text_end (c ∷ s) ≡ scan_both edge_end (stem_end style.Formatted) (c ∷ s)
unfolding text_end
text_other c s h = chosen_no is_star (scan_both (scan_one is_star) led_end) (scan_both edge_end (stem_end style.Formatted)) c s h

-- after a lead the scanner reads a body with its trail
led_taken : (lead : Edge) (s : List ℕ) → IsEdge lead → Begins s → text_end (edge_text lead ++ s) ≡ stem_end style.Formatted s
unfolding text_end led_end
led_taken edge.None s good b =
    ap text_end b.is ∙ text_other b.first b.more b.no_star ∙ ap (scan_both edge_end (stem_end style.Formatted)) (sym b.is)
    ∙ ap (λ (x : Result (List ℕ) ℕ). x >>= stem_end style.Formatted) (edge_before edge.None s tt b)
led_taken edge.Star s good b = ap led_end b.is ∙ chosen_yes (starts_body style.Formatted) (stem_end style.Formatted) nothing b.first b.more b.starts ∙ ap (stem_end style.Formatted) (sym b.is)
led_taken (edge.Marks zero) s good b = absurd (omega (arith, good.0))
led_taken (edge.Marks (suc k)) s good b = ap (λ (x : Result (List ℕ) ℕ). x >>= stem_end style.Formatted) (edge_before (edge.Marks (suc k)) s good b)

parts_taken : (lead : Edge) (body : List ℕ) (trail : Edge) (r : List ℕ) → IsEdge lead → AreCharacters body → body ≢ [] → IsEdge trail → Ends r → text_end ((edge_text lead ++ body_text body ++ edge_text trail) ++ r) ≡ Ok r
parts_taken lead [] trail r good printable some good' h = absurd (some refl)
parts_taken lead (c ∷ b) trail r good printable some good' h =
    ap text_end (regroup (edge_text lead) (body_text (c ∷ b)) (edge_text trail) r)
    ∙ led_taken lead (body_text (c ∷ b) ++ (edge_text trail ++ r)) good (body_begins style.Formatted c b (edge_text trail ++ r))
    ∙ stem_taken style.Formatted c b trail r printable good' (stem_ends r h) where
      regroup : (x y z w : List ℕ) → (x ++ y ++ z) ++ w ≡ x ++ (y ++ (z ++ w))
      regroup x y z w = simp append_assoc

star_taken : (r : List ℕ) → Ends r → text_end (42 ∷ r) ≡ Ok r
unfolding text_end led_end
star_taken [] h = refl
star_taken (c ∷ r) h = rw h refl

-- the component of each value is read, if the component ends there
pub text_taken : (v : Value) (r : List ℕ) → IsValue v → Ends r → text_end (fs_component v ++ r) ≡ Ok r
text_taken value.Any r good h = star_taken r h
text_taken value.Na r good h = parts_taken edge.None (45 ∷ []) edge.None r tt refl (λ e. absurd cc) tt h
text_taken (value.Text t) r good h = parts_taken t.lead t.body t.trail r good.lead good.characters good.some good.trail h
