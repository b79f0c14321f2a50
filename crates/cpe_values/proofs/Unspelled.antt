-- Lemmas: the parts of a text are found in its spelling, in either style. A bare character is spelled without a
-- backslash.
use Rattle.std.proofs.Common.{◌≡◌, ◌≢◌, ℕ, zero, suc, ◌+◌, ◌<◌, ◌^◌, true, false, eqb, List, [], ◌∷◌, ◌++◌, length, take, drop, ◌-◌, replicate, refl, sym, ap, subst, ◌∙◌, inl, inr, append_assoc, arith}
use Rattle.std.specs.List.{flat_map}
use Rattle.std.proofs.lemmas.List.{append-nil}
use Rattle.std.proofs.lemmas.Bool.{cases_Bool, or_parts}
use Rattle.std.proofs.lemmas.Bool.Decides.{nat_tests}
use Rattle.cpe_values.specs.declared.value.Edge.{Edge}
use Rattle.cpe_values.specs.declared.value.Edge.TheVariants as edge
use Rattle.cpe_values.specs.declared.spelling.Style.{Style}
use Rattle.cpe_values.specs.declared.spelling.Style.TheVariants as style
use Rattle.cpe_values.specs.Parts.{Parts, IsText, IsEdge}
use Rattle.cpe_values.specs.Spelling.{is_bare, style_character, edge_text, spelling}
use Rattle.cpe_values.specs.Spelled.{IsSpelling}
use Rattle.cpe_values.specs.Skipping.{skip_while}
use Rattle.cpe_values.specs.Unspelling.{is_special, marks_count, edge_at, behind_edge, body_at, behind_body, ends_body, parts_at}
use Rattle.cpe_values.proofs.SkippingLemmas.{length-skip_while}

-- ---- specials

-- the bytes begin with no special
abbrev NoSpecial : List ℕ → Type 0
NoSpecial [] = Unit {0}
NoSpecial (c ∷ s) = is_special c ≡ false

count_none : (s : List ℕ) → NoSpecial s → marks_count s ≡ 0
count_none [] h = refl
count_none (c ∷ s) h = let p = or_parts (eqb c 42) (eqb c 63) h in rw p.1 refl

count_marks : (k : ℕ) (s : List ℕ) → NoSpecial s → marks_count (replicate k 63 ++ s) ≡ k
count_marks zero s h = count_none s h
count_marks (suc k) s h = let more = count_marks k s h in omega (arith, more)

drop_marks : (k : ℕ) (s : List ℕ) → drop k (replicate k 63 ++ s) ≡ s
drop_marks zero s = refl
drop_marks (suc k) s = drop_marks k s

edge_back : (e : Edge) (s : List ℕ) → IsEdge e → NoSpecial s → edge_at (edge_text e ++ s) ≡ e
edge_back edge.None [] good h = refl
edge_back edge.None (c ∷ s) good h = let p = or_parts (eqb c 42) (eqb c 63) h in rw (p.0, p.1) refl
edge_back edge.Star s good h = refl
edge_back (edge.Marks zero) s good h = absurd (omega (arith, good.0))
edge_back (edge.Marks (suc k)) s good h = ap edge.Marks (count_marks (suc k) s h)

behind_back : (e : Edge) (s : List ℕ) → IsEdge e → NoSpecial s → behind_edge (edge_text e ++ s) ≡ s
behind_back edge.None [] good h = refl
behind_back edge.None (c ∷ s) good h = let p = or_parts (eqb c 42) (eqb c 63) h in rw (p.0, p.1) refl
behind_back edge.Star s good h = refl
behind_back (edge.Marks zero) s good h = absurd (omega (arith, good.0))
behind_back (edge.Marks (suc k)) s good h = ap (λ (n : ℕ). drop n (replicate (suc k) 63 ++ s)) (count_marks (suc k) s h) ∙ drop_marks (suc k) s

-- the question marks of a lawful lead or trail are fewer than 2^32
pub marks_fit : (s : List ℕ) → IsEdge (edge_at s) → marks_count s < 2 ^ 32
marks_fit [] good = omega arith
marks_fit (c ∷ s) good =
    elim (cases_Bool (eqb c 63)) [
      | inl h ↦
          let other : eqb c 42 ≡ false = grind (arith, nat_tests) in
          let fits : IsEdge (edge.Marks (1 + marks_count s)) = rw (other, h) at good in
          rw h fits.1
      | inr h ↦ rw h (omega arith)
    ]

-- ---- bodies

body_over : (z : List ℕ) → ends_body z ≡ true → (body_at z ≡ []) × (behind_body z ≡ z)
unfolding body_at behind_body
body_over [] h = (refl, refl)
body_over (c ∷ []) h = (rw h refl, rw h refl)
body_over (c ∷ d ∷ z) h = (rw h refl, rw h refl)

body_quoted : (c : ℕ) (s : List ℕ) → (body_at (92 ∷ c ∷ s) ≡ c ∷ body_at s) × (behind_body (92 ∷ c ∷ s) ≡ behind_body s)
unfolding body_at behind_body
body_quoted c s = (refl, refl)

edge_ends : (e : Edge) → ends_body (edge_text e) ≡ true
edge_ends edge.None = refl
edge_ends edge.Star = refl
edge_ends (edge.Marks zero) = refl
edge_ends (edge.Marks (suc k)) = refl

edge_alone : (e : Edge) → IsEdge e → edge_at (edge_text e) ≡ e
edge_alone edge.None good = refl
edge_alone edge.Star good = refl
edge_alone (edge.Marks n) good = ap edge_at (sym (append-nil (replicate n 63))) ∙ edge_back (edge.Marks n) [] good tt

bare_no_special : (sty : Style) (c : ℕ) → is_bare sty c ≡ true → is_special c ≡ false
bare_no_special style.Wfn c h = grind (arith, nat_tests)
bare_no_special style.Formatted c h = grind (arith, nat_tests)

bare_no_backslash : (sty : Style) (c : ℕ) → is_bare sty c ≡ true → eqb c 92 ≡ false
bare_no_backslash style.Wfn c h = grind (arith, nat_tests)
bare_no_backslash style.Formatted c h = grind (arith, nat_tests)

module _ (sty : Style) where
  abbrev body_text : List ℕ → List ℕ
  body_text b = flat_map (style_character sty) b

  body_bare : (c : ℕ) (s : List ℕ) → is_bare sty c ≡ true → (body_at (c ∷ s) ≡ c ∷ body_at s) × (behind_body (c ∷ s) ≡ behind_body s)
  unfolding body_at behind_body
  body_bare c [] h = (rw (bare_no_special sty c h) refl, rw (bare_no_special sty c h) refl)
  body_bare c (d ∷ s) h = (rw (bare_no_special sty c h, bare_no_backslash sty c h) refl, rw (bare_no_special sty c h, bare_no_backslash sty c h) refl)

  body_back : (b z : List ℕ) → ends_body z ≡ true → (body_at (body_text b ++ z) ≡ b) × (behind_body (body_text b ++ z) ≡ z)
  body_back [] z h = body_over z h
  body_back (c ∷ b) z h =
      let more = body_back b z h in
      elim (cases_Bool (is_bare sty c)) [
        | inl bare ↦
            let step = body_bare c (body_text b ++ z) bare in
            rw bare (step.0 ∙ ap (λ (u : List ℕ). c ∷ u) more.0, step.1 ∙ more.1)
        | inr other ↦
            let step = body_quoted c (body_text b ++ z) in
            rw other (step.0 ∙ ap (λ (u : List ℕ). c ∷ u) more.0, step.1 ∙ more.1)
      ]

  body_no_special : (b z : List ℕ) → b ≢ [] → NoSpecial (body_text b ++ z)
  body_no_special [] z some = absurd (some refl)
  body_no_special (c ∷ b) z some =
      elim (cases_Bool (is_bare sty c)) [
        | inl bare ↦ rw bare (bare_no_special sty c bare)
        | inr other ↦ rw other refl
      ]

  -- the parts found in the spelling of a text are those of the text
  pub parts_back : (t : Parts) → IsText t → parts_at (spelling sty t) ≡ t
  parts_back t is =
      let stem : spelling sty t ≡ edge_text t.lead ++ (body_text t.body ++ edge_text t.trail) = append_assoc (edge_text t.lead) (body_text t.body) (edge_text t.trail) in
      let begins = body_no_special t.body (edge_text t.trail) is.some in
      let body = body_back t.body (edge_text t.trail) (edge_ends t.trail) in
      ap parts_at stem
      ∙ rw (edge_back t.lead (body_text t.body ++ edge_text t.trail) is.lead begins, behind_back t.lead (body_text t.body ++ edge_text t.trail) is.lead begins, body.0, body.1, edge_alone t.trail is.trail) refl

-- if a body ends after the bare characters at the start, it has these characters alone
body_spelled : (sty : Style) (s : List ℕ) → ends_body (skip_while (is_bare sty) s) ≡ true
    → (body_at s ≡ take (length s - length (skip_while (is_bare sty) s)) s) × (behind_body s ≡ skip_while (is_bare sty) s)
body_spelled sty [] h = body_over [] h
body_spelled sty (c ∷ s) h =
    elim (cases_Bool (is_bare sty c)) [
      | inl bare ↦
          let ends : ends_body (skip_while (is_bare sty) s) ≡ true = rw bare at h in
          let more = body_spelled sty s ends in
          let step = body_bare sty c s bare in
          let count : suc (length s) - length (skip_while (is_bare sty) s) ≡ suc (length s - length (skip_while (is_bare sty) s)) = omega (arith, length-skip_while (is_bare sty) s) in
          rw bare (step.0 ∙ ap (λ (u : List ℕ). c ∷ u) more.0 ∙ ap (λ (n : ℕ). take n (c ∷ s)) (sym count), step.1 ∙ more.1)
      | inr other ↦
          let ends : ends_body (c ∷ s) ≡ true = rw other at h in
          let over = body_over (c ∷ s) ends in
          let none : length (c ∷ s) - length (c ∷ s) ≡ 0 = omega arith in
          rw other (over.0 ∙ ap (λ (n : ℕ). take n (c ∷ s)) (sym none), over.1)
    ]

-- the same if `z` is the rest after the bare characters
pub body_lent : (sty : Style) (s z : List ℕ) → z ≡ skip_while (is_bare sty) s → ends_body z ≡ true → (take (length s - length z) s ≡ body_at s) × (z ≡ behind_body s)
body_lent sty s z is ends =
    let present = body_spelled sty s (subst (λ (u : List ℕ). ends_body u ≡ true) is ends) in
    (ap (λ (u : List ℕ). take (length s - length u) s) is ∙ sym present.0, is ∙ sym present.1)

-- the parts found in a spelling make a text
pub lawful_parts : (s : List ℕ) → IsSpelling s → IsText (parts_at s)
lawful_parts s is = subst IsText (sym (ap parts_at (sym is.spells) ∙ parts_back is.spelled_in is.text is.good)) is.good

-- the parts found in a spelling are those of each text that has this spelling
pub parts_are : (sty : Style) (t : Parts) (s : List ℕ) → IsText t → spelling sty t ≡ s → parts_at s ≡ t
parts_are sty t s good spells = ap parts_at (sym spells) ∙ parts_back sty t good
