-- Lemmas: a scanner of bodies may skip bare characters all at once, and take the others one by one. A bare character is
-- spelled without a backslash.
use Rattle.std.proofs.Common.{◌≡◌, ℕ, suc, ◌<◌, true, false, eqb, List, [], ◌∷◌, length, Result, Ok, Err, refl, sym, ap, subst, ◌∙◌, inl, inr, arith}
use Rattle.std.proofs.lemmas.Bool.{cases_Bool, eqb-true}
use Rattle.cpe_values.specs.declared.spelling.Style.{Style}
use Rattle.cpe_values.specs.Spelling.{is_bare}
use Rattle.cpe_values.specs.Skipping.{skip_while}
use Rattle.cpe_values.proofs.SkippingLemmas.{skip_stops}
use Rattle.name_grammar.specs.Scanners.{◌>>=◌, scan_both, choose, nothing, scan_one}
use Rattle.name_grammar.proofs.Results.{ok_is, ok≢err, left_over, stopped}
use Rattle.cpe_values.specs.Scanning.{is_quoted, starts_body, begins_with_backslash, character_end, body_end}
use Rattle.cpe_values.proofs.Bytes.{slash_not_bare, bare_no_slash}

module _ (here : Style) where
  -- a body scanner takes a character without a backslash
  pub body_bare : (c : ℕ) (s : List ℕ) → is_bare here c ≡ true → body_end here (c ∷ s) ≡ body_end here s
  unfolding body_end
  body_bare c [] h = rw h refl
  body_bare c (d ∷ s) h = rw h refl

  -- a body scanner takes a character after its backslash
  pub body_quoted : (c : ℕ) (s : List ℕ) → is_quoted here c ≡ true → body_end here (92 ∷ c ∷ s) ≡ body_end here s
  unfolding body_end
  body_quoted c s h = rw (slash_not_bare here, h) refl

  -- a body ends before a byte that is neither a bare character nor a backslash
  body_halts : (c : ℕ) (s : List ℕ) → is_bare here c ≡ false → eqb c 92 ≡ false → body_end here (c ∷ s) ≡ Ok (c ∷ s)
  unfolding body_end
  body_halts c [] bare other = rw (bare, other) refl
  body_halts c (d ∷ s) bare other = rw (bare, other) refl

  -- a body ends at the end of the bytes
  pub body_empty : body_end here [] ≡ Ok []
  unfolding body_end
  body_empty = refl

  -- ---- skipping bare characters

  -- the result of a body scanner is unchanged if the bare characters at the start are skipped first
  pub skip_same : (s : List ℕ) → body_end here (skip_while (is_bare here) s) ≡ body_end here s
  skip_same [] = refl
  skip_same (c ∷ s) = elim (cases_Bool (is_bare here c)) [ inl h ↦ rw h (skip_same s ∙ sym (body_bare c s h)) | inr h ↦ rw h refl ]

  -- ---- after a backslash

  -- after a backslash, the scanner takes a character that needs the backslash
  quoted_step : (s t : List ℕ) → scan_one (is_quoted here) s ≡ Ok t → body_end here (92 ∷ s) ≡ body_end here t
  quoted_step [] t e = absurd (ok≢err t 0 (sym e))
  quoted_step (c ∷ s) t e =
      elim (cases_Bool (is_quoted here c)) [
        | inl h ↦ let is : left_over s ≡ Ok t = rw h at e in body_quoted c s h ∙ ap (body_end here) (ok_is s t is)
        | inr h ↦ let is : stopped (suc (length s)) ≡ Ok t = rw h at e in absurd (ok≢err t _ (sym is))
      ]

  -- after a backslash, the scanner stops at a byte that may not have a backslash
  quoted_stop : (s : List ℕ) (n : ℕ) → scan_one (is_quoted here) s ≡ Err n → body_end here (92 ∷ s) ≡ Err n
  unfolding body_end
  quoted_stop [] n e = rw (slash_not_bare here) e
  quoted_stop (c ∷ s) n e =
      elim (cases_Bool (is_quoted here c)) [
        | inl h ↦ let is : left_over s ≡ Err n = rw h at e in absurd (ok≢err s n is)
        | inr h ↦ let is : stopped (suc (length s)) ≡ Err n = rw h at e in rw (slash_not_bare here, h) is
      ]

  -- after a character is taken, fewer bytes are left
  shorter_quoted : (s t : List ℕ) → scan_one (is_quoted here) s ≡ Ok t → length t < length s
  shorter_quoted [] t e = absurd (ok≢err t 0 (sym e))
  shorter_quoted (c ∷ s) t e =
      elim (cases_Bool (is_quoted here c)) [
        | inl h ↦ let is : left_over s ≡ Ok t = rw h at e in omega (arith, ap length (ok_is s t is))
        | inr h ↦ let is : stopped (suc (length s)) ≡ Ok t = rw h at e in absurd (ok≢err t _ (sym is))
      ]

  -- a body ends before bytes that begin with neither a bare character nor a backslash
  pub body_over : (s : List ℕ) → skip_while (is_bare here) s ≡ s → begins_with_backslash s ≡ false → body_end here s ≡ Ok s
  body_over [] e other = body_empty
  body_over (c ∷ s) e other = body_halts c s (skip_stops (is_bare here) c s e) other

  -- ---- one character and then a body

  -- a body is empty if no character begins there; else it is a character and then a body
  pub body_is : (s : List ℕ) → body_end here s ≡ choose (starts_body here) (scan_both (character_end here) (body_end here)) nothing s
  unfolding character_end
  body_is [] = body_empty
  body_is (c ∷ s) =
      elim (cases_Bool (is_bare here c)) [
        | inl h ↦
            let other : eqb c 92 ≡ false = bare_no_slash here c h in
            body_bare c s h ∙ rw (h, other) refl
        | inr h ↦ elim (cases_Bool (eqb c 92)) [
          | inl k ↦ let is : c ≡ 92 = eqb-true c 92 k in subst (λ (d : ℕ). body_end here (d ∷ s) ≡ choose (starts_body here) (scan_both (character_end here) (body_end here)) nothing (d ∷ s)) (sym is) (rw (slash_not_bare here) (behind s))
          | inr k ↦ body_halts c s h k ∙ rw (h, k) refl
        ]
      ] where
        behind : (s : List ℕ) → body_end here (92 ∷ s) ≡ (scan_one (is_quoted here) s >>= body_end here)
        behind s = go (scan_one (is_quoted here) s) refl where
          go : (r : Result (List ℕ) ℕ) → scan_one (is_quoted here) s ≡ r → body_end here (92 ∷ s) ≡ (r >>= body_end here)
          go (Ok t) e = quoted_step s t e
          go (Err n) e = quoted_stop s n e

  -- ---- a step of the loop

  -- after a character is taken, the scanner takes the rest of the body
  pub character_step : (s t : List ℕ) → character_end here s ≡ Ok t → body_end here s ≡ body_end here t
  unfolding character_end
  character_step [] t e = absurd (ok≢err t 0 (sym e))
  character_step (c ∷ s) t e =
      elim (cases_Bool (eqb c 92)) [
        | inl h ↦
            let is : c ≡ 92 = eqb-true c 92 h in
            let quoted : scan_one (is_quoted here) s ≡ Ok t = rw h at e in
            ap (λ (d : ℕ). body_end here (d ∷ s)) is ∙ quoted_step s t quoted
        | inr h ↦ elim (cases_Bool (is_bare here c)) [
          | inl k ↦ let is : left_over s ≡ Ok t = rw (h, k) at e in body_bare c s k ∙ ap (body_end here) (ok_is s t is)
          | inr k ↦ let is : stopped (suc (length s)) ≡ Ok t = rw (h, k) at e in absurd (ok≢err t _ (sym is))
        ]
      ]

  -- if the byte after a backslash may not have a backslash, the body scanner stops there, too
  pub character_stop : (s : List ℕ) (n : ℕ) → begins_with_backslash s ≡ true → character_end here s ≡ Err n → body_end here s ≡ Err n
  unfolding character_end
  character_stop [] n h e = absurd cc
  character_stop (c ∷ s) n h e =
      let is : c ≡ 92 = eqb-true c 92 h in
      let quoted : scan_one (is_quoted here) s ≡ Err n = rw h at e in
      ap (λ (d : ℕ). body_end here (d ∷ s)) is ∙ quoted_stop s n quoted

  -- fewer bytes are left after a character than before it
  pub shorter_character : (s t : List ℕ) → character_end here s ≡ Ok t → length t < length s
  unfolding character_end
  shorter_character [] t e = absurd (ok≢err t 0 (sym e))
  shorter_character (c ∷ s) t e =
      elim (cases_Bool (eqb c 92)) [
        | inl h ↦ let quoted : scan_one (is_quoted here) s ≡ Ok t = rw h at e in omega (arith, shorter_quoted s t quoted)
        | inr h ↦ elim (cases_Bool (is_bare here c)) [
          | inl k ↦ let is : left_over s ≡ Ok t = rw (h, k) at e in omega (arith, ap length (ok_is s t is))
          | inr k ↦ let is : stopped (suc (length s)) ≡ Ok t = rw (h, k) at e in absurd (ok≢err t _ (sym is))
        ]
      ]
