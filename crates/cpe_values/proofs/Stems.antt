-- Lemmas: the scanner of bodies with trails takes only their spellings, and takes each of these. A bare character is
-- spelled without a backslash.
use Rattle.std.proofs.Common.{◌≡◌, ◌≢◌, ℕ, zero, suc, Bool, true, false, eqb, List, [], ◌∷◌, ◌++◌, Ok, refl, sym, ap, subst, ◌∙◌, inl, inr, append_assoc}
use Rattle.std.proofs.lemmas.Bool.{cases_Bool, eqb-true, and_parts, and_from, or_left, not-true, not_from_false}
use Rattle.cpe_values.specs.declared.value.Edge.{Edge}
use Rattle.cpe_values.specs.declared.value.Edge.TheVariants as edge
use Rattle.cpe_values.specs.declared.spelling.Style.{Style}
use Rattle.cpe_values.specs.Parts.{IsEdge, is_character}
use Rattle.cpe_values.specs.Spelling.{is_bare, edge_text, style_character}
use Rattle.name_grammar.specs.Scanners.{◌>>=◌, scan_both, nothing, scan_one}
use Rattle.name_grammar.proofs.Scans.{Scans, wider, OneOf, one_scans, Joined, both_scans, Either, choose_scans, chosen_no, HeadFails}
use Rattle.name_grammar.proofs.Several.{several_scans}
use Rattle.cpe_values.specs.Scanning.{is_star, is_mark, is_backslash, is_quoted, starts_body, edge_end, character_end, body_end, stem_end}
use Rattle.cpe_values.specs.Stems.{AreCharacters, body_text, IsEdgeText, IsStem, EndsStem}
use Rattle.cpe_values.proofs.Bytes.{letter_bare, bang_not_bare, star_not_bare, mark_not_bare, slash_not_bare, bare_character, bare_no_slash, bare_no_star, bare_no_mark}
use Rattle.cpe_values.proofs.Bodies.{body_is, body_bare, body_quoted, body_empty}
use Rattle.cpe_values.proofs.Edges.{edge_scans, edge_taken, no_edge}

module _ (here : Style) where
  -- a bare character is spelled as itself
  pub bare_text : (c : ℕ) → is_bare here c ≡ true → style_character here c ≡ c ∷ []
  bare_text c h = rw h refl

  -- a character that is not bare is spelled after a backslash
  pub quoted_text : (c : ℕ) → is_bare here c ≡ false → style_character here c ≡ 92 ∷ c ∷ []
  quoted_text c h = rw h refl

  -- ---- characters and bodies

  -- the bytes are the spelling of one character
  record IsCharacter (u : List ℕ) : Type 0 where
    byte : ℕ
    printable : is_character byte ≡ true
    is : u ≡ style_character here byte

  -- the bytes spell the characters of a body, or are empty
  record IsBody (u : List ℕ) : Type 0 where
    bytes : List ℕ
    printable : AreCharacters bytes
    is : u ≡ body_text here bytes

  a_quoted : (u : List ℕ) → Joined (OneOf is_backslash) (OneOf (is_quoted here)) u → IsCharacter u
  a_quoted u j =
      let parts = and_parts _ _ j.second.passed in
      let is : u ≡ 92 ∷ j.second.byte ∷ [] = j.is ∙ ap (λ (v : List ℕ). v ++ j.back) j.first.is ∙ ap (λ (v : List ℕ). j.first.byte ∷ v) j.second.is ∙ ap (λ (d : ℕ). d ∷ j.second.byte ∷ []) (eqb-true j.first.byte 92 j.first.passed) in
      record { byte = j.second.byte; printable = parts.0; is = is ∙ sym (quoted_text j.second.byte (not-true _ parts.1)) }

  a_bare : (u : List ℕ) → OneOf (is_bare here) u → IsCharacter u
  a_bare u o = record { byte = o.byte; printable = bare_character here o.byte o.passed; is = o.is ∙ sym (bare_text o.byte o.passed) }

  bang_quoted : is_quoted here 33 ≡ true
  bang_quoted = rw (bang_not_bare here) refl

  character_scans : Scans IsCharacter (character_end here)
  unfolding character_end
  character_scans =
      wider (Either (Joined (OneOf is_backslash) (OneOf (is_quoted here))) (OneOf (is_bare here))) IsCharacter (character_end here) (λ u h. elim h [ inl j ↦ a_quoted u j | inr o ↦ a_bare u o ])
      (choose_scans is_backslash (Joined (OneOf is_backslash) (OneOf (is_quoted here))) (OneOf (is_bare here)) (scan_both (scan_one is_backslash) (scan_one (is_quoted here))) (scan_one (is_bare here))
      (both_scans (OneOf is_backslash) (OneOf (is_quoted here)) (scan_one is_backslash) (scan_one (is_quoted here)) (one_scans is_backslash 92 refl) (one_scans (is_quoted here) 33 bang_quoted) (33 ∷ []) (record { byte = 33; is = refl; passed = bang_quoted }))
      (one_scans (is_bare here) 97 (letter_bare here)))

  no_body : IsBody []
  no_body = record { bytes = []; printable = refl; is = refl }

  more_body : (u v : List ℕ) → IsCharacter u → IsBody v → IsBody (u ++ v)
  more_body u v c b = record {
    bytes = c.byte ∷ b.bytes;
    printable = and_from _ _ c.printable b.printable;
    is = ap (λ (w : List ℕ). w ++ v) c.is ∙ ap (λ (w : List ℕ). style_character here c.byte ++ w) b.is;
  }

  some_character : (u : List ℕ) → IsCharacter u → u ≢ []
  some_character u c none =
      elim (cases_Bool (is_bare here c.byte)) [
        | inl h ↦ let is : c.byte ∷ [] ≡ [] = sym (bare_text c.byte h) ∙ sym c.is ∙ none in cc
        | inr h ↦ let is : 92 ∷ c.byte ∷ [] ≡ [] = sym (quoted_text c.byte h) ∙ sym c.is ∙ none in cc
      ]

  body_scans : Scans IsBody (body_end here)
  body_scans = several_scans IsCharacter IsBody no_body more_body some_character (starts_body here) (character_end here) (body_end here) (body_is here) character_scans

  -- ---- bodies with trails

  a_stem : (u : List ℕ) → Joined (Joined IsCharacter IsBody) IsEdgeText u → IsStem here u
  a_stem u j = record {
    first = j.first.first.byte;
    bytes = j.first.second.bytes;
    printable = and_from _ _ j.first.first.printable j.first.second.printable;
    trail = j.second.edge;
    good = j.second.good;
    is =
        j.is
        ∙ ap (λ (v : List ℕ). v ++ j.back) (j.first.is ∙ ap (λ (w : List ℕ). w ++ j.first.back) j.first.first.is ∙ ap (λ (w : List ℕ). style_character here j.first.first.byte ++ w) j.first.second.is)
        ∙ ap (λ (v : List ℕ). body_text here (j.first.first.byte ∷ j.first.second.bytes) ++ v) j.second.is;
  }

  -- the scanner takes exactly the spellings of bodies with trails
  pub stem_scans : Scans (IsStem here) (stem_end here)
  unfolding stem_end
  stem_scans =
      wider (Joined (Joined IsCharacter IsBody) IsEdgeText) (IsStem here) (stem_end here) a_stem
      (both_scans (Joined IsCharacter IsBody) IsEdgeText (scan_both (character_end here) (body_end here)) edge_end
      (both_scans IsCharacter IsBody (character_end here) (body_end here) character_scans body_scans [] no_body)
      edge_scans [] no_edge)

  -- the letter `a` is the spelling of a body with an empty trail
  pub a_letter : IsStem here (97 ∷ [])
  a_letter = record { first = 97; bytes = []; printable = refl; trail = edge.None; good = tt; is = rw (letter_bare here) refl }

  -- ---- each body with its trail is taken

  star_fails : starts_body here 42 ≡ false
  star_fails = rw (star_not_bare here) refl

  mark_fails : starts_body here 63 ≡ false
  mark_fails = rw (mark_not_bare here) refl

  -- no body begins at a trail
  trail_fails : (e : Edge) (r : List ℕ) → HeadFails (starts_body here) r → HeadFails (starts_body here) (edge_text e ++ r)
  trail_fails edge.None r h = h
  trail_fails edge.Star r h = star_fails
  trail_fails (edge.Marks zero) r h = h
  trail_fails (edge.Marks (suc k)) r h = mark_fails

  body_over : (r : List ℕ) → HeadFails (starts_body here) r → body_end here r ≡ Ok r
  body_over [] h = body_empty here
  body_over (c ∷ r) h = body_is here (c ∷ r) ∙ chosen_no (starts_body here) (scan_both (character_end here) (body_end here)) nothing c r h

  -- a body is taken if no further character follows it
  body_taken : (b r : List ℕ) → AreCharacters b → HeadFails (starts_body here) r → body_end here (body_text here b ++ r) ≡ Ok r
  body_taken [] r printable h = body_over r h
  body_taken (c ∷ b) r printable h =
      let p = and_parts _ _ printable in
      elim (cases_Bool (is_bare here c)) [
        | inl bare ↦ rw (bare_text c bare) (body_bare here c (body_text here b ++ r) bare ∙ body_taken b r p.1 h)
        | inr other ↦ rw (quoted_text c other) (body_quoted here c (body_text here b ++ r) (and_from _ _ p.0 (not_from_false _ other)) ∙ body_taken b r p.1 h)
      ]

  character_taken : (c : ℕ) (s : List ℕ) → is_character c ≡ true → character_end here (style_character here c ++ s) ≡ Ok s
  unfolding character_end
  character_taken c s printable =
      elim (cases_Bool (is_bare here c)) [
        | inl bare ↦ let other : eqb c 92 ≡ false = bare_no_slash here c bare in rw (bare_text c bare, other, bare) refl
        | inr other ↦ rw (quoted_text c other, and_from _ _ printable (not_from_false _ other)) refl
      ]

  -- a body with its trail is taken if the bytes after it don't extend it
  pub stem_taken : (c : ℕ) (b : List ℕ) (e : Edge) (r : List ℕ) → AreCharacters (c ∷ b) → IsEdge e → EndsStem here r → stem_end here (body_text here (c ∷ b) ++ (edge_text e ++ r)) ≡ Ok r
  unfolding stem_end
  stem_taken c b e r printable good h =
      let p = and_parts _ _ printable in
      ap (λ (s : List ℕ). character_end here s >>= body_end here >>= edge_end) (append_assoc (style_character here c) (body_text here b) (edge_text e ++ r))
      ∙ rw (character_taken c (body_text here b ++ (edge_text e ++ r)) p.0, body_taken b (edge_text e ++ r) p.1 (trail_fails e r h.body)) (edge_taken e r good h.star h.mark)

  -- the same for the spelling of a body with its trail
  pub stem_text_taken : (u r : List ℕ) → IsStem here u → EndsStem here r → stem_end here (u ++ r) ≡ Ok r
  stem_text_taken u r stem h =
      ap (λ (w : List ℕ). stem_end here (w ++ r)) stem.is
      ∙ ap (stem_end here) (append_assoc (body_text here (stem.first ∷ stem.bytes)) (edge_text stem.trail) r)
      ∙ stem_taken stem.first stem.bytes stem.trail r stem.printable stem.good h

  -- ---- how the spelling of a body begins

  -- the bytes begin with the first byte of a character, and so with no special
  pub record Begins (s : List ℕ) : Type 0 where
    pub first : ℕ
    pub more : List ℕ
    pub is : s ≡ first ∷ more
    pub starts : starts_body here first ≡ true
    pub no_star : is_star first ≡ false
    pub no_mark : is_mark first ≡ false

  character_begins : (c : ℕ) (s : List ℕ) → Begins (style_character here c ++ s)
  character_begins c s =
      elim (cases_Bool (is_bare here c)) [
        | inl bare ↦ record {
          first = c;
          more = s;
          is = ap (λ (u : List ℕ). u ++ s) (bare_text c bare);
          starts = or_left _ _ bare;
          no_star = bare_no_star here c bare;
          no_mark = bare_no_mark here c bare;
        }
        | inr other ↦ record { first = 92; more = c ∷ s; is = ap (λ (u : List ℕ). u ++ s) (quoted_text c other); starts = rw (slash_not_bare here) refl; no_star = refl; no_mark = refl }
      ]

  pub body_begins : (c : ℕ) (b s : List ℕ) → Begins (body_text here (c ∷ b) ++ s)
  body_begins c b s = subst Begins (sym (append_assoc (style_character here c) (body_text here b) s)) (character_begins c (body_text here b ++ s))

  -- a test that fails on the first byte fails at the start of the bytes
  pub begins_fail : (passes : ℕ → Bool) (s : List ℕ) (b : Begins s) → passes b.first ≡ false → HeadFails passes s
  begins_fail passes s b never = subst (HeadFails passes) (sym b.is) never
