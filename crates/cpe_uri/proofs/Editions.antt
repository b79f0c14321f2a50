-- Lemmas: the scanner of the edition's component reads it, alone and packed, and stops at the place of any other text.
use Rattle.std.proofs.Common.{◌≡◌, ℕ, zero, suc, ◌+◌, ◌-◌, ◌≤◌, Bool, true, false, not, eqb, List, [], ◌∷◌, ◌++◌, length, replicate, get_or, length-append, Result, Ok, refl, sym, ap, subst, ◌∙◌, inl, inr, append_assoc, arith}
use Rattle.std.specs.List.{list_all, AllByRecursion}
use Rattle.std.proofs.lemmas.List.{take_at}
use Rattle.std.proofs.lemmas.Bool.{eqb-true}
use Rattle.name_grammar.specs.Scanners.{Scanner, ◌>>=◌, scan_one}
use Rattle.name_grammar.proofs.Results.{left_over}
use Rattle.name_grammar.proofs.Choices.{Unled, unled_scans}
use Rattle.name_grammar.proofs.Scans.{Scans, wider, Empty, nothing_scans, OneOf, one_scans, Joined, both_scans, Either, HeadFails}
use Rattle.cpe_values.specs.declared.value.Value.{Value}
use Rattle.cpe_values.specs.declared.value.Value.TheVariants as value
use Rattle.cpe_values.specs.Lower.{lower_value}
use Rattle.cpe_values.specs.Values.{IsValue}
use Rattle.cpe_name.specs.Eleven.{Values}
use Rattle.cpe_name.specs.declared.attribute.Attribute.{Attribute}
use Rattle.cpe_name.specs.declared.attribute.Attribute.TheVariants.{Edition}
use Rattle.cpe_name.specs.Names.{value_of, IsName, any_values}
use Rattle.cpe_name.specs.Lower.{IsLower}
use Rattle.cpe_uri.specs.Spelling.{IsSpellingOf}
use Rattle.cpe_uri.specs.Canon.{extended}
use Rattle.cpe_uri.specs.Grammar.{is_tilde, begins_with_tilde, Fields, IsEditionSpelling}
use Rattle.cpe_uri.specs.Spans.{IsTextComponent, IsEdition}
use Rattle.cpe_uri.specs.TextMachine.{text_end}
use Rattle.cpe_uri.specs.Scanning.{field_end, uri_fields_end, packed_end, edition_end}
use Rattle.cpe_uri.specs.Pieces.{rest_of_piece, left_by, prefix_before, piece, field_pieces, edition_pieces}
use Rattle.cpe_uri.proofs.Ends.{Ends}
use Rattle.cpe_uri.proofs.Texts.{EndsIn, text_taken, text_scans}

-- ---- the five values

five : Value → Value → Value → Value → Value → Values
five e s t h o = record any_values { edition = e; sw_edition = s; target_sw = t; target_hw = h; other = o }

five_name : (e s t h o : Value) → IsValue e → IsValue s → IsValue t → IsValue h → IsValue o → IsName (five e s t h o)
unfolding five
five_name e s t h o ge gs gt gh go = ((tt, refl), (tt, (tt, (tt, (tt, (ge, ((tt, refl), (gs, (gt, (gh, (go, tt)))))))))))

five_lower : (e s t h o : Value) → lower_value e ≡ e → lower_value s ≡ s → lower_value t ≡ t → lower_value h ≡ h → lower_value o ≡ o → IsLower (five e s t h o)
unfolding five
five_lower e s t h o le ls lt lh lo =
    ap (λ (x : Value). record any_values { edition = x; sw_edition = lower_value s; target_sw = lower_value t; target_hw = lower_value h; other = lower_value o }) le
    ∙ ap (λ (x : Value). record any_values { edition = e; sw_edition = x; target_sw = lower_value t; target_hw = lower_value h; other = lower_value o }) ls
    ∙ ap (λ (x : Value). record any_values { edition = e; sw_edition = s; target_sw = x; target_hw = lower_value h; other = lower_value o }) lt
    ∙ ap (λ (x : Value). record any_values { edition = e; sw_edition = s; target_sw = t; target_hw = x; other = lower_value o }) lh
    ∙ ap (λ (x : Value). record any_values { edition = e; sw_edition = s; target_sw = t; target_hw = h; other = x }) lo

-- an empty component is that of ANY
pub empty_text : (packed : Bool) (u : List ℕ) → u ≡ [] → IsTextComponent packed u
empty_text packed u is = record { value = value.Any; good = tt; lower = refl; present = is; none = λ p. ap (λ (v : List ℕ). list_all (λ c. not (eqb c 126)) v) is }

-- ---- what is read

abbrev Field : List ℕ → Type 0
Field = Joined (OneOf is_tilde) (IsTextComponent true)

-- `n` fields
abbrev AreFields : ℕ → List ℕ → Type 0
AreFields zero = Empty
AreFields (suc n) = Joined Field (AreFields n)

field_scans : Scans Field field_end
unfolding field_end
field_scans = both_scans (OneOf is_tilde) (IsTextComponent true) (scan_one is_tilde) (text_end true) (one_scans is_tilde 126 refl) (text_scans true) [] (empty_text true [] refl)

empty_fields : (n : ℕ) → AreFields n (replicate n 126)
empty_fields zero = refl
empty_fields (suc n) = record {
  prefix = 126 ∷ [];
  back = replicate n 126;
  is = refl;
  first = record { prefix = 126 ∷ []; back = []; is = refl; first = record { byte = 126; is = refl; passed = refl }; second = empty_text true [] refl };
  second = empty_fields n;
}

fields_scan : (n : ℕ) → Scans (AreFields n) (uri_fields_end n)
fields_scan zero = wider Empty (AreFields zero) (uri_fields_end zero) (λ u is. is) nothing_scans
fields_scan (suc n) =
    wider (Joined Field (AreFields n)) (AreFields (suc n)) (uri_fields_end (suc n)) (λ u h. h)
    (both_scans Field (AreFields n) field_end (uri_fields_end n) field_scans (fields_scan n) (replicate n 126) (empty_fields n))

packed_scans : Scans (AreFields 5) packed_end
unfolding packed_end
packed_scans = fields_scan 5

-- a text that begins with a field is a tilde, the component of the field, and a rest
field_text : (L : List ℕ → Type 0) (u : List ℕ) (j : Joined Field L u) → u ≡ 126 ∷ j.first.back ++ j.back
field_text L u j = j.is ∙ ap (λ (v : List ℕ). v ++ j.back) (j.first.is ∙ ap (λ (v : List ℕ). v ++ j.first.back) (j.first.first.is ∙ ap (λ (d : ℕ). d ∷ []) (eqb-true j.first.first.byte 126 j.first.first.passed)))

-- five packed fields spell the edition of a name
packed_text : (u : List ℕ) → AreFields 5 u → IsEdition u
unfolding five
packed_text u e =
    let s = e.second in
    let t = s.second in
    let h = t.second in
    let o = h.second in
    let ie = e.first.second in
    let is = s.first.second in
    let it = t.first.second in
    let ih = h.first.second in
    let io = o.first.second in
    record {
      of = five ie.value is.value it.value ih.value io.value;
      name = five_name ie.value is.value it.value ih.value io.value ie.good is.good it.good ih.good io.good;
      lower = five_lower ie.value is.value it.value ih.value io.value ie.lower is.lower it.lower ih.lower io.lower;
      present = inr (e.first.back, e.back, field_text _ u e, ie.present, ie.none refl, (s.first.back, s.back, field_text _ e.back s, is.present, is.none refl, (t.first.back, t.back, field_text _ s.back t, it.present, it.none refl, (h.first.back, h.back, field_text _ t.back h, ih.present, ih.none refl, (o.first.back, o.back, field_text _ h.back o, io.present, io.none refl, o.second)))));
    }

no_tilde_first : (u : List ℕ) → HeadFails is_tilde u → begins_with_tilde u ≡ false
no_tilde_first [] h = refl
no_tilde_first (c ∷ u) h = h

-- a component that doesn't begin with a tilde spells the edition of a name whose extended attributes are ANY
lone_text : (u : List ℕ) → begins_with_tilde u ≡ false → IsTextComponent false u → IsEdition u
unfolding five
lone_text u bare ie = record {
  of = five ie.value value.Any value.Any value.Any value.Any;
  name = five_name ie.value value.Any value.Any value.Any value.Any ie.good tt tt tt tt;
  lower = five_lower ie.value value.Any value.Any value.Any value.Any ie.lower refl refl refl refl;
  present = inl (record { bare = bare; edition = ie.present; others = (refl, (refl, (refl, (refl, tt)))) });
}

pub empty_edition : IsEdition []
empty_edition = lone_text [] refl (empty_text false [] refl)

pub edition_scans : Scans IsEdition edition_end
unfolding edition_end
edition_scans =
    wider (Either (AreFields 5) (Unled is_tilde (IsTextComponent false))) IsEdition edition_end (λ u h. elim h [ inl e ↦ packed_text u e | inr l ↦ lone_text u (no_tilde_first u l.head) l.lawful ])
    (unled_scans is_tilde (AreFields 5) (IsTextComponent false) packed_end (text_end false) packed_scans (text_scans false) (empty_text false [] refl))

-- ---- each component of an edition is read

taken_then : (s u r : List ℕ) → s ≡ 126 ∷ u ++ r → (n : List ℕ) → (s ++ n ≡ 126 ∷ u ++ (r ++ n))
taken_then s u r is n = ap (λ (v : List ℕ). v ++ n) is ∙ ap (λ (v : List ℕ). 126 ∷ v) (append_assoc u r n)

pub ends_in : (packed : Bool) (r : List ℕ) → Ends r → EndsIn packed r
ends_in packed [] h = tt
ends_in packed (c ∷ r) h = inl h

-- each field ends at a tilde, except the last, which ends with the component
fields_end_in : (w : Values) (which : List Attribute) (s r : List ℕ) → Fields w which s → Ends r → EndsIn true (s ++ r)
fields_end_in w [] s r h ends = subst (λ (u : List ℕ). EndsIn true (u ++ r)) (sym h) (ends_in true r ends)
fields_end_in w (a ∷ rest) s r h ends = subst (EndsIn true) (sym (taken_then s h.0 h.1 h.2 r)) (inr (refl, refl))

-- the values of these attributes are well-formed
abbrev pub AreGood : Values → List Attribute → Type 0
AreGood w which = AllByRecursion (λ a. IsValue (value_of w a)) which

-- the first field is read
first_taken : (w : Values) (a : Attribute) (rest : List Attribute) (s r : List ℕ) (h : Fields w (a ∷ rest) s) → IsValue (value_of w a) → Ends r → text_end true (h.0 ++ (h.1 ++ r)) ≡ Ok (h.1 ++ r)
first_taken w a rest s r h good ends = text_taken true (value_of w a) h.0 (h.1 ++ r) good h.3 (λ p. h.4) (fields_end_in w rest h.1 r h.5 ends)

fields_taken : (w : Values) (which : List Attribute) (s r : List ℕ) → AreGood w which → Fields w which s → Ends r → uri_fields_end (length which) (s ++ r) ≡ Ok r
unfolding field_end
fields_taken w [] s r good h ends = ap (λ (v : List ℕ). left_over (v ++ r)) h
fields_taken w (a ∷ rest) s r good h ends =
    ap (uri_fields_end (suc (length rest))) (taken_then s h.0 h.1 h.2 r)
    ∙ ap (λ (x : Result (List ℕ) ℕ). x >>= uri_fields_end (length rest)) (first_taken w a rest s r h good.0 ends)
    ∙ fields_taken w rest h.1 r good.1 h.5 ends

choose_packed : (s u r : List ℕ) → s ≡ 126 ∷ u → edition_end (s ++ r) ≡ packed_end (s ++ r)
unfolding edition_end
choose_packed [] u r is = absurd cc
choose_packed (c ∷ s) u r is = let first : c ≡ 126 = cc in rw first refl

packed_taken : (w : Values) (s r : List ℕ) → AreGood w (Edition ∷ extended) → Fields w (Edition ∷ extended) s → Ends r → packed_end (s ++ r) ≡ Ok r
unfolding packed_end
packed_taken w s r good h ends = fields_taken w (Edition ∷ extended) s r good h ends

-- if a component doesn't begin with a tilde, neither does the component with the bytes after it
pub bare_then : (s r : List ℕ) → begins_with_tilde s ≡ false → Ends r → begins_with_tilde (s ++ r) ≡ false
bare_then [] [] h ends = refl
bare_then [] (c ∷ r) h ends = rw ends refl
bare_then (c ∷ s) r h ends = h

choose_lone : (s : List ℕ) → begins_with_tilde s ≡ false → edition_end s ≡ text_end false s
unfolding edition_end
choose_lone [] h = refl
choose_lone (c ∷ s) h = rw h refl

pub lone_taken : (w : Values) (s r : List ℕ) → IsValue w.edition → IsSpellingOf w.edition s → Ends r → text_end false (s ++ r) ≡ Ok r
lone_taken w s r good present ends = text_taken false w.edition s r good present (λ p. absurd cc) (ends_in false r ends)

pub edition_taken : (w : Values) (s r : List ℕ) → AreGood w (Edition ∷ extended) → IsEditionSpelling w s → Ends r → edition_end (s ++ r) ≡ Ok r
edition_taken w s r good present ends = elim present [
  | inl a ↦ choose_lone (s ++ r) (bare_then s r a.bare ends) ∙ lone_taken w s r good.0 a.edition ends
  | inr f ↦ choose_packed s (f.0 ++ f.1) r f.2 ∙ packed_taken w s r good f ends
]

-- ---- the pieces of an edition

-- the pieces of the fields, in their order
abbrev field_texts : (w : Values) (which : List Attribute) (s : List ℕ) → Fields w which s → List (List ℕ)
field_texts w [] s h = []
field_texts w (a ∷ rest) s h = h.0 ∷ field_texts w rest h.1 h.5

-- if a scanner reads these bytes before a rest, they are its piece
pub piece_taken : (p : Scanner) (u r : List ℕ) → p (u ++ r) ≡ Ok r → piece p (u ++ r) ≡ u
piece_taken p u r e = ap (λ (x : Result (List ℕ) ℕ). prefix_before (u ++ r) (rest_of_piece x)) e ∙ take_at u r (length (u ++ r) - length r) (omega (arith, length-append u r))

fields_are : (w : Values) (which : List Attribute) (s r : List ℕ) → AreGood w which → (h : Fields w which s) → Ends r → field_pieces (length which) (s ++ r) ≡ field_texts w which s h
unfolding field_end
fields_are w [] s r good h ends = refl
fields_are w (a ∷ rest) s r good h ends =
    let taken = first_taken w a rest s r h good.0 ends in
    ap (field_pieces (suc (length rest))) (taken_then s h.0 h.1 h.2 r)
    ∙ ap (λ (u : List ℕ). u ∷ field_pieces (length rest) (left_by (text_end true) (h.0 ++ (h.1 ++ r)))) (piece_taken (text_end true) h.0 (h.1 ++ r) taken)
    ∙ ap (λ (x : Result (List ℕ) ℕ). h.0 ∷ field_pieces (length rest) (rest_of_piece x)) taken
    ∙ ap (λ (us : List (List ℕ)). h.0 ∷ us) (fields_are w rest h.1 r good.1 h.5 ends)

-- these pieces of a component spell the edition and the four attributes that may be packed with it
pub record EditionLies (w : Values) (s : List ℕ) (es : List (List ℕ)) : Type 0 where
  pub edition : IsSpellingOf w.edition (get_or es 0 [])
  pub sw_edition : IsSpellingOf w.sw_edition (get_or es 1 [])
  pub target_sw : IsSpellingOf w.target_sw (get_or es 2 [])
  pub target_hw : IsSpellingOf w.target_hw (get_or es 3 [])
  pub other : IsSpellingOf w.other (get_or es 4 [])
  pub within : length (get_or es 0 []) + length (get_or es 1 []) + length (get_or es 2 []) + length (get_or es 3 []) + length (get_or es 4 []) ≤ length s

any_spelled : (v : Value) → v ≡ value.Any → IsSpellingOf v []
any_spelled v e = subst (λ (x : Value). IsSpellingOf x []) (sym e) refl

lone_pieces : (s : List ℕ) → begins_with_tilde s ≡ false → edition_pieces s ≡ piece (text_end false) s ∷ [] ∷ [] ∷ [] ∷ [] ∷ []
lone_pieces s h = rw h refl

packed_pieces : (s : List ℕ) → begins_with_tilde s ≡ true → edition_pieces s ≡ field_pieces 5 s
packed_pieces s h = rw h refl

pub edition_lies : (w : Values) (s r : List ℕ) → AreGood w (Edition ∷ extended) → IsEditionSpelling w s → Ends r → EditionLies w s (edition_pieces (s ++ r))
edition_lies w s r good present ends = elim present [
  | inl a ↦
      let at : edition_pieces (s ++ r) ≡ s ∷ [] ∷ [] ∷ [] ∷ [] ∷ [] = lone_pieces (s ++ r) (bare_then s r a.bare ends) ∙ ap (λ (u : List ℕ). u ∷ [] ∷ [] ∷ [] ∷ [] ∷ []) (piece_taken (text_end false) s r (lone_taken w s r good.0 a.edition ends)) in
      subst (EditionLies w s) (sym at) (record {
        edition = a.edition;
        sw_edition = any_spelled w.sw_edition a.others.0;
        target_sw = any_spelled w.target_sw a.others.1.0;
        target_hw = any_spelled w.target_hw a.others.1.1.0;
        other = any_spelled w.other a.others.1.1.1.0;
        within = omega arith;
      })
  | inr f ↦
      let at : edition_pieces (s ++ r) ≡ field_texts w (Edition ∷ extended) s f = packed_pieces (s ++ r) (ap (λ (u : List ℕ). begins_with_tilde (u ++ r)) f.2) ∙ fields_are w (Edition ∷ extended) s r good f ends in
      subst (EditionLies w s) (sym at) (record {
        edition = f.3;
        sw_edition = f.5.3;
        target_sw = f.5.5.3;
        target_hw = f.5.5.5.3;
        other = f.5.5.5.5.3;
        within = omega (
          arith,
          ap length f.2,
          length-append f.0 f.1,
          ap length f.5.2,
          length-append f.5.0 f.5.1,
          ap length f.5.5.2,
          length-append f.5.5.0 f.5.5.1,
          ap length f.5.5.5.2,
          length-append f.5.5.5.0 f.5.5.5.1,
          ap length f.5.5.5.5.2,
          length-append f.5.5.5.5.0 f.5.5.5.5.1,
        );
      })
]
