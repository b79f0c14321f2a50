-- Lemmas: a scanner of whole texts reads only texts of the language, and stops at the place of any other text.
use Rattle.std.proofs.Common.{◌≡◌, ◌⊎◌, ℕ, zero, suc, ◌-◌, ◌<◌, ◌≤◌, eqb, false, List, [], ◌∷◌, ◌++◌, length, take, Result, Ok, Err, inl, inr, refl, sym, ap, subst, ◌∙◌, append_assoc, arith, length-append}
use Rattle.std.proofs.lemmas.List.{append-nil, take_at}
use Rattle.name_grammar.specs.Place.{IsPlace, StopsAt}
use Rattle.name_grammar.specs.Scanners.{Scanner, ◌>>=◌, scan_both, scan_ending}
use Rattle.name_grammar.proofs.Results.{went_on, ok_is, ok≢err}
use Rattle.name_grammar.proofs.Scans.{Scans}

ending_empty : (s rest : List ℕ) → scan_ending s ≡ Ok rest → rest ≡ []
ending_empty [] rest e = sym (ok_is [] rest e)
ending_empty (c ∷ s) rest e = absurd (ok≢err rest _ (sym e))

-- if bytes are left, the scanner of the end fails
pub no_ending : (r : List ℕ) → eqb (length r) 0 ≡ false → scan_ending r ≡ Err (length r)
no_ending [] more = absurd cc
no_ending (c ∷ r) more = refl

-- nothing is left after the end
pub nothing_left : (r : Result (List ℕ) ℕ) (next : Scanner) (rest : List ℕ) → (r >>= scan_both next scan_ending) ≡ Ok rest → rest ≡ []
nothing_left r next rest e =
    let start = went_on r (scan_both next scan_ending) rest e in
    let end = went_on (next start.0) scan_ending rest start.2 in
    ending_empty end.0 rest end.2

-- if nothing is left, what was read is a text of the language
pub taken_whole : (L : List ℕ → Type 0) (p : Scanner) → Scans L p → (s rest : List ℕ) → p s ≡ Ok rest → rest ≡ [] → L s
taken_whole L p P s rest e none =
    let all = P.takes s rest e in
    let text : s ≡ all.taken = all.cut ∙ ap (λ (r : List ℕ). all.taken ++ r) none ∙ append-nil all.taken in
    subst L (sym text) all.lawful

-- a longer prefix of the text contains the byte after `prefix`
longer : (prefix rest : List ℕ) (n : ℕ) → length prefix < n → n ≤ length (prefix ++ rest) → (d : ℕ) × (r : List ℕ) × (u : List ℕ) × (rest ≡ d ∷ r) × (take n (prefix ++ rest) ≡ prefix ++ d ∷ u)
longer [] [] zero lt le = absurd (omega arith)
longer [] [] (suc n) lt le = absurd (omega arith)
longer [] (d ∷ r) zero lt le = absurd (omega arith)
longer [] (d ∷ r) (suc n) lt le = (d, r, take n r, refl, refl)
longer (c ∷ prefix) rest zero lt le = absurd (omega arith)
longer (c ∷ prefix) rest (suc n) lt le =
    let so = longer prefix rest n (omega arith) (omega arith) in
    (so.0, so.1, so.2, so.3, ap (λ (u : List ℕ). c ∷ u) so.4)

-- a text has at most one place
pub one_place : (L : List ℕ → Type 0) (s : List ℕ) (p q : ℕ) → IsPlace L s p → IsPlace L s q → p ≡ q
one_place L s p q a b =
    elim (order p q) [
      | inl less ↦ absurd (a.longest q less b.within b.begins)
      | inr rest ↦ elim rest [
        | inl more ↦ absurd (b.longest p more a.within a.begins)
        | inr same ↦ same
      ]
    ]
  where
    order : (m n : ℕ) → (m < n) ⊎ ((n < m) ⊎ (m ≡ n))
    order zero zero = inr (inr refl)
    order zero (suc n) = inl (omega arith)
    order (suc m) zero = inr (inl (omega arith))
    order (suc m) (suc n) = elim (order m n) [
      | inl less ↦ inl (omega (arith, less))
      | inr rest ↦ elim rest [
        | inl more ↦ inr (inl (omega (arith, more)))
        | inr same ↦ inr (inr (ap suc same))
      ]
    ]

-- a scanner that reads each text of the language to its end
module _ (L : List ℕ → Type 0) (p : Scanner) (P : Scans L p) (whole : (s : List ℕ) → L s → p s ≡ Ok []) where
  not_taken : (s : List ℕ) (left : ℕ) → p s ≡ Err left → L s → ⊥
  not_taken s left e h = ok≢err [] left (sym (whole s h) ∙ e)

  within_text : (s : List ℕ) (left : ℕ) → p s ≡ Err left → left ≤ length s
  within_text s left e = let a = P.stops s left e in omega (arith, a.left_is, ap length a.cut, length-append a.prefix a.rest)

  place_of : (s : List ℕ) (left : ℕ) → p s ≡ Err left → IsPlace L s (length s - left)
  place_of s left e =
      let a = P.stops s left e in
      let place : length s - left ≡ length a.prefix = omega (arith, a.left_is, ap length a.cut, length-append a.prefix a.rest) in
      let prefix : take (length a.prefix) s ≡ a.prefix = ap (take (length a.prefix)) a.cut ∙ take_at a.prefix a.rest (length a.prefix) refl in
      let is : IsPlace L s (length a.prefix) = record {
        within = omega (arith, ap length a.cut, length-append a.prefix a.rest);
        begins = (a.more, subst (λ (u : List ℕ). L (u ++ a.more)) (sym prefix) a.is_continued);
        longest = λ n lt le begins.
            let next = longer a.prefix a.rest n lt (omega (arith, ap length a.cut)) in
            let text : take n s ++ begins.0 ≡ a.prefix ++ next.0 ∷ (next.2 ++ begins.0) = ap (λ (u : List ℕ). take n u ++ begins.0) a.cut ∙ ap (λ (u : List ℕ). u ++ begins.0) next.4 ∙ append_assoc a.prefix (next.0 ∷ next.2) begins.0 in
            ok≢err [] _ (sym (whole (take n s ++ begins.0) begins.1) ∙ ap p text ∙ a.refused next.0 next.1 (next.2 ++ begins.0) next.3);
      } in
      subst (λ (k : ℕ). IsPlace L s k) (sym place) is

  -- the scanner stops at the place of the text
  pub stops_at : (s : List ℕ) (left : ℕ) → p s ≡ Err left → StopsAt L s left
  stops_at s left e = record { within = within_text s left e; at = record { refused = not_taken s left e; is_place = place_of s left e } }
