-- Lemmas: scanners that read the texts of a language, and stop where no text of the language continues.
use Rattle.std.proofs.Common.{◌≡◌, ℕ, zero, suc, Bool, true, false, eqb, List, [], ◌∷◌, ◌++◌, length, replicate, ◌≤◌, Ok, Err, refl, sym, ap, subst, ◌∙◌, inl, inr, append_assoc, arith}
use Rattle.std.proofs.lemmas.List.{append_cancel_right}
use Rattle.std.specs.List.{list_all}
use Rattle.std.proofs.lemmas.Bool.{cases_Bool, eqb-true, eq-eqb, and_from}
use Rattle.name_grammar.specs.Scanners.{Scanner, scan_both, choose, nothing, scan_ending, scan_one, up_to, run, literal}
pub use Rattle.name_grammar.specs.Scanned.{TakesText, Stops, Scans, Empty, OneOf, Joined, Either, FewOf, Run, Only, HeadFails}
use Rattle.name_grammar.proofs.Results.{left_over, stopped, went_on, stopped_at, chosen, ok_is, err_is, ok≢err}

-- if a scanner leaves `prefix`, a byte and more, the bytes after this byte don't change what it reads
pub looks_no_further : (p : Scanner) → ((c : List ℕ) (d : ℕ) (r t : List ℕ) → p (c ++ d ∷ r) ≡ Ok (d ∷ r) → p (c ++ d ∷ t) ≡ Ok (d ∷ t))
    → (c prefix : List ℕ) (d : ℕ) (r t : List ℕ) → p (c ++ (prefix ++ d ∷ r)) ≡ Ok (prefix ++ d ∷ r) → p (c ++ (prefix ++ d ∷ t)) ≡ Ok (prefix ++ d ∷ t)
looks_no_further p looks c [] d r t e = looks c d r t e
looks_no_further p looks c (x ∷ prefix) d r t e = looks c x (prefix ++ d ∷ r) (prefix ++ d ∷ t) e

-- A scanner stops where another one stops, if its language continues there and it refuses the same bytes.
pub stops_as : {L : List ℕ → Type 0} {p : Scanner} {s : List ℕ} {left : ℕ} (M : List ℕ → Type 0) (q : Scanner) (a : Stops L p s left) (more : List ℕ) → M (a.prefix ++ more)
    → ((d : ℕ) (r t : List ℕ) → a.rest ≡ d ∷ r → q (a.prefix ++ d ∷ t) ≡ Err (suc (length t))) → Stops M q s left
stops_as M q a more on refuses = record { prefix = a.prefix; rest = a.rest; cut = a.cut; left_is = a.left_is; more = more; is_continued = on; refused = refuses }

-- ---- a wider language, and an equal scanner

-- a scanner of a language is also a scanner of any wider language
pub wider : (L M : List ℕ → Type 0) (p : Scanner) → ((c : List ℕ) → L c → M c) → Scans L p → Scans M p
wider L M p widen P = record {
  takes = λ s r e. let a = P.takes s r e in record { taken = a.taken; cut = a.cut; lawful = widen a.taken a.lawful };
  stops = λ s left e. let a = P.stops s left e in stops_as M p a a.more (widen (a.prefix ++ a.more) a.is_continued) a.refused;
  looks_at_one = P.looks_at_one;
}

-- a scanner with the same results is a scanner of the same language
pub renamed : (L : List ℕ → Type 0) (p q : Scanner) → ((s : List ℕ) → q s ≡ p s) → Scans L p → Scans L q
renamed L p q same P = record {
  takes = λ s r e. P.takes s r (sym (same s) ∙ e);
  stops = λ s left e.
      let a = P.stops s left (sym (same s) ∙ e) in
      stops_as L q a a.more a.is_continued (λ d r t is. same (a.prefix ++ d ∷ t) ∙ a.refused d r t is);
  looks_at_one = λ c d r t e. same (c ++ d ∷ t) ∙ P.looks_at_one c d r t (sym (same (c ++ d ∷ r)) ∙ e);
}

-- ---- nothing, and the end of the text

-- `nothing` is a scanner of the empty text
pub nothing_scans : Scans Empty nothing
nothing_scans = record {
  takes = λ s r e. record { taken = []; cut = ok_is s r e; lawful = refl };
  stops = λ s left e. absurd (ok≢err s left e);
  looks_at_one = λ c d r t e. let none : c ≡ [] = append_cancel_right c [] (d ∷ r) (ok_is (c ++ d ∷ r) (d ∷ r) e) in ap (λ (u : List ℕ). left_over (u ++ d ∷ t)) none;
}

ending_takes : (s r : List ℕ) → scan_ending s ≡ Ok r → TakesText Empty s r
ending_takes [] r e = record { taken = []; cut = ok_is [] r e; lawful = refl }
ending_takes (c ∷ s) r e = absurd (ok≢err r _ (sym e))

ending_stops : (s : List ℕ) (left : ℕ) → scan_ending s ≡ Err left → Stops Empty scan_ending s left
ending_stops [] left e = absurd (ok≢err [] left e)
ending_stops (c ∷ s) left e = record { prefix = []; rest = c ∷ s; cut = refl; left_is = sym (err_is _ left e); more = []; is_continued = refl; refused = λ d r t is. refl }

ending_looks : (c : List ℕ) (d : ℕ) (r t : List ℕ) → scan_ending (c ++ d ∷ r) ≡ Ok (d ∷ r) → scan_ending (c ++ d ∷ t) ≡ Ok (d ∷ t)
ending_looks [] d r t e = absurd (ok≢err (d ∷ r) _ (sym e))
ending_looks (x ∷ c) d r t e = absurd (ok≢err (d ∷ r) _ (sym e))

-- `ending` is a scanner of the empty text
pub ending_scans : Scans Empty scan_ending
ending_scans = record { takes = ending_takes; stops = ending_stops; looks_at_one = ending_looks }

-- ---- one byte

-- a byte that passes the test is read
pub one_taken : (passes : ℕ → Bool) (c : ℕ) (s : List ℕ) → passes c ≡ true → scan_one passes (c ∷ s) ≡ Ok s
one_taken passes c s h = rw h refl

-- a byte that fails the test is refused
pub one_refused : (passes : ℕ → Bool) (c : ℕ) (s : List ℕ) → passes c ≡ false → scan_one passes (c ∷ s) ≡ Err (suc (length s))
one_refused passes c s h = rw h refl

one_takes : (passes : ℕ → Bool) (s r : List ℕ) → scan_one passes s ≡ Ok r → TakesText (OneOf passes) s r
one_takes passes [] r e = absurd (ok≢err r 0 (sym e))
one_takes passes (c ∷ s) r e =
    elim (chosen (passes c) (left_over s) (stopped (suc (length s))) (left_over r) e) [
      | inl h ↦ record { taken = c ∷ []; cut = ap (λ (u : List ℕ). c ∷ u) (ok_is s r h.1); lawful = record { byte = c; is = refl; passed = h.0 } }
      | inr h ↦ absurd (ok≢err r _ (sym h.1))
    ]

one_stops : (passes : ℕ → Bool) (sample : ℕ) → passes sample ≡ true → (s : List ℕ) (left : ℕ) → scan_one passes s ≡ Err left → Stops (OneOf passes) (scan_one passes) s left
one_stops passes sample good [] left e = record {
  prefix = [];
  rest = [];
  cut = refl;
  left_is = sym (err_is 0 left e);
  more = sample ∷ [];
  is_continued = record { byte = sample; is = refl; passed = good };
  refused = λ d r t no. absurd cc;
}
one_stops passes sample good (c ∷ s) left e =
    elim (chosen (passes c) (left_over s) (stopped (suc (length s))) (stopped left) e) [
      | inl h ↦ absurd (ok≢err s left h.1)
      | inr h ↦ record {
        prefix = [];
        rest = c ∷ s;
        cut = refl;
        left_is = sym (err_is _ left h.1);
        more = sample ∷ [];
        is_continued = record { byte = sample; is = refl; passed = good };
        refused = λ d r t is. let same : c ≡ d = cc in one_refused passes d t (ap passes (sym same) ∙ h.0);
      }
    ]

one_looks : (passes : ℕ → Bool) (c : List ℕ) (d : ℕ) (r t : List ℕ) → scan_one passes (c ++ d ∷ r) ≡ Ok (d ∷ r) → scan_one passes (c ++ d ∷ t) ≡ Ok (d ∷ t)
one_looks passes [] d r t e =
    elim (chosen (passes d) (left_over r) (stopped (suc (length r))) (left_over (d ∷ r)) e) [
      | inl h ↦ let longer : length r ≡ suc (length r) = ap length (ok_is r (d ∷ r) h.1) in absurd (omega arith)
      | inr h ↦ absurd (ok≢err (d ∷ r) _ (sym h.1))
    ]
one_looks passes (x ∷ c) d r t e =
    elim (chosen (passes x) (left_over (c ++ d ∷ r)) (stopped (suc (length (c ++ d ∷ r)))) (left_over (d ∷ r)) e) [
      | inl h ↦ let none : c ≡ [] = append_cancel_right c [] (d ∷ r) (ok_is (c ++ d ∷ r) (d ∷ r) h.1) in one_taken passes x (c ++ d ∷ t) h.0 ∙ ap (λ (u : List ℕ). left_over (u ++ d ∷ t)) none
      | inr h ↦ absurd (ok≢err (d ∷ r) _ (sym h.1))
    ]

-- `one` is a scanner of the bytes that pass the test, if there is such a byte
pub one_scans : (passes : ℕ → Bool) (sample : ℕ) → passes sample ≡ true → Scans (OneOf passes) (scan_one passes)
one_scans passes sample good = record { takes = one_takes passes; stops = one_stops passes sample good; looks_at_one = one_looks passes }

-- ---- one scanner after another

-- if a text is cut, and then the rest is cut, the first two pieces are a prefix of the text
pub cut_twice : (s u m v r : List ℕ) → s ≡ u ++ m → m ≡ v ++ r → s ≡ (u ++ v) ++ r
cut_twice s u m v r first second = first ∙ ap (λ (w : List ℕ). u ++ w) second ∙ sym (append_assoc u v r)

-- if a scanner reads a prefix before some rest, it reads the prefix before any equal rest
pub before_rest : (p : Scanner) (s u m n : List ℕ) → p s ≡ Ok m → s ≡ u ++ m → m ≡ n → p (u ++ n) ≡ Ok n
before_rest p s u m n e cut is = ap (λ (v : List ℕ). p (u ++ v)) (sym is) ∙ ap p (sym cut) ∙ e ∙ ap left_over is

module _ (L M : List ℕ → Type 0) (p q : Scanner) (P : Scans L p) (Q : Scans M q) (sample : List ℕ) (good : M sample) where
  both_takes : (s r : List ℕ) → scan_both p q s ≡ Ok r → TakesText (Joined L M) s r
  both_takes s r e =
      let a = went_on (p s) q r e in
      let u = P.takes s a.0 a.1 in
      let v = Q.takes a.0 r a.2 in record {
        taken = u.taken ++ v.taken;
        cut = cut_twice s u.taken a.0 v.taken r u.cut v.cut;
        lawful = record { prefix = u.taken; back = v.taken; is = refl; first = u.lawful; second = v.lawful };
      }

  both_stops : (s : List ℕ) (left : ℕ) → scan_both p q s ≡ Err left → Stops (Joined L M) (scan_both p q) s left
  both_stops s left e =
      elim (stopped_at (p s) q left e) [
        | inl h ↦
            let a = P.stops s left h in
            stops_as (Joined L M) (scan_both p q) a (a.more ++ sample) (record { prefix = a.prefix ++ a.more; back = sample; is = sym (append_assoc a.prefix a.more sample); first = a.is_continued; second = good })
            (λ d r t is. rw (a.refused d r t is) refl)
        | inr h ↦ let u = P.takes s h.0 h.1 in let a = Q.stops h.0 left h.2 in record {
          prefix = u.taken ++ a.prefix;
          rest = a.rest;
          cut = cut_twice s u.taken h.0 a.prefix a.rest u.cut a.cut;
          left_is = a.left_is;
          more = a.more;
          is_continued = record { prefix = u.taken; back = a.prefix ++ a.more; is = append_assoc u.taken a.prefix a.more; first = u.lawful; second = a.is_continued };
          refused = λ d r t is.
              let there = before_rest p s u.taken h.0 (a.prefix ++ d ∷ r) h.1 u.cut (a.cut ∙ ap (λ (w : List ℕ). a.prefix ++ w) is) in
              let here = looks_no_further p P.looks_at_one u.taken a.prefix d r t there in
              ap (scan_both p q) (append_assoc u.taken a.prefix (d ∷ t)) ∙ rw here (a.refused d r t is);
        }
      ]

  both_looks : (c : List ℕ) (d : ℕ) (r t : List ℕ) → scan_both p q (c ++ d ∷ r) ≡ Ok (d ∷ r) → scan_both p q (c ++ d ∷ t) ≡ Ok (d ∷ t)
  both_looks c d r t e =
      let a = went_on (p (c ++ d ∷ r)) q (d ∷ r) e in
      let u = P.takes (c ++ d ∷ r) a.0 a.1 in
      let v = Q.takes a.0 (d ∷ r) a.2 in
      let parts : c ≡ u.taken ++ v.taken = append_cancel_right c (u.taken ++ v.taken) (d ∷ r) (cut_twice (c ++ d ∷ r) u.taken a.0 v.taken (d ∷ r) u.cut v.cut) in
      let there = before_rest p (c ++ d ∷ r) u.taken a.0 (v.taken ++ d ∷ r) a.1 u.cut v.cut in
      let first = looks_no_further p P.looks_at_one u.taken v.taken d r t there in
      let second = Q.looks_at_one v.taken d r t (ap q (sym v.cut) ∙ a.2) in
      ap (λ (w : List ℕ). scan_both p q (w ++ d ∷ t)) parts ∙ ap (scan_both p q) (append_assoc u.taken v.taken (d ∷ t)) ∙ rw first second

  -- `both` is a scanner of the texts of the first language followed by texts of the second, if the second has a text
  pub both_scans : Scans (Joined L M) (scan_both p q)
  both_scans = record { takes = both_takes; stops = both_stops; looks_at_one = both_looks }

-- ---- a choice by the first byte

-- if the first byte passes the test, the choice is the first scanner
pub chosen_yes : (passes : ℕ → Bool) (p q : Scanner) (c : ℕ) (s : List ℕ) → passes c ≡ true → choose passes p q (c ∷ s) ≡ p (c ∷ s)
chosen_yes passes p q c s h = rw h refl

-- if the first byte fails the test, the choice is the second scanner
pub chosen_no : (passes : ℕ → Bool) (p q : Scanner) (c : ℕ) (s : List ℕ) → passes c ≡ false → choose passes p q (c ∷ s) ≡ q (c ∷ s)
chosen_no passes p q c s h = rw h refl

-- if a text begins with `prefix` and the byte `d`, other bytes after `d` don't change the text's first byte
pub head_is : (prefix rest : List ℕ) (c : ℕ) (s : List ℕ) (d : ℕ) (r t : List ℕ) → c ∷ s ≡ prefix ++ rest → rest ≡ d ∷ r → (u : List ℕ) × (prefix ++ d ∷ t ≡ c ∷ u)
head_is [] rest c s d r t cut is = let same : c ∷ s ≡ d ∷ r = cut ∙ is in let d-is : d ≡ c = cc in (t, ap (λ (z : ℕ). z ∷ t) d-is)
head_is (e ∷ prefix) rest c s d r t cut is = let e-is : e ≡ c = cc in (prefix ++ d ∷ t, ap (λ (z : ℕ). z ∷ (prefix ++ d ∷ t)) e-is)

-- Two scanners have the same results for all texts with this first byte. Then the second stops where the first stops,
-- if its language continues there.
pub stops_alike : {L : List ℕ → Type 0} {left : ℕ} (p : Scanner) (M : List ℕ → Type 0) (q : Scanner) (c : ℕ) (s : List ℕ) → ((u : List ℕ) → q (c ∷ u) ≡ p (c ∷ u)) → (a : Stops L p (c ∷ s) left)
    → (more : List ℕ) → M (a.prefix ++ more) → Stops M q (c ∷ s) left
stops_alike p M q c s same a more on =
    stops_as M q a more on (λ d r t is. let u = head_is a.prefix a.rest c s d r t a.cut is in ap q u.1 ∙ same u.0 ∙ ap p (sym u.1) ∙ a.refused d r t is)

module _ (passes : ℕ → Bool) (L M : List ℕ → Type 0) (p q : Scanner) (P : Scans L p) (Q : Scans M q) where
  choose_takes : (s r : List ℕ) → choose passes p q s ≡ Ok r → TakesText (Either L M) s r
  choose_takes [] r e = let a = Q.takes [] r e in record { taken = a.taken; cut = a.cut; lawful = inr a.lawful }
  choose_takes (c ∷ s) r e =
      elim (chosen (passes c) (p (c ∷ s)) (q (c ∷ s)) (left_over r) e) [
        | inl h ↦ let a = P.takes (c ∷ s) r h.1 in record { taken = a.taken; cut = a.cut; lawful = inl a.lawful }
        | inr h ↦ let a = Q.takes (c ∷ s) r h.1 in record { taken = a.taken; cut = a.cut; lawful = inr a.lawful }
      ]

  choose_stops : (s : List ℕ) (left : ℕ) → choose passes p q s ≡ Err left → Stops (Either L M) (choose passes p q) s left
  choose_stops [] left e = let a = Q.stops [] left e in stops_as (Either L M) (choose passes p q) a a.more (inr a.is_continued) (λ d r t is. absurd (nil_is_not a.prefix a.rest d r a.cut is)) where
    nil_is_not : (prefix rest : List ℕ) (d : ℕ) (r : List ℕ) → [] ≡ prefix ++ rest → rest ≡ d ∷ r → ⊥
    nil_is_not [] rest d r cut is = cc
    nil_is_not (e ∷ prefix) rest d r cut is = cc
  choose_stops (c ∷ s) left e =
      elim (chosen (passes c) (p (c ∷ s)) (q (c ∷ s)) (stopped left) e) [
        | inl h ↦ let a = P.stops (c ∷ s) left h.1 in stops_alike p (Either L M) (choose passes p q) c s (λ u. chosen_yes passes p q c u h.0) a a.more (inl a.is_continued)
        | inr h ↦ let a = Q.stops (c ∷ s) left h.1 in stops_alike q (Either L M) (choose passes p q) c s (λ u. chosen_no passes p q c u h.0) a a.more (inr a.is_continued)
      ]

  choose_looks : (c : List ℕ) (d : ℕ) (r t : List ℕ) → choose passes p q (c ++ d ∷ r) ≡ Ok (d ∷ r) → choose passes p q (c ++ d ∷ t) ≡ Ok (d ∷ t)
  choose_looks [] d r t e =
      elim (chosen (passes d) (p (d ∷ r)) (q (d ∷ r)) (left_over (d ∷ r)) e) [
        | inl h ↦ chosen_yes passes p q d t h.0 ∙ P.looks_at_one [] d r t h.1
        | inr h ↦ chosen_no passes p q d t h.0 ∙ Q.looks_at_one [] d r t h.1
      ]
  choose_looks (x ∷ c) d r t e =
      elim (chosen (passes x) (p (x ∷ (c ++ d ∷ r))) (q (x ∷ (c ++ d ∷ r))) (left_over (d ∷ r)) e) [
        | inl h ↦ chosen_yes passes p q x (c ++ d ∷ t) h.0 ∙ P.looks_at_one (x ∷ c) d r t h.1
        | inr h ↦ chosen_no passes p q x (c ++ d ∷ t) h.0 ∙ Q.looks_at_one (x ∷ c) d r t h.1
      ]

  pub choose_scans : Scans (Either L M) (choose passes p q)
  choose_scans = record { takes = choose_takes; stops = choose_stops; looks_at_one = choose_looks }

-- ---- at most `n` bytes

abbrev refuse : Scanner
refuse s = Err (length s)

refuse_scans : Scans Empty refuse
refuse_scans = record {
  takes = λ s r e. absurd (ok≢err r _ (sym e));
  stops = λ s left e. record { prefix = []; rest = s; cut = refl; left_is = sym (err_is _ left e); more = []; is_continued = refl; refused = λ d r t is. refl };
  looks_at_one = λ c d r t e. absurd (ok≢err (d ∷ r) _ (sym e));
}

up_to_none : (passes : ℕ → Bool) (s : List ℕ) → up_to zero passes s ≡ choose passes refuse nothing s
unfolding up_to
up_to_none passes [] = refl
up_to_none passes (c ∷ s) = refl

up_to_more : (n : ℕ) (passes : ℕ → Bool) (s : List ℕ) → up_to (suc n) passes s ≡ choose passes (scan_both (scan_one passes) (up_to n passes)) nothing s
unfolding up_to
up_to_more n passes [] = refl
up_to_more n passes (c ∷ s) = elim (cases_Bool (passes c)) [ inl h ↦ rw h refl | inr h ↦ rw h refl ]

none_few : (n : ℕ) (passes : ℕ → Bool) (c : List ℕ) → c ≡ [] → FewOf n passes c
none_few n passes c is = subst (FewOf n passes) (sym is) (record { few = omega arith; passed = refl })

more_few : (n : ℕ) (passes : ℕ → Bool) (c : List ℕ) → Joined (OneOf passes) (FewOf n passes) c → FewOf (suc n) passes c
more_few n passes c j =
    let is : c ≡ j.first.byte ∷ j.back = j.is ∙ ap (λ (u : List ℕ). u ++ j.back) j.first.is in
    subst (FewOf (suc n) passes) (sym is) (record { few = omega (arith, j.second.few); passed = and_from _ _ j.first.passed j.second.passed })

-- `up_to` is a scanner of at most `n` bytes that pass the test, if some byte passes
pub up_to_scans : (n : ℕ) (passes : ℕ → Bool) (sample : ℕ) → passes sample ≡ true → Scans (FewOf n passes) (up_to n passes)
up_to_scans zero passes sample good =
    wider (Either Empty Empty) (FewOf zero passes) _ (λ c h. none_few zero passes c (elim h [ inl is ↦ is | inr is ↦ is ]))
    (renamed _ _ _ (up_to_none passes) (choose_scans passes Empty Empty refuse nothing refuse_scans nothing_scans))
up_to_scans (suc n) passes sample good =
    let more = both_scans (OneOf passes) (FewOf n passes) (scan_one passes) (up_to n passes) (one_scans passes sample good) (up_to_scans n passes sample good) [] (none_few n passes [] refl) in
    wider (Either (Joined (OneOf passes) (FewOf n passes)) Empty) (FewOf (suc n) passes) _ (λ c h. elim h [ inl j ↦ more_few n passes c j | inr is ↦ none_few (suc n) passes c is ])
    (renamed _ _ _ (up_to_more n passes) (choose_scans passes _ _ _ nothing more nothing_scans))

-- after a byte that passes the test, at most one byte less may follow
pub up_to_step : (n : ℕ) (passes : ℕ → Bool) (c : ℕ) (s : List ℕ) → passes c ≡ true → up_to (suc n) passes (c ∷ s) ≡ up_to n passes s
unfolding up_to
up_to_step n passes c s h = rw h refl

up_to_halts : (n : ℕ) (passes : ℕ → Bool) (r : List ℕ) → HeadFails passes r → up_to n passes r ≡ Ok r
unfolding up_to
up_to_halts n passes [] h = refl
up_to_halts zero passes (c ∷ r) h = rw h refl
up_to_halts (suc n) passes (c ∷ r) h = rw h refl

-- `k` equal bytes that pass the test are read, if the byte after them fails the test
pub up_to_taken : (k n : ℕ) (passes : ℕ → Bool) (c : ℕ) (r : List ℕ) → k ≤ n → passes c ≡ true → HeadFails passes r → up_to n passes (replicate k c ++ r) ≡ Ok r
up_to_taken zero n passes c r le good h = up_to_halts n passes r h
up_to_taken (suc k) zero passes c r le good h = absurd (omega arith)
up_to_taken (suc k) (suc n) passes c r le good h = up_to_step n passes c (replicate k c ++ r) good ∙ up_to_taken k n passes c r (omega arith) good h

-- ---- exactly `n` bytes

more_run : (n : ℕ) (passes : ℕ → Bool) (c : List ℕ) → Joined (OneOf passes) (Run n passes) c → Run (suc n) passes c
more_run n passes c j =
    let is : c ≡ j.first.byte ∷ j.back = j.is ∙ ap (λ (u : List ℕ). u ++ j.back) j.first.is in
    subst (Run (suc n) passes) (sym is) (record { count = omega (arith, j.second.count); passed = and_from _ _ j.first.passed j.second.passed })

run_sample : (n : ℕ) (passes : ℕ → Bool) (sample : ℕ) → passes sample ≡ true → Run n passes (replicate n sample)
run_sample zero passes sample good = record { count = refl; passed = refl }
run_sample (suc n) passes sample good =
    let rest = run_sample n passes sample good in
    record { count = omega (arith, rest.count); passed = and_from _ _ good rest.passed }

-- `run` is a scanner of exactly `n` bytes that pass the test, if some byte passes
pub run_scans : (n : ℕ) (passes : ℕ → Bool) (sample : ℕ) → passes sample ≡ true → Scans (Run n passes) (run n passes)
run_scans zero passes sample good = wider Empty (Run zero passes) (run zero passes) (λ c is. subst (Run zero passes) (sym is) (record { count = refl; passed = refl })) nothing_scans
run_scans (suc n) passes sample good =
    wider (Joined (OneOf passes) (Run n passes)) (Run (suc n) passes) (run (suc n) passes) (more_run n passes)
    (both_scans (OneOf passes) (Run n passes) (scan_one passes) (run n passes) (one_scans passes sample good) (run_scans n passes sample good) (replicate n sample) (run_sample n passes sample good))

-- ---- given bytes

literal_more : (c : ℕ) (cs s : List ℕ) → literal (c ∷ cs) s ≡ scan_both (scan_one (λ d. eqb d c)) (literal cs) s
unfolding literal
literal_more c cs s = refl

literal_none : (s : List ℕ) → literal [] s ≡ nothing s
unfolding literal
literal_none s = refl

more_only : (c : ℕ) (cs u : List ℕ) → Joined (OneOf (λ d. eqb d c)) (Only cs) u → Only (c ∷ cs) u
more_only c cs u j = j.is ∙ ap (λ (v : List ℕ). v ++ j.back) j.first.is ∙ ap (λ (v : List ℕ). j.first.byte ∷ v) j.second ∙ ap (λ (d : ℕ). d ∷ cs) (eqb-true j.first.byte c j.first.passed)

-- `literal` is a scanner of the given bytes alone
pub literal_scans : (cs : List ℕ) → Scans (Only cs) (literal cs)
literal_scans [] = renamed Empty nothing (literal []) literal_none nothing_scans
literal_scans (c ∷ cs) =
    wider (Joined (OneOf (λ d. eqb d c)) (Only cs)) (Only (c ∷ cs)) (literal (c ∷ cs)) (more_only c cs)
    (renamed _ (scan_both (scan_one (λ d. eqb d c)) (literal cs)) (literal (c ∷ cs)) (literal_more c cs)
    (both_scans (OneOf (λ d. eqb d c)) (Only cs) (scan_one (λ d. eqb d c)) (literal cs) (one_scans (λ d. eqb d c) c (eq-eqb c c refl)) (literal_scans cs) cs refl))

-- `literal` reads the given bytes before any rest
pub literal_taken : (cs r : List ℕ) → literal cs (cs ++ r) ≡ Ok r
unfolding literal
literal_taken [] r = refl
literal_taken (c ∷ cs) r = rw (eq-eqb c c refl) (literal_taken cs r)
