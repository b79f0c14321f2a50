-- Lemmas: a scanner that reads pieces, one after the other, as long as the first byte can begin a piece.
use Rattle.std.proofs.Common.{◌≡◌, ◌≢◌, ℕ, zero, suc, ◌≤◌, Bool, true, false, List, [], ◌∷◌, ◌++◌, length, Ok, Err, refl, sym, ap, ◌∙◌, inl, inr, append_assoc, arith, length-append}
use Rattle.std.proofs.lemmas.List.{append_cancel_right}
use Rattle.std.proofs.lemmas.Bool.{cases_Bool}
use Rattle.name_grammar.specs.Scanners.{Scanner, scan_both, choose, nothing}
use Rattle.name_grammar.proofs.Results.{went_on, stopped_at, ok_is, ok≢err}
use Rattle.name_grammar.proofs.Scans.{TakesText, Stops, Scans, stops_as, looks_no_further, chosen_yes, chosen_no, cut_twice, before_rest, head_is}

-- if the bytes before a rest aren't empty, the rest is shorter than the text
shorter : (s u m : List ℕ) (n : ℕ) → s ≡ u ++ m → u ≢ [] → length s ≤ suc n → length m ≤ n
shorter s [] m n cut some le = absurd (some refl)
shorter s (c ∷ u) m n cut some le = omega (arith, ap length cut, length-append u m)

-- `L` is the language of pieces, none of which is empty; `M` has the empty text, and a piece joined with a text of `M`
module _ (L M : List ℕ → Type 0) (none : M []) (more : (u v : List ℕ) → L u → M v → M (u ++ v)) (some : (c : List ℕ) → L c → c ≢ [])
    (passes : ℕ → Bool) (p several : Scanner) (is : (s : List ℕ) → several s ≡ choose passes (scan_both p several) nothing s) (P : Scans L p) where
  several_yes : (c : ℕ) (s : List ℕ) → passes c ≡ true → several (c ∷ s) ≡ scan_both p several (c ∷ s)
  several_yes c s h = is (c ∷ s) ∙ chosen_yes passes (scan_both p several) nothing c s h

  several_no : (c : ℕ) (s : List ℕ) → passes c ≡ false → several (c ∷ s) ≡ Ok (c ∷ s)
  several_no c s h = is (c ∷ s) ∙ chosen_no passes (scan_both p several) nothing c s h

  several_takes : (n : ℕ) (s r : List ℕ) → length s ≤ n → several s ≡ Ok r → TakesText M s r
  several_takes n [] r le e = record { taken = []; cut = ok_is [] r (sym (is []) ∙ e); lawful = none }
  several_takes zero (c ∷ s) r le e = absurd (omega arith)
  several_takes (suc n) (c ∷ s) r le e =
      elim (cases_Bool (passes c)) [
        | inl h ↦
            let a = went_on (p (c ∷ s)) several r (sym (several_yes c s h) ∙ e) in
            let u = P.takes (c ∷ s) a.0 a.1 in
            let v = several_takes n a.0 r (shorter (c ∷ s) u.taken a.0 n u.cut (some u.taken u.lawful) le) a.2 in record {
              taken = u.taken ++ v.taken;
              cut = cut_twice (c ∷ s) u.taken a.0 v.taken r u.cut v.cut;
              lawful = more u.taken v.taken u.lawful v.lawful;
            }
        | inr h ↦ record { taken = []; cut = ok_is (c ∷ s) r (sym (several_no c s h) ∙ e); lawful = none }
      ]

  several_stops : (n : ℕ) (s : List ℕ) (left : ℕ) → length s ≤ n → several s ≡ Err left → Stops M several s left
  several_stops n [] left le e = absurd (ok≢err [] left (sym (is []) ∙ e))
  several_stops zero (c ∷ s) left le e = absurd (omega arith)
  several_stops (suc n) (c ∷ s) left le e =
      elim (cases_Bool (passes c)) [
        | inl h ↦
            elim (stopped_at (p (c ∷ s)) several left (sym (several_yes c s h) ∙ e)) [
              | inl k ↦
                  let a = P.stops (c ∷ s) left k in
                  stops_as M several a (a.more ++ []) (rw (← append_assoc) (more (a.prefix ++ a.more) [] a.is_continued none)) (λ d r t there.
                  let u = head_is a.prefix a.rest c s d r t a.cut there in
                  ap several u.1 ∙ several_yes c u.0 h ∙ ap (scan_both p several) (sym u.1) ∙ rw (a.refused d r t there) refl)
              | inr k ↦
                  let u = P.takes (c ∷ s) k.0 k.1 in
                  let a = several_stops n k.0 left (shorter (c ∷ s) u.taken k.0 n u.cut (some u.taken u.lawful) le) k.2 in record {
                    prefix = u.taken ++ a.prefix;
                    rest = a.rest;
                    cut = cut_twice (c ∷ s) u.taken k.0 a.prefix a.rest u.cut a.cut;
                    left_is = a.left_is;
                    more = a.more;
                    is_continued = rw append_assoc (more u.taken (a.prefix ++ a.more) u.lawful a.is_continued);
                    refused = λ d r t there.
                        let taken = before_rest p (c ∷ s) u.taken k.0 (a.prefix ++ d ∷ r) k.1 u.cut (a.cut ∙ ap (λ (w : List ℕ). a.prefix ++ w) there) in
                        let here = looks_no_further p P.looks_at_one u.taken a.prefix d r t taken in
                        let whole : c ∷ s ≡ (u.taken ++ a.prefix) ++ d ∷ r = cut_twice (c ∷ s) u.taken k.0 a.prefix (d ∷ r) u.cut (a.cut ∙ ap (λ (w : List ℕ). a.prefix ++ w) there) in
                        let begun = head_is (u.taken ++ a.prefix) (d ∷ r) c s d r t whole refl in
                        ap several begun.1 ∙ several_yes c begun.0 h ∙ ap (scan_both p several) (sym begun.1) ∙ ap (scan_both p several) (append_assoc u.taken a.prefix (d ∷ t)) ∙ rw here (a.refused d r t there);
                  }
            ]
        | inr h ↦ absurd (ok≢err (c ∷ s) left (sym (several_no c s h) ∙ e))
      ]

  several_looks : (n : ℕ) (c : List ℕ) (d : ℕ) (r t : List ℕ) → length (c ++ d ∷ r) ≤ n → several (c ++ d ∷ r) ≡ Ok (d ∷ r) → several (c ++ d ∷ t) ≡ Ok (d ∷ t)
  several_looks n [] d r t le e =
      elim (cases_Bool (passes d)) [
        | inl h ↦
            let a = went_on (p (d ∷ r)) several (d ∷ r) (sym (several_yes d r h) ∙ e) in
            let u = P.takes (d ∷ r) a.0 a.1 in
            let v = several_takes (length a.0) a.0 (d ∷ r) (omega arith) a.2 in
            let short : length a.0 ≤ length r = shorter (d ∷ r) u.taken a.0 (length r) u.cut (some u.taken u.lawful) (omega arith) in
            absurd (omega (arith, ap length v.cut, length-append v.taken (d ∷ r)))
        | inr h ↦ several_no d t h
      ]
  several_looks zero (x ∷ c) d r t le e = absurd (omega arith)
  several_looks (suc n) (x ∷ c) d r t le e =
      elim (cases_Bool (passes x)) [
        | inl h ↦
            let a = went_on (p (x ∷ (c ++ d ∷ r))) several (d ∷ r) (sym (several_yes x (c ++ d ∷ r) h) ∙ e) in
            let u = P.takes (x ∷ (c ++ d ∷ r)) a.0 a.1 in
            let short : length a.0 ≤ n = shorter (x ∷ (c ++ d ∷ r)) u.taken a.0 n u.cut (some u.taken u.lawful) le in
            let v = several_takes n a.0 (d ∷ r) short a.2 in
            let parts : x ∷ c ≡ u.taken ++ v.taken = append_cancel_right (x ∷ c) (u.taken ++ v.taken) (d ∷ r) (cut_twice (x ∷ (c ++ d ∷ r)) u.taken a.0 v.taken (d ∷ r) u.cut v.cut) in
            let taken = before_rest p (x ∷ (c ++ d ∷ r)) u.taken a.0 (v.taken ++ d ∷ r) a.1 u.cut v.cut in
            let first = looks_no_further p P.looks_at_one u.taken v.taken d r t taken in
            let second = several_looks n v.taken d r t (omega (arith, ap length v.cut)) (ap several (sym v.cut) ∙ a.2) in
            several_yes x (c ++ d ∷ t) h ∙ ap (λ (w : List ℕ). scan_both p several (w ++ d ∷ t)) parts ∙ ap (scan_both p several) (append_assoc u.taken v.taken (d ∷ t)) ∙ rw first second
        | inr h ↦
            let none_left : x ∷ c ≡ [] = append_cancel_right (x ∷ c) [] (d ∷ r) (ok_is (x ∷ (c ++ d ∷ r)) (d ∷ r) (sym (several_no x (c ++ d ∷ r) h) ∙ e)) in
            absurd cc
      ]

  pub several_scans : Scans M several
  several_scans = record {
    takes = λ s r e. several_takes (length s) s r (omega arith) e;
    stops = λ s left e. several_stops (length s) s left (omega arith) e;
    looks_at_one = λ c d r t e. several_looks (length (c ++ d ∷ r)) c d r t (omega arith) e;
  }
