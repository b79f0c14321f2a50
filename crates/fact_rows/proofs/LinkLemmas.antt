-- Facts are added to those of an end, and removed from them.
use Rattle.std.proofs.Common.{◌≡◌, ◌≢◌, ℕ, ◌+◌, ◌-◌, ◌<◌, ◌≤◌, Option, None, Result, Ok, Err, OnOk, OnErr, Vec, Global, ◌||◌, Bool, true, false, cond, List, [], ◌∷◌, ◌++◌, Some, length, take, get_or, drop, refl, sym, ap, subst, ◌∙◌, inl, inr, arith}
use Rattle.std.specs.Prelude.{nat_eq, nat_lt}
use Rattle.std.specs.Map.{lookup}
use Rattle.std.specs.List.{list_any, position, position_or_len, sum_by, swap_remove}
use Rattle.std.proofs.Math.Bool.{or-false}
use Rattle.std.proofs.lemmas.List.{take-append-drop}
use Rattle.std.proofs.lemmas.Bool.Decides.{eqb_tells, nat_tests}
use Rattle.std.proofs.lemmas.List.Folds.{list_any-append, list_any_more, list_any_none}
use Rattle.std.proofs.lemmas.List.Quantifiers.{position-Some}
use Rattle.std.proofs.lemmas.List.Sums.{sum_by-cons, sum_by_push, sum_by-swap_remove, fails_before_first}
use Rattle.std.proofs.lemmas.List.Sorted.{IsPermutation-swap_remove, list_any-IsPermutation}
use Rattle.name_index.specs.declared.table.NameId.{NameId}
use Rattle.fact_rows.specs.Facts.{facts_of_end, has_end_of_fact, facts_or_none, times_among, with_end, AreOnce, IsUnder, KeepsLinks, SameOthers}
use Rattle.fact_rows.specs.Rows.{count_if}

-- ---- numbers

pub nat_same : (n : ℕ) → nat_eq n n ≡ true
nat_same n = grind (arith, nat_tests)

pub nat_decides : (a b : ℕ) → nat_eq a b ≡ true → a ≡ b
nat_decides a b h = grind (arith, nat_tests)

pub nat_differ : (a b : ℕ) → b ≢ a → nat_eq a b ≡ false
nat_differ a b h = elim (eqb_tells a b) [ inl same ↦ absurd (h (sym same.1)) | inr other ↦ other.0 ]

-- ---- lists

pub one_here : (n : NameId) (xs : List NameId) → has_end_of_fact (with_end n xs) n.0 ≡ true
one_here n xs = go (has_end_of_fact xs n.0) refl where
  go : (b : Bool) → has_end_of_fact xs n.0 ≡ b → has_end_of_fact (cond b xs (xs ++ n ∷ [])) n.0 ≡ true
  go true e = e
  go false e = list_any-append (λ (x : NameId). nat_eq x.0 n.0) xs (n ∷ []) ∙ ap (λ (b : Bool). b || (nat_eq n.0 n.0 || false)) e ∙ ap (λ (b : Bool). b || false) (nat_same n.0)

pub one_keeps : (n : NameId) (xs : List NameId) (q : ℕ) → has_end_of_fact xs q ≡ true → has_end_of_fact (with_end n xs) q ≡ true
one_keeps n xs q h = go (has_end_of_fact xs n.0) where
  go : (b : Bool) → has_end_of_fact (cond b xs (xs ++ n ∷ [])) q ≡ true
  go true = h
  go false = list_any-append (λ (x : NameId). nat_eq x.0 q) xs (n ∷ []) ∙ ap (λ (b : Bool). b || (nat_eq n.0 q || false)) h

pub one_others : (n : NameId) (xs : List NameId) (q : ℕ) → q ≢ n.0 → has_end_of_fact (with_end n xs) q ≡ has_end_of_fact xs q
one_others n xs q h = go (has_end_of_fact xs n.0) where
  go : (b : Bool) → has_end_of_fact (cond b xs (xs ++ n ∷ [])) q ≡ has_end_of_fact xs q
  go true = refl
  go false = list_any-append (λ (x : NameId). nat_eq x.0 q) xs (n ∷ []) ∙ ap (λ (b : Bool). has_end_of_fact xs q || (b || false)) (nat_differ n.0 q h) ∙ or-false (has_end_of_fact xs q)

pub others_left : (xs : List NameId) (k n : ℕ) (y : NameId) → position (λ (x : NameId). nat_eq x.0 n) xs ≡ Some k → y ≡ get_or xs k y → (q : ℕ) → q ≢ n → has_end_of_fact (swap_remove xs k y) q ≡ has_end_of_fact xs q
others_left xs k n y at value q h =
    let found = position-Some (λ (x : NameId). nat_eq x.0 n) xs k y at in
    let is : y.0 ≡ n = ap (λ (x : NameId). x.0) value ∙ nat_decides (get_or xs k y).0 n found.1 in
    let same : has_end_of_fact xs q ≡ (nat_eq y.0 q || has_end_of_fact (swap_remove xs k y) q) = list_any-IsPermutation (λ (x : NameId). nat_eq x.0 q) xs (y ∷ swap_remove xs k y) (IsPermutation-swap_remove xs k y found.0 value) in
    sym (same ∙ ap (λ (b : Bool). b || has_end_of_fact (swap_remove xs k y) q) (nat_differ y.0 q (λ s. h (s ∙ is))))

list_any-taken : {X : Type 0} (p : X → Bool) (xs : List X) (n : ℕ) → list_any p (take n xs) ≡ true → list_any p xs ≡ true
list_any-taken p xs n h = ap (list_any p) (sym (take-append-drop n xs)) ∙ list_any-append p (take n xs) (drop n xs) ∙ ap (λ (b : Bool). b || list_any p (drop n xs)) h

-- ---- one end changes

module _ (old new : ℕ → List NameId) (end : ℕ) (elsewhere : (other : ℕ) → nat_eq end other ≡ false → new other ≡ old other) where
  pub links_kept : ((q : ℕ) → has_end_of_fact (old end) q ≡ true → has_end_of_fact (new end) q ≡ true) → KeepsLinks old new
  links_kept here e q h = go (nat_eq end e) refl where
    go : (b : Bool) → nat_eq end e ≡ b → has_end_of_fact (new e) q ≡ true
    go true s = subst (λ (u : ℕ). has_end_of_fact (old u) q ≡ true → has_end_of_fact (new u) q ≡ true) (nat_decides end e s) (here q) h
    go false s = ap (λ (xs : List NameId). has_end_of_fact xs q) (elsewhere e s) ∙ h

  pub others_same : (fact : ℕ) → ((q : ℕ) → q ≢ fact → has_end_of_fact (new end) q ≡ has_end_of_fact (old end) q) → SameOthers fact old new
  others_same fact here e q h = go (nat_eq end e) refl where
    go : (b : Bool) → nat_eq end e ≡ b → has_end_of_fact (new e) q ≡ has_end_of_fact (old e) q
    go true s = subst (λ (u : ℕ). has_end_of_fact (new u) q ≡ has_end_of_fact (old u) q) (nat_decides end e s) (here q h)
    go false s = ap (λ (xs : List NameId). has_end_of_fact xs q) (elsewhere e s)

  -- these ends are unchanged if the one that changes is none of them
  pub these_stay : (ends : List NameId) → has_end_of_fact ends end ≡ false → (e : ℕ) → has_end_of_fact ends e ≡ true → new e ≡ old e
  these_stay ends none e h = go (nat_eq end e) refl where
    go : (b : Bool) → nat_eq end e ≡ b → new e ≡ old e
    go true s = absurd (let wrong : false ≡ true = sym none ∙ (ap (has_end_of_fact ends) (nat_decides end e s) ∙ h) in cc)
    go false s = elsewhere e s

-- ---- the next end

pub same_again : (fact : ℕ) (first now next : ℕ → List NameId) → SameOthers fact first now → SameOthers fact now next → SameOthers fact first next
same_again fact first now next h k e q other = k e q other ∙ h e q other

module _ (ends : List NameId) (i : ℕ) (d : NameId) (lt : i < length ends) (now next : ℕ → List NameId) where
  either : (e : ℕ) → has_end_of_fact (take (i + 1) ends) e ≡ (has_end_of_fact (take i ends) e || nat_eq (get_or ends i d).0 e)
  either e = list_any_more (λ (id : NameId). nat_eq id.0 e) ends i d lt

  pub under_next : (fact : ℕ) → IsUnder now fact (take i ends) → KeepsLinks now next → has_end_of_fact (next (get_or ends i d).0) fact ≡ true → IsUnder next fact (take (i + 1) ends)
  under_next fact so_far kept here e h = go (has_end_of_fact (take i ends) e) refl where
    go : (b : Bool) → has_end_of_fact (take i ends) e ≡ b → has_end_of_fact (next e) fact ≡ true
    go true s = kept e fact (so_far e s)
    go false s = subst (λ (u : ℕ). has_end_of_fact (next u) fact ≡ true) (nat_decides (get_or ends i d).0 e (sym (either e ∙ ap (λ (b : Bool). b || nat_eq (get_or ends i d).0 e) s) ∙ h)) here

  pub elsewhere_next : (first : ℕ → List NameId) → ((e : ℕ) → has_end_of_fact (take i ends) e ≡ false → now e ≡ first e) → ((e : ℕ) → nat_eq (get_or ends i d).0 e ≡ false → next e ≡ now e)
      → (e : ℕ) → has_end_of_fact (take (i + 1) ends) e ≡ false → next e ≡ first e
  elsewhere_next first so_far here e h = go (has_end_of_fact (take i ends) e) refl where
    go : (b : Bool) → has_end_of_fact (take i ends) e ≡ b → next e ≡ first e
    go true s = absurd (let wrong : true ≡ false = sym (either e ∙ ap (λ (b : Bool). b || nat_eq (get_or ends i d).0 e) s) ∙ h in cc)
    go false s = here e (sym (either e ∙ ap (λ (b : Bool). b || nat_eq (get_or ends i d).0 e) s) ∙ h) ∙ so_far e s

  -- the next is one of them, too
  pub elsewhere_all : (first : ℕ → List NameId) → ((e : ℕ) → has_end_of_fact (take i ends) e ≡ false → now e ≡ first e) → ((e : ℕ) → nat_eq (get_or ends i d).0 e ≡ false → next e ≡ now e)
      → (e : ℕ) → has_end_of_fact ends e ≡ false → next e ≡ first e
  elsewhere_all first so_far here e h = elsewhere_next first so_far here e (go (has_end_of_fact (take (i + 1) ends) e) refl) where
    go : (b : Bool) → has_end_of_fact (take (i + 1) ends) e ≡ b → has_end_of_fact (take (i + 1) ends) e ≡ false
    go true s = absurd (let wrong : false ≡ true = sym h ∙ list_any-taken (λ (id : NameId). nat_eq id.0 e) ends (i + 1) s in cc)
    go false s = s

  -- no end so far lists the fact, nor does the next
  pub gone_next : (fact : ℕ) → ((e : ℕ) → has_end_of_fact (take i ends) e ≡ true → has_end_of_fact (now e) fact ≡ false) → ((e : ℕ) → has_end_of_fact (now e) fact ≡ false → has_end_of_fact (next e) fact ≡ false) → has_end_of_fact (next (get_or ends i d).0) fact ≡ false
      → (e : ℕ) → has_end_of_fact (take (i + 1) ends) e ≡ true → has_end_of_fact (next e) fact ≡ false
  gone_next fact so_far away here e h = go (has_end_of_fact (take i ends) e) refl where
    go : (b : Bool) → has_end_of_fact (take i ends) e ≡ b → has_end_of_fact (next e) fact ≡ false
    go true s = away e (so_far e s)
    go false s = subst (λ (u : ℕ). has_end_of_fact (next u) fact ≡ false) (nat_decides (get_or ends i d).0 e (sym (either e ∙ ap (λ (b : Bool). b || nat_eq (get_or ends i d).0 e) s) ∙ h)) here

  pub gone_unless : (fact : ℕ) (kept : List NameId) → ((e : ℕ) → has_end_of_fact (take i ends) e ≡ true → has_end_of_fact kept e ≡ false → has_end_of_fact (now e) fact ≡ false) → ((e : ℕ) → has_end_of_fact (now e) fact ≡ false → has_end_of_fact (next e) fact ≡ false)
      → (has_end_of_fact kept (get_or ends i d).0 ≡ false → has_end_of_fact (next (get_or ends i d).0) fact ≡ false) → (e : ℕ) → has_end_of_fact (take (i + 1) ends) e ≡ true → has_end_of_fact kept e ≡ false → has_end_of_fact (next e) fact ≡ false
  gone_unless fact kept so_far away here e h k = go (has_end_of_fact (take i ends) e) refl where
    go : (b : Bool) → has_end_of_fact (take i ends) e ≡ b → has_end_of_fact (next e) fact ≡ false
    go true s = away e (so_far e s k)
    go false s =
        let is : (get_or ends i d).0 ≡ e = nat_decides (get_or ends i d).0 e (sym (either e ∙ ap (λ (b : Bool). b || nat_eq (get_or ends i d).0 e) s) ∙ h) in
        subst (λ (u : ℕ). has_end_of_fact (next u) fact ≡ false) is (here (ap (has_end_of_fact kept) is ∙ k))

-- ---- how often an end lists a fact

positive : (n : ℕ) → 0 < n → nat_lt 0 n ≡ true
positive n h = grind (arith, nat_tests)

nothing : (n : ℕ) → n ≡ 0 → nat_lt 0 n ≡ false
nothing n h = grind (arith, nat_tests)

none_left : (n : ℕ) → nat_lt 0 n ≡ false → n ≡ 0
none_left n h = grind (arith, nat_tests)

pub any_times : {X : Type 0} (p : X → Bool) (xs : List X) → list_any p xs ≡ nat_lt 0 (sum_by (λ x. count_if (p x)) xs)
any_times p [] = refl
any_times {X = X} p (x ∷ xs) = go (any_times p xs) (p x) refl where
  go : list_any p xs ≡ nat_lt 0 (sum_by (λ y. count_if (p y)) xs) → (b : Bool) → p x ≡ b → (p x || list_any p xs) ≡ nat_lt 0 (sum_by (λ y. count_if (p y)) (x ∷ xs))
  go rest true e =
      let more : sum_by (λ y. count_if (p y)) (x ∷ xs) ≡ count_if (p x) + sum_by (λ y. count_if (p y)) xs = sum_by-cons (λ y. count_if (p y)) x xs in
      let one : count_if (p x) ≡ 1 = ap count_if e in
      ap (λ (b : Bool). b || list_any p xs) e ∙ sym (positive (sum_by (λ y. count_if (p y)) (x ∷ xs)) (omega (arith, more, one)))
  go rest false e =
      let more : sum_by (λ y. count_if (p y)) (x ∷ xs) ≡ count_if (p x) + sum_by (λ y. count_if (p y)) xs = sum_by-cons (λ y. count_if (p y)) x xs in
      let none : count_if (p x) ≡ 0 = ap count_if e in
      let same : sum_by (λ y. count_if (p y)) (x ∷ xs) ≡ sum_by (λ y. count_if (p y)) xs = omega (arith, more, none) in
      ap (λ (b : Bool). b || list_any p xs) e ∙ rest ∙ ap (nat_lt 0) (sym same)

pub not_there : (xs : List NameId) (q : ℕ) → times_among xs q ≡ 0 → has_end_of_fact xs q ≡ false
not_there xs q h = any_times (λ (x : NameId). nat_eq x.0 q) xs ∙ nothing (times_among xs q) h

pub no_times : (xs : List NameId) (q : ℕ) → has_end_of_fact xs q ≡ false → times_among xs q ≡ 0
no_times xs q h = none_left (times_among xs q) (sym (any_times (λ (x : NameId). nat_eq x.0 q) xs) ∙ h)

pub times_left : (xs : List NameId) (k n : ℕ) (y : NameId) → position (λ (x : NameId). nat_eq x.0 n) xs ≡ Some k → y ≡ get_or xs k y → (q : ℕ) → times_among (swap_remove xs k y) q ≡ times_among xs q - count_if (nat_eq n q)
times_left xs k n y at value q =
    let found = position-Some (λ (x : NameId). nat_eq x.0 n) xs k y at in
    let is : y.0 ≡ n = ap (λ (x : NameId). x.0) value ∙ nat_decides (get_or xs k y).0 n found.1 in
    let taken : times_among (swap_remove xs k y) q + count_if (nat_eq (get_or xs k y).0 q) ≡ times_among xs q = sum_by-swap_remove (λ (x : NameId). count_if (nat_eq x.0 q)) xs k y found.0 in
    let same : count_if (nat_eq (get_or xs k y).0 q) ≡ count_if (nat_eq n q) = ap (λ (u : ℕ). count_if (nat_eq u q)) (ap (λ (x : NameId). x.0) (sym value) ∙ is) in
    omega (arith, taken, same)

not_found : {X : Type 0} (p : X → Bool) (xs : List X) → position p xs ≡ None → list_any p xs ≡ false
not_found p xs none = go (nat_lt (position_or_len p xs) (length xs)) refl none where
  within : (k f n : ℕ) → k < n → nat_lt f n ≡ false → k < f
  within k f n lt e = grind (arith, nat_tests)

  go : (b : Bool) → nat_lt (position_or_len p xs) (length xs) ≡ b → cond b (Some (position_or_len p xs)) None ≡ None → list_any p xs ≡ false
  go true e h = absurd (cc)
  go false e h = list_any_none p xs (λ k d l. fails_before_first p xs k d (within k (position_or_len p xs) (length xs) l e))

pub times_stay : (xs : List NameId) (n : ℕ) → position (λ (x : NameId). nat_eq x.0 n) xs ≡ None → (q : ℕ) → times_among xs q ≡ times_among xs q - count_if (nat_eq n q)
times_stay xs n none q = go (nat_eq n q) refl where
  go : (b : Bool) → nat_eq n q ≡ b → times_among xs q ≡ times_among xs q - count_if (nat_eq n q)
  go true e =
      let zero : times_among xs q ≡ 0 = subst (λ (u : ℕ). times_among xs u ≡ 0) (nat_decides n q e) (no_times xs n (not_found (λ (x : NameId). nat_eq x.0 n) xs none)) in
      omega (arith, zero)
  go false e =
      let nought : count_if (nat_eq n q) ≡ 0 = ap count_if e in
      omega (arith, nought)

once_with : (n : NameId) (xs : List NameId) (q : ℕ) → times_among xs q ≤ 1 → times_among (with_end n xs) q ≤ 1
once_with n xs q h = go (has_end_of_fact xs n.0) refl where
  go : (b : Bool) → has_end_of_fact xs n.0 ≡ b → times_among (cond b xs (xs ++ n ∷ [])) q ≤ 1
  go true e = h
  go false e = on (nat_eq n.0 q) refl where
    more : times_among (xs ++ n ∷ []) q ≡ times_among xs q + count_if (nat_eq n.0 q)
    more = sum_by_push (λ (x : NameId). count_if (nat_eq x.0 q)) xs n

    on : (b : Bool) → nat_eq n.0 q ≡ b → times_among (xs ++ n ∷ []) q ≤ 1
    on true s =
        let zero : times_among xs q ≡ 0 = subst (λ (u : ℕ). times_among xs u ≡ 0) (nat_decides n.0 q s) (no_times xs n.0 e) in
        let one : count_if (nat_eq n.0 q) ≡ 1 = ap count_if s in
        omega (arith, more, zero, one)
    on false s =
        let nought : count_if (nat_eq n.0 q) ≡ 0 = ap count_if s in
        omega (arith, more, nought, h)

module _ (old new : List (ℕ × Vec NameId Global)) (end : ℕ) (fact : NameId) where
  pub once_put : {Done Fault : Type 0} (r : Result Done Fault) → OnOk r (facts_of_end new end ≡ with_end fact (facts_of_end old end)) → OnErr r (facts_of_end new end ≡ facts_of_end old end)
      → ((other : ℕ) → nat_eq end other ≡ false → facts_of_end new other ≡ facts_of_end old other) → AreOnce old → AreOnce new
  once_put r ok err others once e q = go (nat_eq end e) refl where
    here : {Done Fault : Type 0} (r : Result Done Fault) → OnOk r (facts_of_end new end ≡ with_end fact (facts_of_end old end)) → OnErr r (facts_of_end new end ≡ facts_of_end old end) → times_among (facts_of_end new end) q ≤ 1
    here (Ok x) ok err = subst (λ (xs : List NameId). times_among xs q ≤ 1) (sym ok) (once_with fact (facts_of_end old end) q (once end q))
    here (Err x) ok err = subst (λ (xs : List NameId). times_among xs q ≤ 1) (sym err) (once end q)

    go : (b : Bool) → nat_eq end e ≡ b → times_among (facts_of_end new e) q ≤ 1
    go true s = subst (λ (u : ℕ). times_among (facts_of_end new u) q ≤ 1) (nat_decides end e s) (here r ok err)
    go false s = subst (λ (xs : List NameId). times_among xs q ≤ 1) (sym (others e s)) (once e q)

  module _ (times : (q : ℕ) → times_among (facts_of_end new end) q ≡ times_among (facts_of_end old end) q - count_if (nat_eq fact.0 q)) where
    itself : count_if (nat_eq fact.0 fact.0) ≡ 1
    itself = ap count_if (nat_same fact.0)

    pub gone_once : AreOnce old → has_end_of_fact (facts_of_end new end) fact.0 ≡ false
    gone_once once = not_there (facts_of_end new end) fact.0 (omega (arith, times fact.0, itself, once end fact.0))

    pub away_still : ((other : ℕ) → nat_eq end other ≡ false → lookup (nat_eq other) new ≡ lookup (nat_eq other) old) → (e : ℕ) → has_end_of_fact (facts_of_end old e) fact.0 ≡ false → has_end_of_fact (facts_of_end new e) fact.0 ≡ false
    away_still elsewhere e none = go (nat_eq end e) refl where
      go : (b : Bool) → nat_eq end e ≡ b → has_end_of_fact (facts_of_end new e) fact.0 ≡ false
      go true s =
          let is = nat_decides end e s in
          let zero : times_among (facts_of_end old end) fact.0 ≡ 0 = no_times (facts_of_end old end) fact.0 (subst (λ (u : ℕ). has_end_of_fact (facts_of_end old u) fact.0 ≡ false) (sym is) none) in
          subst (λ (u : ℕ). has_end_of_fact (facts_of_end new u) fact.0 ≡ false) is (not_there (facts_of_end new end) fact.0 (omega (arith, times fact.0, zero)))
      go false s = ap (λ (o : Option (Vec NameId Global)). has_end_of_fact (facts_or_none o) fact.0) (elsewhere e s) ∙ none
