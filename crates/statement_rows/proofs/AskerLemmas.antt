-- A ticket that is added for the checks of a test one after the other, or removed.
use Rattle.std.proofs.Common.{◌≡◌, ℕ, zero, suc, ◌+◌, ◌<◌, ◌≤◌, ◌||◌, ◌&&◌, Bool, true, false, cond, List, [], ◌∷◌, ◌++◌, length, map, take, take_all, get_or, refl, sym, ap, subst, ◌∙◌, arith, Vec, Global}
use Rattle.std.specs.Prelude.{slice_get, Option, Some, None}
use Rattle.std.proofs.lemmas.Grind.{flat_map-append}
use Rattle.std.proofs.lemmas.List.{append-nil}
use Rattle.std.specs.List.{flat_map, list_all}
use Rattle.std.specs.Map.{lookup}
use Rattle.std.proofs.lemmas.List.{take_more}
use Rattle.std.proofs.lemmas.List.Folds.{list_all-append, list_any-append}
use Rattle.cpe_rows.specs.Rows.{same_key}
use Rattle.cpe_rows.specs.declared.test.CheckKey.{CheckKey}
use Rattle.cpe_rows.specs.Shape.{depth_of, largest}
use Rattle.cpe_rows.specs.declared.test.Operator.{Operator}
use Rattle.cpe_rows.specs.declared.test.Test.{Test, Logic}
use Rattle.cpe_rows.proofs.KeyTests.{key_is}
use Rattle.cpe_rows.proofs.Within.{depth-logic}
use Rattle.statement_rows.specs.Askers.{AreAskers, IsAsked, has_place, askers_or_none, may_enter, trim_list, trim_list_if}
use Rattle.statement_rows.specs.ByResult.{asks_one}
use Rattle.statement_rows.specs.Readings.{check_keys, is_asked}
use Rattle.statement_rows.specs.Tickets.{IsBelow, with_if, with_last_if, without_if}
use Rattle.ticket_list.specs.Tickets.{ends_with, is_empty, with_last}
use Rattle.statement_rows.proofs.ListLemmas.{ends-last, last-again, last-new, without-twice}
use Rattle.statement_rows.proofs.ReadingLemmas.{keys-logic}
use Rattle.ticket_list.proofs.TicketLemmas.{not_last}
use Rattle.statement_rows.proofs.VerdictLemmas.{key_same, or_right}

-- all children of a test ask for the checks for which the test asks
pub all_keys : (o : Operator) (n : Bool) (of items : List Test) (i : ℕ) (test : Test) → items ≡ of → length items ≤ i → test ≡ Logic o n of → flat_map check_keys (take i items) ≡ check_keys test
all_keys o n of items i test are all is = ap (flat_map check_keys) (take_all i items all ∙ are) ∙ sym (ap check_keys is ∙ keys-logic o n of)

last_twice : (t : ℕ) (xs : List ℕ) → with_last t (with_last t xs) ≡ with_last t xs
last_twice t xs = go (ends_with t xs) refl where
  go : (b : Bool) → ends_with t xs ≡ b → with_last t (cond b xs (xs ++ t ∷ [])) ≡ cond b xs (xs ++ t ∷ [])
  go true e = ap (λ (b : Bool). cond b xs (xs ++ t ∷ [])) e
  go false e = last-again t xs

pub with_last_twice : (b c : Bool) (t : ℕ) (xs : List ℕ) → with_last_if c t (with_last_if b t xs) ≡ with_last_if (b || c) t xs
with_last_twice true true t xs = last_twice t xs
with_last_twice true false t xs = refl
with_last_twice false c t xs = refl

pub without_if_twice : (b c : Bool) (t : ℕ) (xs : List ℕ) → without_if c t (without_if b t xs) ≡ without_if (b || c) t xs
without_if_twice true true t xs = without-twice t xs
without_if_twice true false t xs = refl
without_if_twice false c t xs = refl

-- a new ticket is added once
pub with_last_new : (b : Bool) (t : ℕ) (xs : List ℕ) → IsBelow t xs → with_last_if b t xs ≡ with_if b t xs
with_last_new true t xs h = last-new t xs (not_last t xs h.1)
with_last_new false t xs h = refl

-- a change of one list keeps that no other list is empty
pub asked_still : (old new : List (CheckKey × Vec ℕ Global)) (key : CheckKey) → ((other : CheckKey) → same_key key other ≡ false → lookup (same_key other) new ≡ lookup (same_key other) old)
    → (IsAsked old key → IsAsked new key) → AreAskers old → AreAskers new
asked_still old new key others list asked other = go (same_key key other) refl where
  go : (b : Bool) → same_key key other ≡ b → IsAsked new other
  go true e = subst (IsAsked new) (key_is key other e) (list (asked key))
  go false e = λ none. others other e ∙ asked other (sym (ap askers_or_none (others other e)) ∙ none)

-- ---- lists with a place

ends_with-last : (t : ℕ) (xs : List ℕ) → ends_with t (with_last t xs) ≡ true
ends_with-last t xs = go (ends_with t xs) refl where
  go : (b : Bool) → ends_with t xs ≡ b → ends_with t (cond b xs (xs ++ t ∷ [])) ≡ true
  go true e = e
  go false e = ends-last t xs

-- if a list could end with a ticket, it still can
pub may_step : (t : ℕ) (b : Bool) (first now : Option (Vec ℕ Global)) → askers_or_none now ≡ with_last_if b t (askers_or_none first) → (b ≡ false → now ≡ first)
    → may_enter t first ≡ true → may_enter t now ≡ true
may_step t true first now e others h = or_right (has_place now) (ends_with t (askers_or_none now)) (ap (ends_with t) e ∙ ends_with-last t (askers_or_none first))
may_step t false first now e others h = ap (may_enter t) (others refl) ∙ h

pub place_step : {V : Type 0} (P : V → Type 0) (b c : Bool) (now next : V) → (c ≡ true → P next) → (c ≡ false → next ≡ now) → (b ≡ true → P now) → (b || c) ≡ true → P next
place_step P b true now next here others so_far h = here refl
place_step P true false now next here others so_far h = subst P (sym (others refl)) (so_far refl)
place_step P false false now next here others so_far h = absurd (cc)

pub others_step : {V : Type 0} (b c : Bool) (first now next : V) → (b ≡ false → now ≡ first) → (c ≡ false → next ≡ now) → (b || c) ≡ false → next ≡ first
others_step true c first now next so_far others h = absurd (cc)
others_step false c first now next so_far others h = others h ∙ so_far refl

trimmed-again : (o : Option (Vec ℕ Global)) → trim_list (trim_list o) ≡ trim_list o
trimmed-again None = refl
trimmed-again (Some v) = go (is_empty v.items) refl where
  go : (b : Bool) → is_empty v.items ≡ b → trim_list (cond b None (Some v)) ≡ cond b None (Some v)
  go true e = refl
  go false e = ap (λ (b : Bool). cond b None (Some v)) e

pub trimmed_twice : (b c : Bool) (o : Option (Vec ℕ Global)) → trim_list_if c (trim_list_if b o) ≡ trim_list_if (b || c) o
trimmed_twice true true o = trimmed-again o
trimmed_twice true false o = refl
trimmed_twice false c o = refl

-- ---- the checks of the children of a test

keys_last : (ts : List Test) (t : Test) → flat_map check_keys (ts ++ t ∷ []) ≡ flat_map check_keys ts ++ check_keys t
keys_last ts t = flat_map-append check_keys ts (t ∷ []) ∙ ap (λ (ks : List CheckKey). flat_map check_keys ts ++ ks) (append-nil (check_keys t))

keys_more : (of : List Test) (i : ℕ) (d : Test) → i < length of → flat_map check_keys (take (i + 1) of) ≡ flat_map check_keys (take i of) ++ check_keys (get_or of i d)
keys_more of i d lt = ap (flat_map check_keys) (take_more of i d lt) ∙ keys_last (take i of) (get_or of i d)

pub asked_more : (of : List Test) (i : ℕ) (d : Test) (q : CheckKey) → i < length of
    → is_asked (flat_map check_keys (take (i + 1) of)) q ≡ (is_asked (flat_map check_keys (take i of)) q || is_asked (check_keys (get_or of i d)) q)
asked_more of i d q lt =
    ap (λ (ks : List CheckKey). is_asked ks q) (keys_more of i d lt)
    ∙ list_any-append (λ key. same_key key q) (flat_map check_keys (take i of)) (check_keys (get_or of i d))

pub asked_step : (of : List Test) (i : ℕ) (child : Test) → i < length of → child ≡ get_or of i child → (q : CheckKey)
    → is_asked (flat_map check_keys (take (i + 1) of)) q ≡ (is_asked (flat_map check_keys (take i of)) q || is_asked (check_keys child) q)
asked_step of i child lt is q = asked_more of i child q lt ∙ ap (λ (t : Test). is_asked (flat_map check_keys (take i of)) q || is_asked (check_keys t) q) (sym is)

-- a step for the children so far, and then for one more, is that step for all of these
pub with_child : {X : Type 0} (done : Bool → X → X) → ((b c : Bool) (xs : X) → done c (done b xs) ≡ done (b || c) xs)
    → (of : List Test) (i : ℕ) (child : Test) → i < length of → child ≡ get_or of i child → (q : CheckKey) (old now next : X)
    → now ≡ done (is_asked (flat_map check_keys (take i of)) q) old → next ≡ done (is_asked (check_keys child) q) now
    → next ≡ done (is_asked (flat_map check_keys (take (i + 1) of)) q) old
with_child done twice of i child lt is q old now next so_far here =
    let prefix = is_asked (flat_map check_keys (take i of)) q in
    let more = asked_step of i child lt is q in
    here
    ∙ ap (done (is_asked (check_keys child) q)) so_far
    ∙ twice prefix (is_asked (check_keys child) q) old
    ∙ ap (λ (b : Bool). done b old) (sym more)

asked_prefix : (of : List Test) (k : ℕ) (q : CheckKey) → is_asked (flat_map check_keys (take k of)) q ≡ true → is_asked (flat_map check_keys of) q ≡ true
asked_prefix of zero q h = absurd (let wrong : false ≡ true = h in cc)
asked_prefix [] (suc k) q h = absurd (let wrong : false ≡ true = h in cc)
asked_prefix (t ∷ of) (suc k) q h =
    list_any-append (λ key. same_key key q) (check_keys t) (flat_map check_keys of)
    ∙ go (is_asked (check_keys t) q) (sym (list_any-append (λ key. same_key key q) (check_keys t) (flat_map check_keys (take k of))) ∙ h) (asked_prefix of k q)
  where
    go : (b : Bool) → (b || is_asked (flat_map check_keys (take k of)) q) ≡ true
        → (is_asked (flat_map check_keys (take k of)) q ≡ true → is_asked (flat_map check_keys of) q ≡ true) → (b || is_asked (flat_map check_keys of) q) ≡ true
    go true h more = refl
    go false h more = more h

pub none_prefix : (of : List Test) (k : ℕ) (q : CheckKey) → is_asked (flat_map check_keys of) q ≡ false → is_asked (flat_map check_keys (take k of)) q ≡ false
none_prefix of k q h = go (is_asked (flat_map check_keys (take k of)) q) refl where
  go : (b : Bool) → is_asked (flat_map check_keys (take k of)) q ≡ b → b ≡ false
  go true e = sym (asked_prefix of k q e) ∙ h
  go false e = refl

-- the test asks for each check of a child, and of the children before it
pub asked_within : (of : List Test) (i : ℕ) (d : Test) (q : CheckKey) (w : Bool) → i < length of → (w ≡ true → is_asked (check_keys (get_or of i d)) q ≡ true)
    → (is_asked (flat_map check_keys (take i of)) q || w) ≡ true → is_asked (flat_map check_keys of) q ≡ true
asked_within of i d q w lt child h =
    asked_prefix of (i + 1) q (asked_more of i d q lt ∙ go (is_asked (flat_map check_keys (take i of)) q) w h child)
  where
    go : (b w : Bool) → (b || w) ≡ true → (w ≡ true → is_asked (check_keys (get_or of i d)) q ≡ true) → (b || is_asked (check_keys (get_or of i d)) q) ≡ true
    go true w h child = refl
    go false w h child = child h

-- ---- a child is less deep than the test

child_depth : (of : List Test) (i : ℕ) (d : Test) → i < length of → depth_of (get_or of i d) ≤ largest (map depth_of of)
child_depth [] i d lt = absurd (omega (arith, lt))
child_depth (t ∷ of) zero d lt = omega arith
child_depth (t ∷ of) (suc i) d lt = let more = child_depth of i d (omega (arith, lt)) in omega (arith, more)

pub depth_falls : (operator : Operator) (negate : Bool) (of : List Test) (i : ℕ) (d : Test) → i < length of → depth_of (get_or of i d) < depth_of (Logic operator negate of)
depth_falls operator negate of i d lt = omega (arith, depth-logic operator negate of, child_depth of i d lt)

-- ---- the first check, and whether it is the only one

pub none_first : (ks : List CheckKey) → slice_get ks 0 ≡ None → ks ≡ []
none_first [] h = refl
none_first (k ∷ ks) h = let wrong : ⊥ = cc in absurd wrong

-- if the children before have no key, and the next one has none, there is none so far
pub none_more : (of : List Test) (i : ℕ) (d : Test) → i < length of → flat_map check_keys (take i of) ≡ [] → check_keys (get_or of i d) ≡ []
    → flat_map check_keys (take (i + 1) of) ≡ []
none_more of i d lt prefix next = keys_more of i d lt ∙ (λ j. prefix j ++ next j)

-- if the children before have no key, the first key of the next one is the first of all
pub first_next : (of : List Test) (i : ℕ) (d : Test) (k : CheckKey) → i < length of → flat_map check_keys (take i of) ≡ [] → Some k ≡ slice_get (check_keys (get_or of i d)) 0
    → Some k ≡ slice_get (flat_map check_keys of) 0
first_next [] i d k lt prefix next = absurd (omega (arith, lt))
first_next (t ∷ of) zero d k lt prefix next = go (check_keys t) next where
  go : (ks : List CheckKey) → Some k ≡ slice_get ks 0 → Some k ≡ slice_get (ks ++ flat_map check_keys of) 0
  go [] h = let wrong : ⊥ = cc in absurd wrong
  go (x ∷ ks) h = h
first_next (t ∷ of) (suc i) d k lt prefix next = go (check_keys t) prefix (λ h. first_next of i d k (omega (arith, lt)) h next) where
  go : (ks : List CheckKey) → ks ++ flat_map check_keys (take i of) ≡ [] → (flat_map check_keys (take i of) ≡ [] → Some k ≡ slice_get (flat_map check_keys of) 0)
      → Some k ≡ slice_get (ks ++ flat_map check_keys of) 0
  go [] h more = more h
  go (x ∷ ks) h more = let wrong : ⊥ = cc in absurd wrong

pub all_more : (p : CheckKey → Bool) (of : List Test) (i : ℕ) (d : Test) → i < length of → list_all p (flat_map check_keys (take i of)) ≡ true → list_all p (check_keys (get_or of i d)) ≡ true
    → list_all p (flat_map check_keys (take (i + 1) of)) ≡ true
all_more p of i d lt prefix next =
    ap (list_all p) (keys_more of i d lt)
    ∙ list_all-append p (flat_map check_keys (take i of)) (check_keys (get_or of i d))
    ∙ (λ j. prefix j && next j)

pub all_fail : (p : CheckKey → Bool) (of : List Test) (i : ℕ) (d : Test) → i < length of → list_all p (check_keys (get_or of i d)) ≡ false → list_all p (flat_map check_keys of) ≡ false
all_fail p [] i d lt next = absurd (omega (arith, lt))
all_fail p (t ∷ of) zero d lt next = list_all-append p (check_keys t) (flat_map check_keys of) ∙ ap (λ (b : Bool). b && list_all p (flat_map check_keys of)) next
all_fail p (t ∷ of) (suc i) d lt next =
    list_all-append p (check_keys t) (flat_map check_keys of) ∙ go (list_all p (check_keys t)) (all_fail p of i d (omega (arith, lt)) next)
  where
    go : (b : Bool) → list_all p (flat_map check_keys of) ≡ false → (b && list_all p (flat_map check_keys of)) ≡ false
    go true h = h
    go false h = refl

-- the first is like itself
pub one_of_all : (ks : List CheckKey) (k : CheckKey) → Some k ≡ slice_get ks 0 → list_all (same_key k) ks ≡ asks_one ks
one_of_all [] k h = let wrong : ⊥ = cc in absurd wrong
one_of_all (x ∷ ks) k h =
    let is : k ≡ x = cc in
    ap (λ (y : CheckKey). list_all (same_key y) (x ∷ ks)) is ∙ ap (λ (b : Bool). b && list_all (same_key x) ks) (key_same x)

pub none_of_all : (ks : List CheckKey) → None ≡ slice_get ks 0 → false ≡ asks_one ks
none_of_all [] h = refl
none_of_all (x ∷ ks) h = let wrong : ⊥ = cc in absurd wrong
