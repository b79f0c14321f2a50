-- Lemmas: one attribute more of a list is read.
use Rattle.std.proofs.Common.{◌≡◌, ℕ, suc, ◌+◌, ◌-◌, ◌<◌, ◌≤◌, List, Option, Some, None, refl, sym, ap, subst, ◌∙◌, arith}
use Rattle.cpe_name.specs.Scanning.{◌>>?◌, step_at, go_on, list_at}

step_is : (n : ℕ) (l : List (List ℕ)) (s : List ℕ) → list_at (suc n) l s ≡ (step_at l s >>? λ x. go_on x.1 x.0 (list_at n x.0))
unfolding list_at
step_is n l s = refl

none_left : (l : List (List ℕ)) (s : List ℕ) → list_at 0 l s ≡ None
unfolding list_at
none_left l s = refl

one_less : (k : ℕ) → k < 11 → 11 - k ≡ suc (11 - (k + 1))
one_less k h = omega (arith, h)

at_left : (k : ℕ) (l : List (List ℕ)) (s : List ℕ) (x : Option (List (List ℕ))) → k < 11 → list_at (11 - k) l s ≡ x → list_at (suc (11 - (k + 1))) l s ≡ x
at_left k l s x h e = subst (λ (n : ℕ). list_at n l s ≡ x) (one_less k h) e

-- if another attribute follows, the rest of the list decides the result
pub kept : (k : ℕ) (l m : List (List ℕ)) (s t : List ℕ) (x : Option (List (List ℕ))) → k < 11 → list_at (11 - k) l s ≡ x → step_at l s ≡ Some (m, Some t) → list_at (11 - (k + 1)) m t ≡ x
kept k l m s t x h e step =
    let more : list_at (suc (11 - (k + 1))) l s ≡ list_at (11 - (k + 1)) m t = step_is (11 - (k + 1)) l s ∙ rw step refl in
    sym more ∙ at_left k l s x h e

-- if the list ends, it is read
pub ended : (k : ℕ) (l m : List (List ℕ)) (s : List ℕ) (x : Option (List (List ℕ))) → k < 11 → list_at (11 - k) l s ≡ x → step_at l s ≡ Some (m, None) → x ≡ Some m
ended k l m s x h e step =
    let more : list_at (suc (11 - (k + 1))) l s ≡ Some m = step_is (11 - (k + 1)) l s ∙ rw step refl in
    sym (at_left k l s x h e) ∙ more

-- if no attribute is found, the list is not read
pub stopped : (k : ℕ) (l : List (List ℕ)) (s : List ℕ) (x : Option (List (List ℕ))) → k < 11 → list_at (11 - k) l s ≡ x → step_at l s ≡ None → x ≡ None
stopped k l s x h e step =
    let more : list_at (suc (11 - (k + 1))) l s ≡ None = step_is (11 - (k + 1)) l s ∙ rw step refl in
    sym (at_left k l s x h e) ∙ more

-- a list of more than eleven attributes is not read
pub over : (k : ℕ) (l : List (List ℕ)) (s : List ℕ) (x : Option (List (List ℕ))) → 11 ≤ k → list_at (11 - k) l s ≡ x → x ≡ None
over k l s x h e = let none : 11 - k ≡ 0 = omega (arith, h) in sym e ∙ ap (λ (n : ℕ). list_at n l s) none ∙ none_left l s
