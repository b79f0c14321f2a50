-- Lemmas: a search finds exactly the numbers to which paths lead.
use Rattle.std.proofs.Common.{◌≡◌, ◌⊎◌, ℕ, ◌+◌, ◌-◌, ◌<◌, ◌≤◌, true, List, [], ◌∷◌, ◌++◌, length, take, get_or, sym, ap, subst, inl, inr, arith}
use Rattle.std.specs.List.{Contains}
use Rattle.std.specs.Ordering.{nat_cmp}
use Rattle.std.specs.BTreeSet as set
use Rattle.std.specs.BTreeSet.{BTreeSet}
use Rattle.std.specs.Cmp.{nat_cmp_total}
use Rattle.std.proofs.lemmas.List.{take_more, length_push}
use Rattle.std.proofs.lemmas.List.Elements.{Contains-append_left, Contains-append_right, Contains-append_cases, Contains-push, Contains-push_cases}
use Rattle.std.proofs.lemmas.Map.Keys.{IsStrictlyIncreasing-from_sorted}
use Rattle.std.proofs.lemmas.Map.Lookups.{exact_unsigned}
use Rattle.std.proofs.lemmas.Map.Views.{btree_set_contains_iff}
use Rattle.deprecation_graph.specs.Paths.{HasEdge, Leads, IsClosed}
use Rattle.deprecation_graph.specs.Chains.{IsChain}
use Rattle.deprecation_graph.specs.Searches.{has_number_in, Visits, IsReached}
use Rattle.deprecation_graph.proofs.Rising.{length-le_range}
use Rattle.deprecation_graph.proofs.PathLemmas.{Leads-then, Leads-forth, Leads-below}

-- ---- visits of numbers, one by one

pub Visits-none : (s : BTreeSet ℕ) (todo : List ℕ) → Visits s s todo todo []
Visits-none s todo = record {
  kept = λ x h. h;
  visited = λ x c. absurd (omega (arith, c.1));
  only = λ x h. inl h;
  waits = λ x c. c;
  fresh = λ x h. inl h;
  found = λ x c. inl c;
  work = omega arith;
}

pub Visits-then : {s m n : BTreeSet ℕ} {todo more most ys zs : List ℕ} → Visits s m todo more ys → Visits m n more most zs → Visits s n todo most (ys ++ zs)
Visits-then {s} {m} {n} {todo} {more} {most} {ys} {zs} h k = record {
  kept = λ x e. k.kept x (h.kept x e);
  visited = λ x c. elim (Contains-append_cases ys zs x c) [ inl d ↦ k.kept x (h.visited x d) | inr d ↦ k.visited x d ];
  only = λ x e. elim (k.only x e) [
    | inl f ↦ elim (h.only x f) [ inl g ↦ inl g | inr c ↦ inr (Contains-append_left ys zs x c) ]
    | inr c ↦ inr (Contains-append_right ys zs x c)
  ];
  waits = λ x c. k.waits x (h.waits x c);
  fresh = λ x e. elim (k.fresh x e) [
    | inl f ↦ elim (h.fresh x f) [ inl g ↦ inl g | inr c ↦ inr (k.waits x c) ]
    | inr c ↦ inr c
  ];
  found = λ x c. elim (k.found x c) [
    | inl d ↦ elim (h.found x d) [ inl e ↦ inl e | inr e ↦ inr (k.kept x e) ]
    | inr e ↦ inr e
  ];
  work = omega (arith, h.work, k.work);
}

-- the step of a loop: the next number of a list is visited
pub Visits-more : {s m n : BTreeSet ℕ} {todo more most : List ℕ} (ys : List ℕ) (i d : ℕ) → i < length ys → Visits s m todo more (take i ys) → Visits m n more most (get_or ys i d ∷ []) → Visits s n todo most (take (i + 1) ys)
Visits-more {s} {m} {n} {todo} {more} {most} ys i d lt h k = subst (Visits s n todo most) (sym (take_more ys i d lt)) (Visits-then h k)

-- ---- the search: its state, step by step

module _ (next : ℕ → List ℕ) (start : ℕ) where
  -- the state of the search: paths lead to all found numbers, and a found number waits in `todo` or has its successors
  -- found
  pub record Explores (found : BTreeSet ℕ) (todo : List ℕ) : Type 0 where
    pub started : has_number_in found start ≡ true
    pub led : (x : ℕ) → has_number_in found x ≡ true → Leads next start x
    pub waiting : (x : ℕ) → Contains todo x → has_number_in found x ≡ true
    pub closed : (x : ℕ) → has_number_in found x ≡ true → Contains todo x ⊎ ((y : ℕ) → HasEdge next x y → has_number_in found y ≡ true)

  -- the last number of `todo` is read, and its successors are visited
  pub explore_step : {s n : BTreeSet ℕ} {todo more : List ℕ} (at : ℕ) → Explores s (todo ++ at ∷ []) → Visits s n todo more (next at) → Explores n more
  explore_step {s} {n} {todo} {more} at h v = record {
    started = v.kept start h.started;
    led = λ x e. elim (v.only x e) [ inl f ↦ h.led x f | inr edge ↦ Leads-then (h.led at (h.waiting at (Contains-push todo at))) edge ];
    waiting = λ x c. elim (v.found x c) [ inl d ↦ v.kept x (h.waiting x (Contains-append_left todo (at ∷ []) x d)) | inr e ↦ e ];
    closed = λ x e. elim (v.fresh x e) [
      | inl f ↦ elim (h.closed x f) [
        | inl c ↦ elim (Contains-push_cases todo at x c) [ inl d ↦ inl (v.waits x d) | inr same ↦ inr (λ y edge. v.visited y (subst (λ (z : ℕ). HasEdge next z y) (sym same) edge)) ]
        | inr all ↦ inr (λ y edge. v.kept y (all y edge))
      ]
      | inr c ↦ inl c
    ];
  }

  explored : {s : BTreeSet ℕ} → Explores s [] → (x : ℕ) → Leads next start x → has_number_in s x ≡ true
  explored {s} h x l = Leads-forth (λ z. has_number_in s z ≡ true) (λ a c edge e. elim (h.closed a e) [ inl d ↦ absurd (omega (arith, d.1)) | inr all ↦ all c edge ]) l h.started

  pub explore_end : {s : BTreeSet ℕ} → set.IsOrdered nat_cmp s → Explores s [] → IsReached next start s
  explore_end {s} ordered h = record { ordered = ordered; members = λ x. (h.led x, explored h x) }

has_iff : (s : BTreeSet ℕ) (x : ℕ) → (has_number_in s x ≡ true → Contains s.keys x) × (Contains s.keys x → has_number_in s x ≡ true)
has_iff s x = let h = btree_set_contains_iff nat_cmp_total exact_unsigned s x in (h.0, h.1)

-- a search finds at most `count` numbers
pub found_few : (next : ℕ → List ℕ) (count start : ℕ) (s : BTreeSet ℕ) (todo : List ℕ) → IsClosed next count → start < count → set.IsOrdered nat_cmp s → Explores next start s todo → length s.keys ≤ count
found_few next count start s todo ok lt ordered h =
    length-le_range s.keys count (IsStrictlyIncreasing-from_sorted s.keys ordered) (λ x c. Leads-below ok lt (h.led x ((has_iff s x).1 c)))

pub reached_is_chain : (next : ℕ → List ℕ) (start : ℕ) (s : BTreeSet ℕ) → IsReached next start s → IsChain next start s.keys
reached_is_chain next start s h = record {
  rising = IsStrictlyIncreasing-from_sorted s.keys h.ordered;
  members = λ x. (λ c. (h.members x).0 ((has_iff s x).1 c), λ l. (has_iff s x).0 ((h.members x).1 l));
}

-- ---- a turn of the search: the last waiting number is removed, and its successors are visited

pub turn_below : (next : ℕ → List ℕ) (count start at : ℕ) (todo : List ℕ) {s : BTreeSet ℕ} {waits : List ℕ} → IsClosed next count → start < count → waits ≡ todo ++ at ∷ [] → Explores next start s waits → at < count
turn_below next count start at todo {s} {waits} ok lt e h = Leads-below ok lt (h.led at (h.waiting at (subst (λ (xs : List ℕ). Contains xs at) (sym e) (Contains-push todo at))))

pub turn_explores : (next : ℕ → List ℕ) (start at : ℕ) {s n : BTreeSet ℕ} {waits todo more ys : List ℕ} → waits ≡ todo ++ at ∷ [] → ys ≡ next at → Explores next start s waits → Visits s n todo more ys → Explores next start n more
turn_explores next start at {s} {n} {waits} {todo} {more} {ys} e f h v = explore_step next start at (subst (Explores next start s) e h) (subst (Visits s n todo more) f v)

-- a turn lowers the work: the count of numbers that aren't found, and of those that wait
pub turn_smaller : (count at : ℕ) {s n : BTreeSet ℕ} {waits todo more ys : List ℕ} → length n.keys ≤ count → waits ≡ todo ++ at ∷ [] → Visits s n todo more ys → count + length more - length n.keys < count + length waits - length s.keys
turn_smaller count at {s} {n} {waits} {todo} {more} {ys} few e v = omega (arith, few, v.work, ap length e, length_push todo at)
