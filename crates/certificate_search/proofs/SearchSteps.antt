-- Lemmas: the search for a path to an end, from step to step.
use Rattle.std.proofs.Common.{◌≡◌, ◌⊎◌, ◌&&◌, ◌||◌, inl, inr, ℕ, suc, ◌+◌, ◌<◌, ◌≤◌, List, [], ◌∷◌, ◌++◌, Bool, true, false, map, length, reverse, if◌then◌else◌, refl, ap, sym, ◌∙◌, subst, arith}
use Rattle.std.specs.List.{list_any}
use Rattle.std.proofs.lemmas.List.{reverse-append, reverse-reverse}
use Rattle.cpe_rows.specs.cpe_name.Eleven.{Values}
use Rattle.cpe_rows.specs.Names.{is_same}
use Rattle.cpe_rows.specs.Reach.{Among}
use Rattle.cpe_rows.specs.Rows.{is_named}
use Rattle.cpe_rows.specs.Chains.{successors_of}
use Rattle.cpe_rows.specs.Lawful.{is_cyclic}
use Rattle.cpe_rows.specs.declared.entry.Entry.{Entry}
use Rattle.cpe_rows.proofs.NameTests.{same_is}
use Rattle.certificate_check.specs.Leading.{next_of, is_end_of, AreLinkedEntries}
use Rattle.certificate_check.specs.Seen.{with_seen_name}
use Rattle.certificate_check.proofs.Elements.{listed_decides, name_was}
use Rattle.certificate_check.proofs.Links.{found_some, next_found, next_known}
use Rattle.certificate_search.specs.Choices.{leads_to_end, trace_to}
use Rattle.certificate_search.specs.Steps.{Step, step_to, with_step}
use Rattle.certificate_search.proofs.Ways.{stays}
use Rattle.certificate_search.proofs.SearchPaths.{name_of, IsTried, LeadTo, IsPathSoFar, AreSettled, leads_not, seen_again, dropped, still_settled, arrived}

reverse_last : {A : Type 0} (xs : List A) (x : A) → reverse (xs ++ x ∷ []) ≡ x ∷ reverse xs
reverse_last xs x = reverse-append xs (x ∷ [])

-- ---- the path

-- the state of the search
pub record IsSearch (es : List Entry) (to from : Values) (steps : List Step) (seen : List Values) : Type 0 where
  pub path : IsPathSoFar es to from (reverse steps)
  pub settled : AreSettled es to from (reverse steps) seen

module _ (es : List Entry) (to from : Values) where
  pub search_starts : (steps : List Step) (seen : List Values) → steps ≡ step_to es from ∷ [] → seen ≡ [] → IsSearch es to from steps seen
  search_starts steps seen e f =
      subst (λ (xs : List Step). IsSearch es to from xs seen) (sym e)
      (subst (λ (ns : List Values). IsSearch es to from (step_to es from ∷ []) ns) (sym f)
      (record { path = ((refl, λ m k. k), refl); settled = λ m k. absurd k }))

module _ (es : List Entry) (ok : AreLinkedEntries es) (acyclic : list_any (is_cyclic es) es ≡ false) (to from : Values) where
  pub search_fails : (seen : List Values) → IsSearch es to from [] seen → from ∷ [] ≡ trace_to es to from
  search_fails seen so_far = ap (λ (w : List Values). from ∷ w) (sym (stays es ok acyclic (length es) to from so_far.path))

  module _ (xs : List Step) (s : Step) (seen : List Values) (so_far : IsSearch es to from (xs ++ s ∷ []) seen) where
    path_before : IsPathSoFar es to from (s ∷ reverse xs)
    path_before = subst (IsPathSoFar es to from) (reverse_last xs s) so_far.path

    settled_before : AreSettled es to from (s ∷ reverse xs) seen
    settled_before = subst (λ (ss : List Step). AreSettled es to from ss seen) (reverse_last xs s) so_far.settled

    pub search_ends : (is_same s.name to && is_end_of es s.name) ≡ true → map name_of xs ++ s.name ∷ [] ≡ trace_to es to from
    search_ends here =
        ap (λ (ss : List Step). map name_of ss ++ s.name ∷ []) (sym (reverse-reverse xs))
        ∙ arrived es ok acyclic to from s (reverse xs) path_before.1 here

    pub search_drops : s.left ≡ [] → (is_same s.name to && is_end_of es s.name) ≡ false → IsSearch es to from xs seen
    search_drops none other =
        let tried : IsTried es to from s.name [] = subst (IsTried es to from s.name) none path_before.0 in
        let f : leads_to_end es to s.name ≡ false = leads_not es ok acyclic to from s.name tried.0 other in
        record {
          path = dropped es ok acyclic to from s (reverse xs) tried path_before.1 f;
          settled = still_settled es ok acyclic to from s (reverse xs) seen settled_before f;
        }

    -- the step without its next successor
    module _ (x : Values) (left : List Values) (first : s.left ≡ x ∷ left) where
      abbrev rest : Step
      rest = record { name = s.name; left = left }

      leads_there : LeadTo es to from (rest ∷ reverse xs) x
      leads_there = (subst (IsTried es to from s.name) first path_before.0, path_before.1)

      again : list_any (is_same x) seen ≡ true → IsSearch es to from (xs ++ rest ∷ []) (with_seen_name seen x)
      again h =
          let known : Among seen x = (listed_decides x seen).0 h in
          let all : AreSettled es to from (rest ∷ reverse xs) (with_seen_name seen x) = λ m k. elim (name_was seen x m k) [
            | inl g ↦ settled_before m g
            | inr e ↦ subst (λ y. Among (map name_of (rest ∷ reverse xs)) y ⊎ (leads_to_end es to y ≡ false)) e (settled_before x known)
          ] in
          record {
            path = subst (IsPathSoFar es to from) (sym (reverse_last xs rest))
                (seen_again es ok acyclic to from s (reverse xs) seen x left leads_there settled_before known);
            settled = subst (λ (ss : List Step). AreSettled es to from ss (with_seen_name seen x)) (sym (reverse_last xs rest)) all;
          }

      turned : reverse ((xs ++ rest ∷ []) ++ step_to es x ∷ []) ≡ step_to es x ∷ rest ∷ reverse xs
      turned = reverse_last (xs ++ rest ∷ []) (step_to es x) ∙ ap (λ (ss : List Step). step_to es x ∷ ss) (reverse_last xs rest)

      entered : IsSearch es to from ((xs ++ rest ∷ []) ++ step_to es x ∷ []) (with_seen_name seen x)
      entered =
          let all : AreSettled es to from (step_to es x ∷ rest ∷ reverse xs) (with_seen_name seen x) = λ m k. elim (name_was seen x m k) [
            | inl g ↦ elim (settled_before m g) [ inl on ↦ inl (inr on) | inr f ↦ inr f ]
            | inr e ↦ inl (inl e)
          ] in
          record {
            path = subst (IsPathSoFar es to from) (sym turned) ((refl, λ m k. k), leads_there);
            settled = subst (λ (ss : List Step). AreSettled es to from ss (with_seen_name seen x)) (sym turned) all;
          }

      tried : IsSearch es to from (with_step es seen (xs ++ rest ∷ []) x) (with_seen_name seen x)
      tried = go (list_any (is_same x) seen) refl where
        go : (b : Bool) → list_any (is_same x) seen ≡ b
            → IsSearch es to from (if b then xs ++ rest ∷ [] else (xs ++ rest ∷ []) ++ step_to es x ∷ []) (with_seen_name seen x)
        go true h = again h
        go false h = entered

      pub search_goes : (ys : List Step) (now_seen : List Values) → ys ≡ with_step es seen (xs ++ rest ∷ []) x → now_seen ≡ with_seen_name seen x
          → IsSearch es to from ys now_seen
      search_goes ys now_seen e f =
          subst (λ (ss : List Step). IsSearch es to from ss now_seen) (sym e)
          (subst (λ (ns : List Values). IsSearch es to from (with_step es seen (xs ++ rest ∷ []) x) ns) (sym f) tried)

-- ---- the search ends

-- one for each step, and one for each successor that is still to be tried
pub still_left : List Step → ℕ
still_left [] = 0
still_left (s ∷ steps) = suc (length s.left) + still_left steps

-- the same, for the steps to names that were not seen
pub unseen : List Entry → List Values → ℕ
unseen [] seen = 0
unseen (e ∷ es) seen = (if list_any (is_same e.name) seen then 0 else suc (length (successors_of e))) + unseen es seen

-- how many times the search still goes on, at most
pub work : List Entry → List Step → List Values → ℕ
work es steps seen = unseen es seen + still_left steps

left_last : (xs : List Step) (s : Step) → still_left (xs ++ s ∷ []) ≡ still_left xs + suc (length s.left)
unfolding still_left
left_last [] s = omega arith
left_last (x ∷ xs) s = omega (arith, left_last xs s)

any_last : (n x : Values) (seen : List Values) → list_any (is_same n) (seen ++ x ∷ []) ≡ (list_any (is_same n) seen || is_same n x)
any_last n x [] = go (is_same n x) where
  go : (b : Bool) → (b || false) ≡ b
  go true = refl
  go false = refl
any_last n x (y ∷ seen) = go (is_same n y) (any_last n x seen) where
  go : (b : Bool) → list_any (is_same n) (seen ++ x ∷ []) ≡ (list_any (is_same n) seen || is_same n x)
      → (b || list_any (is_same n) (seen ++ x ∷ [])) ≡ ((b || list_any (is_same n) seen) || is_same n x)
  go true h = refl
  go false h = h

-- what an entry counts: 0 if its name was seen
abbrev counted : Bool → Entry → ℕ
counted b e = if b then 0 else suc (length (successors_of e))

module _ (seen : List Values) (x : Values) where
  not_more : (es : List Entry) → unseen es (seen ++ x ∷ []) ≤ unseen es seen
  unfolding unseen
  not_more [] = omega arith
  not_more (e ∷ es) =
      let rest = not_more es in
      let one : counted (list_any (is_same e.name) (seen ++ x ∷ [])) e ≤ counted (list_any (is_same e.name) seen) e
      = subst (λ (b : Bool). counted b e ≤ counted (list_any (is_same e.name) seen) e) (sym (any_last e.name x seen)) (go (list_any (is_same e.name) seen) (is_same e.name x)) in
      omega (arith, rest, one) where
        go : (a b : Bool) → counted (a || b) e ≤ counted a e
        go true b = omega arith
        go false true = omega arith
        go false false = omega arith

  fewer : (es : List Entry) (e : Entry) → Among es e → e.name ≡ x → list_any (is_same x) seen ≡ false
      → unseen es (seen ++ x ∷ []) + suc (length (successors_of e)) ≤ unseen es seen
  unfolding unseen
  fewer [] e m is new = absurd m
  fewer (d ∷ es) e (inl h) is new =
      let rest = not_more es in
      let named : d.name ≡ x = ap (λ (f : Entry). f.name) h ∙ is in
      let old : list_any (is_same d.name) seen ≡ false = ap (λ n. list_any (is_same n) seen) named ∙ new in
      let more : list_any (is_same d.name) (seen ++ x ∷ []) ≡ true
      = any_last d.name x seen ∙ (ap (λ b. b || is_same d.name x) old ∙ (same_is d.name x).1 named) in
      let now_none : counted (list_any (is_same d.name) (seen ++ x ∷ [])) d ≡ 0 = ap (λ b. counted b d) more in
      let was : counted (list_any (is_same d.name) seen) d ≡ suc (length (successors_of d)) = ap (λ b. counted b d) old in
      let same : length (successors_of d) ≡ length (successors_of e) = ap (λ (f : Entry). length (successors_of f)) h in
      omega (arith, rest, now_none, was, same)
  fewer (d ∷ es) e (inr k) is new =
      let rest = fewer es e k is new in
      let one : counted (list_any (is_same d.name) (seen ++ x ∷ [])) d ≤ counted (list_any (is_same d.name) seen) d
      = subst (λ (b : Bool). counted b d ≤ counted (list_any (is_same d.name) seen) d) (sym (any_last d.name x seen)) (go (list_any (is_same d.name) seen) (is_same d.name x)) in
      omega (arith, rest, one) where
        go : (a b : Bool) → counted (a || b) d ≤ counted a d
        go true b = omega arith
        go false true = omega arith
        go false false = omega arith

module _ (es : List Entry) (xs : List Step) (s : Step) (seen : List Values) where
  pub less_dropped : work es xs seen < work es (xs ++ s ∷ []) seen
  unfolding work
  less_dropped = omega (arith, left_last xs s)

  module _ (x : Values) (left : List Values) (first : s.left ≡ x ∷ left) (known : list_any (is_named x) es ≡ true) where
    abbrev one_less : Step
    one_less = record { name = s.name; left = left }

    was_left : still_left (xs ++ s ∷ []) ≡ still_left xs + suc (suc (length left))
    was_left = left_last xs s ∙ ap (λ (ns : List Values). still_left xs + suc (length ns)) first

    less_at : (b : Bool) → list_any (is_same x) seen ≡ b
        → work es (if b then xs ++ one_less ∷ [] else (xs ++ one_less ∷ []) ++ step_to es x ∷ []) (if b then seen else seen ++ x ∷ []) < work es (xs ++ s ∷ []) seen
    unfolding work
    less_at true h = omega (arith, was_left, left_last xs one_less)
    less_at false h =
        let f = found_some x es known in
        let next : length (next_of es x) ≡ length (successors_of f.0) = ap (λ (ns : List Values). length ns) (next_found es x f.0 f.3) in
        let paid = fewer seen x es f.0 f.1 f.2 h in
        omega (arith, was_left, left_last xs one_less, left_last (xs ++ one_less ∷ []) (step_to es x), next, paid)

    less_tried : work es (with_step es seen (xs ++ one_less ∷ []) x) (with_seen_name seen x) < work es (xs ++ s ∷ []) seen
    less_tried = less_at (list_any (is_same x) seen) refl

    pub less_goes : (ys : List Step) (now_seen : List Values) → ys ≡ with_step es seen (xs ++ one_less ∷ []) x → now_seen ≡ with_seen_name seen x
        → work es ys now_seen < work es (xs ++ s ∷ []) seen
    less_goes ys now_seen e f =
        subst (λ (ss : List Step). work es ss now_seen < work es (xs ++ s ∷ []) seen) (sym e)
        (subst (λ (ns : List Values). work es (with_step es seen (xs ++ one_less ∷ []) x) ns < work es (xs ++ s ∷ []) seen) (sym f) less_tried)

-- the next successor of a name that was reached is the name of an entry
pub next_is_known : (es : List Entry) (ok : AreLinkedEntries es) (to from : Values) (xs : List Step) (s : Step) (seen : List Values) (x : Values) (left : List Values)
    → IsSearch es to from (xs ++ s ∷ []) seen → s.left ≡ x ∷ left → list_any (is_named x) es ≡ true
next_is_known es ok to from xs s seen x left so_far first =
    let path : IsPathSoFar es to from (s ∷ reverse xs) = subst (IsPathSoFar es to from) (reverse_last xs s) so_far.path in
    let tried : IsTried es to from s.name (x ∷ left) = subst (IsTried es to from s.name) first path.0 in
    next_known es ok s.name x (tried.1 x (inl refl))
