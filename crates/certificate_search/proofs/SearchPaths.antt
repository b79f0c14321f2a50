-- Lemmas: the search for a path to an end. The steps are listed last first.
use Rattle.std.proofs.Common.{◌≡◌, ◌⊎◌, ◌&&◌, inl, inr, ℕ, suc, ◌+◌, ◌-◌, ◌<◌, ◌≤◌, List, [], ◌∷◌, ◌++◌, Bool, true, false, cond, Some, None, map, find, length, reverse, refl, ap, sym, ◌∙◌, subst, arith}
use Rattle.std.specs.List.{list_any}
use Rattle.std.proofs.lemmas.Bool.{true≢false, cases_Bool, and_parts, and_from}
use Rattle.std.proofs.lemmas.List.{append_assoc}
use Rattle.std.proofs.lemmas.Grind.{reverse_onto}
use Rattle.cpe_rows.specs.cpe_name.Eleven.{Values}
use Rattle.cpe_rows.specs.Names.{is_same}
use Rattle.cpe_rows.specs.Reach.{Among, is_reached}
use Rattle.cpe_rows.specs.Rows.{is_named}
use Rattle.cpe_rows.specs.Chains.{is_successor, chain, ends}
use Rattle.cpe_rows.specs.Lawful.{is_cyclic}
use Rattle.cpe_rows.specs.declared.entry.Entry.{Entry}
use Rattle.cpe_rows.proofs.NameTests.{same_is}
use Rattle.certificate_check.specs.Leading.{next_of, is_end_of, AreLinkedEntries}
use Rattle.certificate_check.proofs.Elements.{listed_decides, map_last}
use Rattle.certificate_check.proofs.Links.{end_has_none}
use Rattle.certificate_check.proofs.Visits.{IsReached, end_is_reached, reached_end}
use Rattle.certificate_search.specs.Choices.{leads_to_end, way_to, trace_to}
use Rattle.certificate_search.specs.Steps.{Step}
use Rattle.certificate_search.proofs.Ways.{kept_less, some_first, shorter, end_from, stays, rest_goes}

abbrev pub name_of : Step → Values
name_of s = s.name

module _ (es : List Entry) (to from : Values) where
  -- some of the name's successors are left, and no successor before these leads to the end
  abbrev pub IsTried : Values → List Values → Type 0
  IsTried n left = (find (leads_to_end es to) (next_of es n) ≡ find (leads_to_end es to) left) × ((m : Values) → Among left m → Among (next_of es n) m)

  -- The steps are a path to the name, and no path before it leads to the end.
  abbrev pub LeadTo : List Step → Values → Type 0
  LeadTo [] n = from ≡ n
  LeadTo (s ∷ before) n = IsTried s.name (n ∷ s.left) × LeadTo before s.name

  -- The steps are a path, and no path before it leads to the end. Without steps, there is no path to the end.
  abbrev pub IsPathSoFar : List Step → Type 0
  IsPathSoFar [] = find (leads_to_end es to) (next_of es from) ≡ None
  IsPathSoFar (s ∷ before) = IsTried s.name s.left × LeadTo before s.name

  -- Each name that was seen is on the path, or doesn't lead to the end.
  abbrev pub AreSettled : List Step → List Values → Type 0
  AreSettled steps seen = (m : Values) → Among seen m → Among (map name_of steps) m ⊎ (leads_to_end es to m ≡ false)

module _ (es : List Entry) (ok : AreLinkedEntries es) (acyclic : list_any (is_cyclic es) es ≡ false) (to from : Values) where
  abbrev leads : Values → Bool
  leads = leads_to_end es to

  is_next : (n m : Values) (left : List Values) → IsTried es to from n (m ∷ left) → Among (next_of es n) m
  is_next n m left tried = tried.1 m (inl refl)

  -- ---- the path has no cycle

  -- lemma: the chain of a name is shorter than those of the names before it on the path
  chain_falls : (before : List Step) (n m : Values) → LeadTo es to from before n → Among (map name_of before) m
      → length (chain es n) < length (chain es m)
  chain_falls [] n m path k = absurd k
  chain_falls (s ∷ before) n m path (inl e) =
      subst (λ x. length (chain es n) < length (chain es x)) e (shorter es ok acyclic s.name n (is_next s.name n s.left path.0))
  chain_falls (s ∷ before) n m path (inr k) =
      let less = shorter es ok acyclic s.name n (is_next s.name n s.left path.0) in
      let rest = chain_falls before s.name m path.1 k in
      omega (arith, less, rest)

  -- lemma: a successor of the last name is not on the path
  not_on_path : (before : List Step) (n m : Values) → LeadTo es to from before n → Among (next_of es n) m → Among (n ∷ map name_of before) m → ⊥
  not_on_path before n m path next (inl e) =
      let less = shorter es ok acyclic n m next in
      let same : length (chain es n) ≡ length (chain es m) = ap (λ x. length (chain es x)) e in
      absurd (omega (arith, less, same))
  not_on_path before n m path next (inr k) =
      let less = shorter es ok acyclic n m next in
      let rest = chain_falls before n m path k in
      absurd (omega (arith, less, rest))

  -- lemma: the path has at most as many steps as the chain of its first name has entries
  chain_lasts : (before : List Step) (n : Values) → LeadTo es to from before n → length (chain es n) + length before ≤ length (chain es from)
  chain_lasts [] n path = let same : length (chain es from) ≡ length (chain es n) = ap (λ x. length (chain es x)) path in omega (arith, same)
  chain_lasts (s ∷ before) n path =
      let less = shorter es ok acyclic s.name n (is_next s.name n s.left path.0) in
      let rest = chain_lasts before s.name path.1 in
      omega (arith, less, rest)

  -- ---- which names lead to the end

  -- lemma: what a successor reaches, the name reaches
  from_before : (n s m : Values) (before : List Values) → Among (next_of es n) s → IsReached es (s ∷ []) before m
      → (more : List Values) × IsReached es (n ∷ []) more m
  from_before n s m [] k (inl e) = (n ∷ [], (subst (Among (next_of es n)) e k, inl refl))
  from_before n s m [] k (inr h) = absurd h
  from_before n s m (a ∷ before) k c = let rest = from_before n s a before k c.1 in (a ∷ rest.0, (c.0, rest.1))

  also_leads : (n s : Values) → Among (next_of es n) s → leads s ≡ true → leads n ≡ true
  also_leads n s k h =
      let c = reached_end es ok s to ((listed_decides to (ends es s)).0 h) in
      let path = from_before n s to c.0 k c.1 in
      (listed_decides to (ends es n)).1 (end_is_reached es ok n to path.0 path.1 c.2)

  end_leads : (n : Values) → n ≡ to → is_end_of es n ≡ true → leads n ≡ true
  end_leads n e h = (listed_decides to (ends es n)).1 (end_is_reached es ok n to [] (inl e) (subst (λ x. is_end_of es x ≡ true) e h))

  -- lemma: if no successor leads to the end, and the name isn't the end, then the name doesn't lead to it
  pub leads_not : (n : Values) → find leads (next_of es n) ≡ None → (is_same n to && is_end_of es n) ≡ false → leads n ≡ false
  leads_not n none other = elim (cases_Bool (leads n)) [
    | inl t ↦ elim (end_from es ok acyclic n to ((listed_decides to (ends es n)).0 t)) [
      | inl h ↦ (
          let last : is_end_of es n ≡ true = subst (λ x. is_end_of es x ≡ true) (sym h.0) h.1 in
          absurd (true≢false (sym (and_from (is_same n to) (is_end_of es n) ((same_is n to).1 h.0) last) ∙ other)))
      | inr h ↦ (
          let w = some_first leads (next_of es n) h in
          let clash : Some w.0 ≡ None = sym w.1 ∙ none in
          let wrong : ⊥ = cc in
          absurd wrong)
    ]
    | inr f ↦ f
  ]

  -- ---- one step of the search

  -- lemma: the next successor does not lead to the end
  pub passed : (n x : Values) (left : List Values) → IsTried es to from n (x ∷ left) → leads x ≡ false → IsTried es to from n left
  passed n x left tried f = (tried.0 ∙ ap (λ b. cond b (Some x) (find leads left)) f, λ m k. tried.1 m (inr k))

  -- lemma: a successor that was seen is passed
  pub seen_again : (s : Step) (before : List Step) (seen : List Values) (x : Values) (left : List Values) → LeadTo es to from (record { name = s.name; left = left } ∷ before) x
      → AreSettled es to from (s ∷ before) seen → Among seen x → IsPathSoFar es to from (record { name = s.name; left = left } ∷ before)
  seen_again s before seen x left path settled k = elim (settled x k) [
    | inl on ↦ absurd (not_on_path before s.name x path.1 (is_next s.name x left path.0) on)
    | inr f ↦ (passed s.name x left path.0 f, path.1)
  ]

  -- lemma: after the last successor, the step is dropped
  pub dropped : (s : Step) (before : List Step) → IsTried es to from s.name [] → LeadTo es to from before s.name → leads s.name ≡ false
      → IsPathSoFar es to from before
  dropped s [] tried path f = subst (λ n. find leads (next_of es n) ≡ None) (sym path) tried.0
  dropped s (t ∷ before) tried path f = (passed t.name s.name t.left path.0 f, path.1)

  pub still_settled : (s : Step) (before : List Step) (seen : List Values) → AreSettled es to from (s ∷ before) seen → leads s.name ≡ false
      → AreSettled es to from before seen
  still_settled s before seen settled f m k = elim (settled m k) [
    | inl on ↦ elim on [
      | inl e ↦ inr (subst (λ x. leads x ≡ false) e f)
      | inr h ↦ inl h
    ]
    | inr g ↦ inr g
  ]

  -- ---- the path that is found

  names_last : (s : Step) (before : List Step) (rest : List Values)
      → map name_of (reverse (s ∷ before)) ++ rest ≡ map name_of (reverse before) ++ s.name ∷ rest
  names_last s before rest =
      ap (λ (xs : List Step). map name_of xs ++ rest) (reverse_onto before s [])
      ∙ (ap (λ (ns : List Values). ns ++ rest) (map_last name_of (reverse before) s)
      ∙ append_assoc (map name_of (reverse before)) (s.name ∷ []) rest)

  -- lemma: if the name leads to the end, the path to the name is the beginning of the path to the end
  way_goes : (before : List Step) (n : Values) → LeadTo es to from before n → leads n ≡ true → (k j : ℕ) → j ≡ length before + k
      → map name_of (reverse before) ++ (n ∷ way_to k es to n) ≡ from ∷ way_to j es to from
  way_goes [] n path h k j e =
      let same : k ≡ j = omega (arith, e) in
      λ i. sym path i ∷ way_to (same i) es to (sym path i)
  way_goes (s ∷ before) n path h k j e =
      let found : find leads (next_of es s.name) ≡ Some n = path.0.0 ∙ ap (λ b. cond b (Some n) (find leads s.left)) h in
      let back = also_leads s.name n (is_next s.name n s.left path.0) h in
      let more : j ≡ length before + suc k = omega (arith, e) in
      names_last s before (n ∷ way_to k es to n)
      ∙ (ap (λ (w : List Values). map name_of (reverse before) ++ s.name ∷ w) (sym (rest_goes es ok acyclic k to s.name n found))
      ∙ way_goes before s.name path.1 back (suc k) j more)

  -- lemma: at the end, the names of the steps are the whole path
  pub arrived : (s : Step) (before : List Step) → LeadTo es to from before s.name → (is_same s.name to && is_end_of es s.name) ≡ true
      → map name_of (reverse before) ++ s.name ∷ [] ≡ trace_to es to from
  arrived s before path here =
      let parts = and_parts (is_same s.name to) (is_end_of es s.name) here in
      let same : s.name ≡ to = (same_is s.name to).0 parts.0 in
      let fits : length (chain es s.name) + length before ≤ length (chain es from) = chain_lasts before s.name path in
      let few : length (chain es from) ≤ length es = kept_less (is_reached is_successor es (is_named from)) es in
      let sum : length es ≡ length before + (length es - length before) = omega (arith, fits, few) in
      let none : find leads (next_of es s.name) ≡ None = ap (find leads) (end_has_none es s.name parts.1) in
      ap (λ (w : List Values). map name_of (reverse before) ++ s.name ∷ w) (sym (stays es ok acyclic (length es - length before) to s.name none))
      ∙ way_goes before s.name path (end_leads s.name same parts.1) (length es - length before) (length es) sum
