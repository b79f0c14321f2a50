-- Lemmas: the names that a walk along deprecations visits, and the ends that it keeps.
use Rattle.std.proofs.Common.{◌≡◌, ◌⊎◌, inl, inr, ℕ, ◌+◌, ◌<◌, List, [], ◌∷◌, Bool, true, false, Some, None, map, filter, find, fold, ltb, slice_get, if◌then◌else◌, refl, ap, sym, ◌∙◌, subst, arith}
use Rattle.std.specs.Cmp.{both_ways as same_tests}
use Rattle.std.specs.List.{list_any}
use Rattle.std.proofs.lemmas.Bool.{ltb-true, ltb-false}
use Rattle.cpe_rows.specs.cpe_name.Eleven.{Values}
use Rattle.cpe_rows.specs.Reach.{Among, Leads, is_reached}
use Rattle.cpe_rows.specs.Rows.{is_named}
use Rattle.cpe_rows.specs.Chains.{is_successor, successors_of, is_active, chain, ends}
use Rattle.cpe_rows.specs.declared.entry.Entry.{Entry}
use Rattle.cpe_rows.proofs.NameTests.{same_is}
use Rattle.cpe_rows.proofs.Paths.{element_passes, some_element, was_kept, is_kept, to_successor}
use Rattle.cpe_rows.proofs.Reaches.{decided}
use Rattle.certificate_check.specs.Seen.{with_seen_name}
use Rattle.certificate_check.specs.Leading.{next_of, is_end_of, AreEndsOfName, AreLinkedEntries}
use Rattle.certificate_check.proofs.Elements.{same_some, listed_decides, placed, present, before_end, earlier_at, name_was, name_stays, name_reached, names_keep, names_stay, names_reached, names_were}
use Rattle.certificate_check.proofs.TraceEnds.{mapped}
use Rattle.certificate_check.proofs.Links.{found_some, found_self, next_found, end_found, next_absent, end_absent, next_known}

module _ (es : List Entry) where
  -- the name is reached from a start through these names, listed backwards, each a successor of the next
  abbrev pub IsReached : List Values → List Values → Values → Type 0
  IsReached starts [] m = Among starts m
  IsReached starts (a ∷ before) m = Among (next_of es a) m × IsReached starts before a

  -- ---- the ends of a name are those reached names that have no deprecated entry

  module _ (ok : AreLinkedEntries es) where
    abbrev Reached : Values → Values → Type 0
    Reached n m = (b : Entry) × Among es b × (b.name ≡ m) × (find (is_named m) es ≡ Some b) × (before : List Entry) × Leads is_successor es
        (is_named n) before b

    -- a name reached from an entry's name is in the entry's chain
    reached : (n : Values) → list_any (is_named n) es ≡ true → (before : List Values) (m : Values) → IsReached (n ∷ []) before m → Reached n m
    reached n known [] m (inl e) =
        let f = found_some m es (subst (λ x. list_any (is_named x) es ≡ true) e known) in
        (f.0, f.1, f.2, f.3, [], (same_is n f.0.name).1 (e ∙ sym f.2))
    reached n known [] m (inr k) = absurd k
    reached n known (a ∷ before) m c =
        let r = reached n known before a c.1 in
        let f = found_some m es (next_known es ok a m c.0) in
        let next : Among (successors_of r.0) m = subst (λ xs. Among xs m) (next_found es a r.0 r.3) c.0 in
        (f.0, f.1, f.2, f.3, r.0 ∷ r.4, (r.1, to_successor r.0 f.0 m next (sym f.2), r.5))

    -- a name without an entry reaches only itself
    unmoved : (n : Values) → list_any (is_named n) es ≡ false → (before : List Values) (m : Values) → IsReached (n ∷ []) before m → n ≡ m
    unmoved n absent [] m (inl e) = e
    unmoved n absent [] m (inr k) = absurd k
    unmoved n absent (a ∷ before) m c =
        let e = unmoved n absent before a c.1 in
        absurd (subst (λ xs. Among xs m) (next_absent es n absent) (subst (λ x. Among (next_of es x) m) (sym e) c.0))

    pub end_is_reached : (n m : Values) (before : List Values) → IsReached (n ∷ []) before m → is_end_of es m ≡ true → Among (ends es n) m
    end_is_reached n m before c h = go (list_any (is_named n) es) refl where
      go : (b : Bool) → list_any (is_named n) es ≡ b
          → Among (if b then map (λ (e : Entry). e.name) (filter is_active (chain es n)) else (n ∷ [])) m
      go true known =
          let r = reached n known before m c in
          let in_chain = is_kept (is_reached is_successor es (is_named n)) es r.0 r.1 ((decided is_successor es (is_named n) r.0 r.1).1 r.4 r.5) in
          let kept = is_kept is_active (chain es n) r.0 in_chain (sym (end_found es m r.0 r.3) ∙ h) in
          subst (Among (map (λ (e : Entry). e.name) (filter is_active (chain es n)))) r.2
          (mapped (λ (e : Entry). e.name) (filter is_active (chain es n)) r.0 kept)
      go false absent = inl (unmoved n absent before m c)

    -- a path of entries is a path of names
    by_names : (n : Values) (before : List Entry) (b : Entry) → Leads is_successor es (is_named n) before b
        → (names : List Values) × IsReached (n ∷ []) names b.name
    by_names n [] b l = ([], inl ((same_is n b.name).0 l))
    by_names n (a ∷ before) b l =
        let rest = by_names n before a l.2 in
        let next : Among (successors_of a) b.name = (listed_decides b.name (successors_of a)).0 l.1 in
        (a.name ∷ rest.0, (subst (λ xs. Among xs b.name) (sym (next_found es a.name a (found_self es ok a l.0))) next, rest.1))

    unmapped : (xs : List Entry) (m : Values) → Among (map (λ (e : Entry). e.name) xs) m → (e : Entry) × Among xs e × (e.name ≡ m)
    unmapped [] m k = absurd k
    unmapped (x ∷ xs) m (inl e) = (x, inl refl, e)
    unmapped (x ∷ xs) m (inr k) = let rest = unmapped xs m k in (rest.0, inr rest.1, rest.2)

    abbrev pub IsReachedLast : List Values → Values → Type 0
    IsReachedLast starts m = (before : List Values) × IsReached starts before m × (is_end_of es m ≡ true)

    pub reached_end : (n m : Values) → Among (ends es n) m → IsReachedLast (n ∷ []) m
    reached_end n m k = go (list_any (is_named n) es) refl k where
      go : (b : Bool) → list_any (is_named n) es ≡ b
          → Among (if b then map (λ (e : Entry). e.name) (filter is_active (chain es n)) else (n ∷ [])) m → IsReachedLast (n ∷ []) m
      go true known h =
          let u = unmapped (filter is_active (chain es n)) m h in
          let a = was_kept is_active (chain es n) u.0 u.1 in
          let c = was_kept (is_reached is_successor es (is_named n)) es u.0 a.0 in
          let path = (decided is_successor es (is_named n) u.0 c.0).0 c.1 in
          let names = by_names n path.0 u.0 path.1 in
          subst (IsReachedLast (n ∷ [])) u.2 (names.0, names.1, end_found es u.0.name u.0 (found_self es ok u.0 c.0) ∙ a.1)
      go false absent (inl e) = ([], inl e, subst (λ x. is_end_of es x ≡ true) e (end_absent es n absent))
      go false absent (inr h) = absurd h

  -- ---- the walk

  -- the state of the walk after `k` names: `met` has their successors, and `found` has those that are ends
  pub record AreMet (starts met found : List Values) (k : ℕ) : Type 0 where
    pub begun : (n : Values) → Among starts n → Among met n
    pub led : (n : Values) → Among met n → (before : List Values) × IsReached starts before n
    pub closed : (j : ℕ) (n m : Values) → j < k → slice_get met j ≡ Some n → Among (next_of es n) m → Among met m
    pub kept : (n : Values) → Among found n → Among met n × (is_end_of es n ≡ true)
    pub done : (j : ℕ) (n : Values) → j < k → slice_get met j ≡ Some n → is_end_of es n ≡ true → Among found n

  pub at_start : (starts : List Values) → AreMet starts starts [] 0
  at_start starts = record {
    begun = λ n m. m;
    led = λ n m. ([], m);
    closed = λ j n m below. absurd (omega arith);
    kept = λ n m. absurd m;
    done = λ j n below. absurd (omega arith);
  }

  module _ (starts met found : List Values) (k : ℕ) (so_far : AreMet starts met found k) (n : Values) (at : slice_get met k ≡ Some n) where
    abbrev more : List Values
    more = fold with_seen_name met (next_of es n)

    abbrev more_found : List Values
    more_found = if is_end_of es n then with_seen_name found n else found

    -- a place below `k + 1` is below `k` or equals `k`
    below_or : (j : ℕ) → j < k + 1 → (j < k) ⊎ (j ≡ k)
    below_or j h = go (ltb j k) refl where
      go : (b : Bool) → ltb j k ≡ b → (j < k) ⊎ (j ≡ k)
      go true e = inl (ltb-true j k e)
      go false e = inr (omega (arith, ltb-false j k e))

    -- the name at such a place was already there before the visit
    rows_before : (j : ℕ) (x : Values) → j < k + 1 → slice_get more j ≡ Some x → slice_get met j ≡ Some x
    rows_before j x below e = elim (below_or j below) [
      | inl h ↦ same (earlier_at met j k n at h)
      | inr h ↦ same (n, subst (λ i. slice_get met i ≡ Some n) (sym h) at)
    ] where
      same : (y : Values) × (slice_get met j ≡ Some y) → slice_get met j ≡ Some x
      same y = y.1 ∙ (sym (names_keep met (next_of es n) j y.0 y.1) ∙ e)

    is_this : (j : ℕ) (x : Values) → j ≡ k → slice_get met j ≡ Some x → n ≡ x
    is_this j x h e = same_some n x (sym at ∙ (ap (slice_get met) (sym h) ∙ e))

    stays : (x : Values) → Among met x → Among more x
    stays x m = names_stay met (next_of es n) x m

    still_kept : (x : Values) → Among more_found x → Among more x × (is_end_of es x ≡ true)
    still_kept x = go (is_end_of es n) refl where
      old : Among found x → Among more x × (is_end_of es x ≡ true)
      old m = let was = so_far.kept x m in (stays x was.0, was.1)

      go : (b : Bool) → is_end_of es n ≡ b → Among (if b then with_seen_name found n else found) x → Among more x × (is_end_of es x ≡ true)
      go true h m = elim (name_was found n x m) [
        | inl m ↦ old m
        | inr e ↦ subst (λ y. Among more y × (is_end_of es y ≡ true)) e (stays n (present met k n at), h)
      ]
      go false h m = old m

    found_stays : (x : Values) → Among found x → Among more_found x
    found_stays x m = go (is_end_of es n) where
      go : (b : Bool) → Among (if b then with_seen_name found n else found) x
      go true = name_stays found n x m
      go false = m

    found_reached : is_end_of es n ≡ true → Among more_found n
    found_reached h = subst (λ b. Among (if b then with_seen_name found n else found) n) (sym h) (name_reached found n)

    pub one_more : AreMet starts more more_found (k + 1)
    one_more = record {
      begun = λ x m. stays x (so_far.begun x m);
      led = λ x m. elim (names_were met (next_of es n) x m) [
        | inl h ↦ so_far.led x h
        | inr h ↦ (let c = so_far.led n (present met k n at) in (n ∷ c.0, (h, c.1)))
      ];
      closed = λ j x m below e next. elim (below_or j below) [
        | inl h ↦ stays m (so_far.closed j x m h (rows_before j x below e) next)
        | inr h ↦ names_reached met (next_of es n) m (subst (λ y. Among (next_of es y) m) (sym (is_this j x h (rows_before j x below e))) next)
      ];
      kept = still_kept;
      done = λ j x below e last. elim (below_or j below) [
        | inl h ↦ found_stays x (so_far.done j x h (rows_before j x below e) last)
        | inr h ↦ (let same = is_this j x h (rows_before j x below e) in
            subst (Among more_found) same (found_reached (subst (λ y. is_end_of es y ≡ true) (sym same) last)))
      ];
    }

  module _ (ok : AreLinkedEntries es) (n : Values) (met found : List Values) (k : ℕ) (all : AreMet (n ∷ []) met found k) (past : slice_get met k ≡ None) where
    all_met : (before : List Values) (m : Values) → IsReached (n ∷ []) before m → Among met m
    all_met [] m c = all.begun m c
    all_met (a ∷ before) m c =
        let at = placed met a (all_met before a c.1) in
        all.closed at.0 a m (before_end met at.0 k a at.1 past) at.1 c.0

    are_found : (before : List Values) (m : Values) → IsReached (n ∷ []) before m → is_end_of es m ≡ true → Among found m
    are_found before m c last =
        let at = placed met m (all_met before m c) in
        all.done at.0 m (before_end met at.0 k m at.1 past) at.1 last

    -- after the walk, the found names are the ends of the definition
    pub ends_met : AreEndsOfName es n found
    ends_met passes = same_tests (list_any passes found) (list_any passes (ends es n))
        (λ h. let w = some_element passes found h in
        let last = all.kept w.0 w.1 in
        let path = all.led w.0 last.0 in
        element_passes passes (ends es n) w.0 (end_is_reached ok n w.0 path.0 path.1 last.1) w.2)
        (λ h. let w = some_element passes (ends es n) h in
        let c = reached_end ok n w.0 w.1 in
        element_passes passes found w.0 (are_found c.0 w.0 c.1 c.2) w.2)

  pub visited : (starts met found : List Values) (k : ℕ) → AreMet starts met found k → (n : Values) → slice_get met k ≡ Some n
      → (new_met new_found : List Values)
      → new_met ≡ fold with_seen_name met (next_of es n) → new_found ≡ (if is_end_of es n then with_seen_name found n else found)
      → AreMet starts new_met new_found (k + 1)
  visited starts met found k so_far n at new_met new_found is_met is_found =
      subst (λ (m : List Values). AreMet starts m new_found (k + 1)) (sym is_met)
      (subst (λ (f : List Values). AreMet starts (fold with_seen_name met (next_of es n)) f (k + 1)) (sym is_found)
      (one_more starts met found k so_far n at))
