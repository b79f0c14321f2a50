-- Lemmas: in linked entries, a list in which each name is a successor of the name before is a trace.
use Rattle.std.proofs.Common.{◌≡◌, inl, inr, List, [], ◌∷◌, Bool, true, false, ◌&&◌, Option, Some, None, refl, ap, sym, ◌∙◌, subst}
use Rattle.std.specs.List.{list_any, last_or}
use Rattle.std.proofs.lemmas.Bool.{and_parts, and_from, true≢false}
use Rattle.cpe_rows.specs.cpe_name.Eleven.{Values}
use Rattle.cpe_rows.specs.Names.{is_same}
use Rattle.cpe_rows.specs.Reach.{Among}
use Rattle.cpe_rows.specs.Rows.{Rows, is_entry, is_named}
use Rattle.cpe_rows.specs.Lawful.{IsLawful}
use Rattle.cpe_rows.specs.declared.entry.Entry.{Entry}
use Rattle.cpe_rows.specs.declared.statement.Mode.{Mode}
use Rattle.cpe_rows.specs.declared.statement.Mode.TheVariants.{Plain, Follow}
use Rattle.cpe_rows.proofs.NameTests.{same_is}
use Rattle.certificate_check.specs.Traces.{IsActive, Precedes, IsPath, IsTrace}
use Rattle.certificate_check.specs.Good.{HasTraces}
use Rattle.certificate_check.specs.Leading.{followed, next_of, is_end_of, AreLinkedEntries}
use Rattle.certificate_check.specs.Tested.{is_walk, first_passes, last_relates, is_fit}
use Rattle.certificate_check.proofs.Elements.{DecidesTruth, same_some, listed_decides}
use Rattle.certificate_check.proofs.Links.{linked, found_some, found_self, next_found, end_found, next_absent, end_absent, next_known}

module _ (es : List Entry) (ok : AreLinkedEntries es) where
  to_path : (names : List Values) (n : Values) → list_any (is_named n) es ≡ true → is_walk es (n ∷ names) ≡ true → IsPath es (n ∷ names)
  to_path [] n known h =
      let f = found_some n es known in
      (f.0, f.1, f.2, sym (end_found es n f.0 f.3) ∙ h)
  to_path (m ∷ names) n known h =
      let f = found_some n es known in
      let parts = and_parts (list_any (is_same m) (next_of es n)) (is_walk es (m ∷ names)) h in
      let next : Among (next_of es n) m = (listed_decides m (next_of es n)).0 parts.0 in
      ((f.0, f.1, f.2, subst (λ xs. Among xs m) (next_found es n f.0 f.3) next), to_path names m (next_known es ok n m next) parts.1)

  ends_active : (n : Values) → IsActive es n → is_end_of es n ≡ true
  ends_active n p = subst (λ x. is_end_of es x ≡ true) p.2 (end_found es p.0.name p.0 (found_self es ok p.0 p.1) ∙ p.3)

  next_removed : (n m : Values) → Precedes es n m → list_any (is_same m) (next_of es n) ≡ true
  next_removed n m p =
      let next : Among (next_of es p.0.name) m = subst (λ xs. Among xs m) (sym (next_found es p.0.name p.0 (found_self es ok p.0 p.1))) p.3 in
      (listed_decides m (next_of es n)).1 (subst (λ x. Among (next_of es x) m) p.2 next)

  from_path : (names : List Values) (n : Values) → IsPath es (n ∷ names) → is_walk es (n ∷ names) ≡ true
  from_path [] n p = ends_active n p
  from_path (m ∷ names) n p = and_from (list_any (is_same m) (next_of es n)) (is_walk es (m ∷ names)) (next_removed n m p.0) (from_path names m p.1)

-- a walk from a name without an entry has no further name
alone : (es : List Entry) (names : List Values) (n : Values) → list_any (is_named n) es ≡ false → is_walk es (n ∷ names) ≡ true → names ≡ []
alone es [] n absent h = refl
alone es (m ∷ names) n absent h =
    let parts = and_parts (list_any (is_same m) (next_of es n)) (is_walk es (m ∷ names)) h in
    absurd (subst (λ xs. Among xs m) (next_absent es n absent) ((listed_decides m (next_of es n)).0 parts.0))

abbrev pub traced : Rows → Mode → Values → List Values → Bool
traced rows mode n names = first_passes (is_same n) names && is_walk (followed rows mode) names

head_or : Values → List Values → Values
head_or n [] = n
head_or n (m ∷ names) = m

module _ (rows : Rows) (lawful : IsLawful rows) where
  follow_to : (n : Values) (names : List Values) → is_walk rows.entries (n ∷ names) ≡ true → IsTrace rows Follow n (n ∷ names)
  follow_to n names h = go (is_entry rows n) refl where
    go : (b : Bool) → is_entry rows n ≡ b → IsTrace rows Follow n (n ∷ names)
    go true e = inl (refl, to_path rows.entries (linked rows Follow lawful) names n e h)
    go false e = inr (ap (λ xs. n ∷ xs) (alone rows.entries names n e h), e)

  plain_to : (n : Values) (names : List Values) → is_walk [] (n ∷ names) ≡ true → n ∷ names ≡ n ∷ []
  plain_to n names h = ap (λ xs. n ∷ xs) (alone [] names n refl h)

  walk_to : (mode : Mode) (n : Values) (names : List Values) → is_walk (followed rows mode) (n ∷ names) ≡ true → IsTrace rows mode n (n ∷ names)
  walk_to Plain n names h = plain_to n names h
  walk_to Follow n names h = follow_to n names h

  from_alone : (mode : Mode) (n : Values) → list_any (is_named n) (followed rows mode) ≡ false → traced rows mode n (n ∷ []) ≡ true
  from_alone mode n absent =
      and_from (is_same n n) (is_end_of (followed rows mode) n) ((same_is n n).1 refl) (end_absent (followed rows mode) n absent)

  trace_from : (mode : Mode) (n : Values) (names : List Values) → IsTrace rows mode n names → traced rows mode n names ≡ true
  trace_from Plain n names t = subst (λ xs. traced rows Plain n xs ≡ true) (sym t) (from_alone Plain n refl)
  trace_from Follow n [] (inl t) = absurd t.0
  trace_from Follow n (m ∷ names) (inl t) =
      and_from (is_same n m) (is_walk rows.entries (m ∷ names)) ((same_is n m).1 (sym t.0)) (from_path rows.entries
      (linked rows Follow lawful) names m t.1)
  trace_from Follow n names (inr t) = subst (λ xs. traced rows Follow n xs ≡ true) (sym t.0) (from_alone Follow n t.1)

  trace_to : (mode : Mode) (n : Values) (names : List Values) → traced rows mode n names ≡ true → IsTrace rows mode n names
  trace_to mode n [] h = absurd (true≢false (sym h))
  trace_to mode n (m ∷ names) h =
      let parts = and_parts (is_same n m) (is_walk (followed rows mode) (m ∷ names)) h in
      let first : n ≡ m = (same_is n m).0 parts.0 in
      subst (λ x. IsTrace rows mode x (m ∷ names)) (sym first) (walk_to mode m names parts.1)

  pub trace_decides : (mode : Mode) (n : Values) (names : List Values) → DecidesTruth (traced rows mode n names) (IsTrace rows mode n names)
  trace_decides mode n names = (trace_to mode n names, trace_from mode n names)

  -- the list is a trace of some item
  abbrev OfItem : Mode → List Values → Type 0
  OfItem mode names = (start : Values) × Among rows.items start × IsTrace rows mode start names

  abbrev item_traced : Mode → List Values → Bool
  item_traced mode names = first_passes (λ n. list_any (is_same n) rows.items) names && is_walk (followed rows mode) names

  item_to : (mode : Mode) (names : List Values) → item_traced mode names ≡ true → OfItem mode names
  item_to mode [] h = absurd (true≢false (sym h))
  item_to mode (m ∷ names) h =
      let parts = and_parts (list_any (is_same m) rows.items) (is_walk (followed rows mode) (m ∷ names)) h in
      (m, (listed_decides m rows.items).0 parts.0, walk_to mode m names parts.1)

  item_from : (mode : Mode) (names : List Values) → OfItem mode names → item_traced mode names ≡ true
  item_from mode [] t = absurd (true≢false (sym (trace_from mode t.0 [] t.2)))
  item_from mode (m ∷ names) t =
      let parts = and_parts (is_same t.0 m) (is_walk (followed rows mode) (m ∷ names)) (trace_from mode t.0 (m ∷ names) t.2) in
      and_from (list_any (is_same m) rows.items) (is_walk (followed rows mode) (m ∷ names))
      ((listed_decides m rows.items).1 (subst (Among rows.items) ((same_is t.0 m).0 parts.0) t.1)) parts.1

  -- the last names of both lists have the relation
  abbrev Meet : (Values → Values → Bool) → Option Values → Option Values → Type 0
  Meet relates o p = (f : Values) × (i : Values) × (o ≡ Some f) × (p ≡ Some i) × (relates f i ≡ true)

  meet_decides : (relates : Values → Values → Bool) (o p : Option Values) → DecidesTruth (last_relates relates o p) (Meet relates o p)
  meet_decides relates (Some f) (Some i) = (
    λ h. (f, i, refl, refl, h),
    λ x. (λ j. relates (same_some f x.0 x.2 j) (same_some i x.1 x.3 j)) ∙ x.4,
  )
  meet_decides relates (Some f) None = (λ h. absurd (true≢false (sym h)), λ x. let e : None ≡ Some x.1 = x.3 in absurd (let w : ⊥ = cc in w))
  meet_decides relates None p = (λ h. absurd (true≢false (sym h)), λ x. let e : None ≡ Some x.0 = x.2 in absurd (let w : ⊥ = cc in w))

  pub fit_decides : (relates : Values → Values → Bool) (mode : Mode) (name : Values) (fact one : List Values)
      → DecidesTruth (is_fit relates rows mode name fact one) (HasTraces relates rows mode name fact one)
  fit_decides relates mode name fact one =
      let of_fact = trace_decides mode name fact in
      let last = meet_decides relates (last_or None fact) (last_or None one) in (
        λ h.
            let a = and_parts (traced rows mode name fact) (item_traced mode one && last_relates relates (last_or None fact) (last_or None one)) h in
            let b = and_parts (item_traced mode one) (last_relates relates (last_or None fact) (last_or None one)) a.1 in
            let i = item_to mode one b.0 in
            let m = last.0 b.1 in
            record {
              start = i.0;
              fact_end = m.0;
              item_end = m.1;
              is_item = i.1;
              fact_trace = of_fact.0 a.0;
              item_trace = i.2;
              fact_ends = m.2;
              item_ends = m.3;
              related = m.4;
            },
        λ fit.
            and_from (traced rows mode name fact) (item_traced mode one && last_relates relates (last_or None fact) (last_or None one))
            (of_fact.1 fit.fact_trace)
            (and_from (item_traced mode one) (last_relates relates (last_or None fact) (last_or None one))
            (item_from mode one (fit.start, fit.is_item, fit.item_trace)) (last.1
            (fit.fact_end, fit.item_end, fit.fact_ends, fit.item_ends, fit.related))),
      )
