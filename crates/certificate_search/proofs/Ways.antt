-- Lemmas: the path to an end. Each step is to a name with a shorter chain, so the path reaches the end.
use Rattle.std.proofs.Common.{◌≡◌, ◌⊎◌, ◌||◌, inl, inr, ℕ, zero, suc, ◌<◌, ◌≤◌, List, [], ◌∷◌, Bool, true, false, cond, Some, None, map, filter, find, length, if◌then◌else◌, refl, ap, sym, ◌∙◌, subst, arith}
use Rattle.std.specs.List.{list_any, last_or}
use Rattle.std.specs.Option.{option_map_or}
use Rattle.std.proofs.lemmas.Bool.{true≢false, cases_Bool}
use Rattle.cpe_rows.specs.cpe_name.Eleven.{Values}
use Rattle.cpe_rows.specs.Reach.{Among, is_reached}
use Rattle.cpe_rows.specs.Rows.{Rows, is_named}
use Rattle.cpe_rows.specs.Chains.{is_successor, successors_of, is_active, chain, ends, leads_to}
use Rattle.cpe_rows.specs.Lawful.{is_cyclic, IsLawful}
use Rattle.cpe_rows.specs.declared.entry.Entry.{Entry}
use Rattle.cpe_rows.specs.declared.statement.Mode.{Mode}
use Rattle.cpe_rows.specs.declared.statement.Mode.TheVariants.{Plain, Follow}
use Rattle.cpe_rows.proofs.Lists.{not_element}
use Rattle.cpe_rows.proofs.NameTests.{same_is}
use Rattle.cpe_rows.proofs.Paths.{element_passes, same_entry, has_path, path_leads, leads_further}
use Rattle.cpe_rows.proofs.Reaches.{decided}
use Rattle.certificate_check.specs.Leading.{followed, next_of, is_end_of, AreLinkedEntries}
use Rattle.certificate_check.specs.Traces.{IsActive, Precedes, IsPath, EndsWith, IsTrace}
use Rattle.certificate_check.proofs.Elements.{same_some, listed_decides}
use Rattle.certificate_check.proofs.Links.{linked, found_some, next_found, end_found, next_absent, end_has_none, next_known}
use Rattle.certificate_check.proofs.Visits.{IsReached, end_is_reached, reached_end}
use Rattle.certificate_search.specs.Choices.{leads_to_end, way_to, trace_to}

-- ---- lists

-- lemmas: a test that passes everything that another test passes, and one element more, keeps more elements
module _ {A : Type 0} (p q : A → Bool) where
  abbrev PassesMore : List A → Type 0
  PassesMore xs = (x : A) → Among xs x → p x ≡ true → q x ≡ true

  not_less : (xs : List A) → PassesMore xs → length (filter p xs) ≤ length (filter q xs)
  not_less [] more = omega arith
  not_less (x ∷ xs) more = go (p x) (q x) (more x (inl refl)) (not_less xs (λ y m. more y (inr m))) where
    go : (a b : Bool) → (a ≡ true → b ≡ true) → length (filter p xs) ≤ length (filter q xs)
        → length (cond a (x ∷ filter p xs) (filter p xs)) ≤ length (cond b (x ∷ filter q xs) (filter q xs))
    go true true f h = omega arith
    go true false f h = absurd (true≢false (sym (f refl)))
    go false true f h = omega arith
    go false false f h = h

  pub keeps_more : (xs : List A) → PassesMore xs → (y : A) → Among xs y → p y ≡ false → q y ≡ true → length (filter p xs) < length (filter q xs)
  keeps_more [] more y m e f = absurd m
  keeps_more (x ∷ xs) more y (inl k) e f =
      let h = not_less xs (λ z m. more z (inr m)) in
      subst (λ (b : Bool). length (cond b (x ∷ filter p xs) (filter p xs)) < length (filter q (x ∷ xs))) (sym (ap p k ∙ e))
      (subst (λ (b : Bool). length (filter p xs) < length (cond b (x ∷ filter q xs) (filter q xs))) (sym (ap q k ∙ f)) (omega (arith, h)))
  keeps_more (x ∷ xs) more y (inr m) e f = go (p x) (q x) (more x (inl refl)) (keeps_more xs (λ z k. more z (inr k)) y m e f) where
    go : (a b : Bool) → (a ≡ true → b ≡ true) → length (filter p xs) < length (filter q xs)
        → length (cond a (x ∷ filter p xs) (filter p xs)) < length (cond b (x ∷ filter q xs) (filter q xs))
    go true true g h = omega arith
    go true false g h = absurd (true≢false (sym (g refl)))
    go false true g h = omega arith
    go false false g h = h

pub kept_less : {A : Type 0} (p : A → Bool) (xs : List A) → length (filter p xs) ≤ length xs
kept_less p [] = omega arith
kept_less p (x ∷ xs) = go (p x) (kept_less p xs) where
  go : (b : Bool) → length (filter p xs) ≤ length xs → length (cond b (x ∷ filter p xs) (filter p xs)) ≤ suc (length xs)
  go true h = omega arith
  go false h = omega arith

pub found_among : {A : Type 0} (p : A → Bool) (xs : List A) (y : A) → find p xs ≡ Some y → Among xs y × (p y ≡ true)
found_among p [] y e = absurd (let w : ⊥ = cc in w)
found_among p (x ∷ xs) y e = go (p x) refl e (found_among p xs y) where
  go : (b : Bool) → p x ≡ b → cond b (Some x) (find p xs) ≡ Some y → (find p xs ≡ Some y → Among xs y × (p y ≡ true))
      → ((x ≡ y) ⊎ Among xs y) × (p y ≡ true)
  go true t k later = let same = same_some x y k in (inl same, ap p (sym same) ∙ t)
  go false t k later = let rest = later k in (inr rest.0, rest.1)

pub some_first : {A : Type 0} (p : A → Bool) (xs : List A) → list_any p xs ≡ true → (y : A) × (find p xs ≡ Some y)
some_first p [] h = absurd (true≢false (sym h))
some_first p (x ∷ xs) h = go (p x) h (some_first p xs) where
  go : (b : Bool) → (b || list_any p xs) ≡ true → (list_any p xs ≡ true → (y : _) × (find p xs ≡ Some y))
      → (y : _) × (cond b (Some x) (find p xs) ≡ Some y)
  go true k later = (x, refl)
  go false k later = later k

-- ---- chains

module _ (es : List Entry) (ok : AreLinkedEntries es) (acyclic : list_any (is_cyclic es) es ≡ false) where
  reached_leads : (n : Values) (b : Entry) → Among es b → is_reached is_successor es (is_named n) b ≡ true → leads_to es n b.name ≡ true
  reached_leads n b m h = let path = (decided is_successor es (is_named n) b m).0 h in path_leads es n b path.0 m path.1

  leads_reached : (n : Values) (b : Entry) → Among es b → leads_to es n b.name ≡ true → is_reached is_successor es (is_named n) b ≡ true
  leads_reached n b m h =
      let path = has_path es n b.name h in
      let same : path.0 ≡ b = same_entry es ok.named path.0 b path.1 m (sym path.2) in
      subst (λ (a : Entry). is_reached is_successor es (is_named n) a ≡ true) same ((decided is_successor es (is_named n) path.0 path.1).1 path.3 path.4)

  -- lemma: the chain of a successor is shorter than that of its entry
  pub shorter : (n s : Values) → Among (next_of es n) s → length (chain es s) < length (chain es n)
  shorter n s k = go (list_any (is_named n) es) refl where
    go : (b : Bool) → list_any (is_named n) es ≡ b → length (chain es s) < length (chain es n)
    go false absent = absurd (subst (λ xs. Among xs s) (next_absent es n absent) k)
    go true known =
        let f = found_some n es known in
        let e = f.0 in
        let next : Among (successors_of e) s = subst (λ xs. Among xs s) (next_found es n e f.3) k in
        let here : leads_to es n e.name ≡ true = path_leads es n e [] f.1 ((same_is n e.name).1 (sym f.2)) in
        let more : (b : Entry) → Among es b → is_reached is_successor es (is_named s) b ≡ true → is_reached is_successor es (is_named n) b ≡ true
        = λ b m h. leads_reached n b m (leads_further es ok.named n s b.name e f.1 next here (reached_leads s b m h)) in
        let not_back : is_reached is_successor es (is_named s) e ≡ false
        = elim (cases_Bool (is_reached is_successor es (is_named s) e)) [
          | inl t ↦ absurd (true≢false (sym (element_passes (λ (x : Values). leads_to es x e.name) (successors_of e) s next (reached_leads s e f.1 t))
              ∙ not_element (is_cyclic es) es acyclic e f.1))
          | inr t ↦ t
        ] in
        keeps_more (is_reached is_successor es (is_named s)) (is_reached is_successor es (is_named n)) es more e f.1 not_back (leads_reached n e f.1 here)

  -- ---- ends

  -- lemma: a name that is reached from `n` is `n`, or is reached from a successor of `n`
  first_step : (n m : Values) (before : List Values) → IsReached es (n ∷ []) before m
      → (n ≡ m) ⊎ ((s : Values) × Among (next_of es n) s × (rest : List Values) × IsReached es (s ∷ []) rest m)
  first_step n m [] (inl e) = inl e
  first_step n m [] (inr k) = absurd k
  first_step n m (a ∷ before) c = elim (first_step n a before c.1) [
    | inl e ↦ inr (m, subst (λ x. Among (next_of es x) m) (sym e) c.0, [], inl refl)
    | inr w ↦ inr (w.0, w.1, a ∷ w.2, (c.0, w.3))
  ]

  -- lemma: an end of a name is the name itself, or an end of one of its successors
  pub end_from : (n to : Values) → Among (ends es n) to → ((n ≡ to) × (is_end_of es to ≡ true)) ⊎ (list_any (leads_to_end es to) (next_of es n) ≡ true)
  end_from n to k =
      let c = reached_end es ok n to k in
      elim (first_step n to c.0 c.1) [
        | inl e ↦ inl (e, c.2)
        | inr w ↦ inr (element_passes (leads_to_end es to) (next_of es n) w.0 w.1 ((listed_decides to (ends es w.0)).1 (end_is_reached es ok w.0 to w.2 w.3 c.2)))
      ]

  -- ---- paths

  abbrev Arrives : ℕ → Values → Values → Type 0
  Arrives k to n = IsPath es (n ∷ way_to k es to n) × (last_or (Some n) (way_to k es to n) ≡ Some to)

  -- lemma: no successor has the end
  pub stays : (k : ℕ) (to n : Values) → find (leads_to_end es to) (next_of es n) ≡ None → way_to k es to n ≡ []
  stays zero to n h = refl
  stays (suc k) to n h = ap (λ o. option_map_or (λ s. s ∷ way_to k es to s) o []) h

  pub rest_goes : (k : ℕ) (to n s : Values) → find (leads_to_end es to) (next_of es n) ≡ Some s → way_to (suc k) es to n ≡ s ∷ way_to k es to s
  rest_goes k to n s h = ap (λ o. option_map_or (λ x. x ∷ way_to k es to x) o []) h

  active : (n : Values) → list_any (is_named n) es ≡ true → is_end_of es n ≡ true → IsActive es n
  active n known h = let f = found_some n es known in (f.0, f.1, f.2, sym (end_found es n f.0 f.3) ∙ h)

  precedes : (n s : Values) → Among (next_of es n) s → list_any (is_named n) es ≡ true → Precedes es n s
  precedes n s k known =
      let f = found_some n es known in
      (f.0, f.1, f.2, subst (λ xs. Among xs s) (next_found es n f.0 f.3) k)

  at_end : (k : ℕ) (to n : Values) → list_any (is_named n) es ≡ true → n ≡ to → is_end_of es to ≡ true → Arrives k to n
  at_end k to n known e h =
      let last : is_end_of es n ≡ true = subst (λ x. is_end_of es x ≡ true) (sym e) h in
      let none : find (leads_to_end es to) (next_of es n) ≡ None = ap (find (leads_to_end es to)) (end_has_none es n last) in
      subst (λ (w : List Values). IsPath es (n ∷ w) × (last_or (Some n) w ≡ Some to)) (sym (stays k to n none)) (active n known last, ap Some e)

  -- a successor has the end
  abbrev Next : Values → Values → Type 0
  Next to n = (s : Values) × (find (leads_to_end es to) (next_of es n) ≡ Some s) × Among (next_of es n) s × Among (ends es s) to

  next : (to n : Values) → list_any (leads_to_end es to) (next_of es n) ≡ true → Next to n
  next to n h =
      let f = some_first (leads_to_end es to) (next_of es n) h in
      let w = found_among (leads_to_end es to) (next_of es n) f.0 f.1 in
      (f.0, f.1, w.0, (listed_decides to (ends es f.0)).0 w.1)

  arrives : (k : ℕ) (to n : Values) → list_any (is_named n) es ≡ true → Among (ends es n) to → length (chain es n) ≤ k → Arrives k to n
  arrives zero to n known at enough = elim (end_from n to at) [
    | inl h ↦ at_end zero to n known h.0 h.1
    | inr h ↦ let s = next to n h in let less = shorter n s.0 s.2 in absurd (omega (arith, less, enough))
  ]
  arrives (suc k) to n known at enough = elim (end_from n to at) [
    | inl h ↦ at_end (suc k) to n known h.0 h.1
    | inr h ↦
        let s = next to n h in
        let less = shorter n s.0 s.2 in
        let fewer : length (chain es s.0) ≤ k = omega (arith, less, enough) in
        let rest = arrives k to s.0 (next_known es ok n s.0 s.2) s.3 fewer in
        subst (λ (w : List Values). IsPath es (n ∷ w) × (last_or (Some n) w ≡ Some to)) (sym (rest_goes k to n s.0 s.1))
        ((precedes n s.0 s.2 known, rest.0), rest.1)
  ]

  -- lemma: the trace of an entry's name
  pub entry_trace : (to n : Values) → list_any (is_named n) es ≡ true → Among (ends es n) to
      → IsPath es (trace_to es to n) × EndsWith to (trace_to es to n)
  entry_trace to n known at =
      let a = arrives (length es) to n known at (kept_less (is_reached is_successor es (is_named n)) es) in (a.0, a.1)

  -- lemma: the trace of a name without an entry
  pub other_trace : (to n : Values) → list_any (is_named n) es ≡ false → Among (ends es n) to
      → (trace_to es to n ≡ n ∷ []) × EndsWith to (trace_to es to n)
  other_trace to n absent at =
      let none : find (leads_to_end es to) (next_of es n) ≡ None = ap (find (leads_to_end es to)) (next_absent es n absent) in
      let alone : trace_to es to n ≡ n ∷ [] = ap (λ w. n ∷ w) (stays (length es) to n none) in
      (alone, ap (last_or None) alone ∙ go (list_any (is_named n) es) absent at) where
        go : (b : Bool) → b ≡ false → Among (if b then map (λ (e : Entry). e.name) (filter is_active (chain es n)) else (n ∷ [])) to → Some n ≡ Some to
        go true e m = absurd (true≢false e)
        go false e (inl k) = ap Some k
        go false e (inr m) = absurd m

-- lemma: the path that is made for a name and an end of it is a trace to that end
module _ (rows : Rows) (lawful : IsLawful rows) (to n : Values) where
  abbrev IsGoodTrace : Mode → Type 0
  IsGoodTrace mode = IsTrace rows mode n (trace_to (followed rows mode) to n) × EndsWith to (trace_to (followed rows mode) to n)

  pub good_trace : (mode : Mode) → Among (ends (followed rows mode) n) to → IsGoodTrace mode
  good_trace Plain at = let t = other_trace [] (linked rows Plain lawful) refl to n refl at in (t.0, t.1)
  good_trace Follow at = go (list_any (is_named n) rows.entries) refl where
    es : List Entry
    es = rows.entries

    go : (b : Bool) → list_any (is_named n) es ≡ b → IsGoodTrace Follow
    go true known = let t = entry_trace es (linked rows Follow lawful) lawful.dictionary.no_cycle to n known at in (inl (refl, t.0), t.1)
    go false absent = let t = other_trace es (linked rows Follow lawful) lawful.dictionary.no_cycle to n absent at in (inr (t.0, absent), t.1)
