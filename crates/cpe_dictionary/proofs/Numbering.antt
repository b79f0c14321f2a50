-- Lemmas: paths, chains and ends of entries are those of the entries' numbers.
use Rattle.std.proofs.Common.{◌≡◌, ℕ, zero, suc, ◌+◌, ◌<◌, Bool, true, false, cond, if◌then◌else◌, List, [], ◌∷◌, map, length, refl, sym, ap, subst, ◌∙◌, inl, inr, arith, Option, Some, None, slice_get, zero-add}
use Rattle.std.specs.Cmp.{both_ways as both}
use Rattle.std.specs.List.{Contains, filter, list_any, range_with_len, cons_option}
use Rattle.std.proofs.lemmas.Option.{slice_get_within, same_Some, none-some}
use Rattle.std.proofs.lemmas.Bool.{or_left, or_right, or_cases}
use Rattle.cpe_rows.specs.Reach.{Among, is_reached, IsDecided}
use Rattle.cpe_rows.specs.Reach.{Leads as IsReached}
use Rattle.cpe_rows.specs.Chains.{is_active, is_successor, chain, leads_to, ends}
use Rattle.cpe_rows.specs.Rows.{is_named}
use Rattle.cpe_rows.specs.declared.entry.Entry.{Entry}
use Rattle.deprecation_graph.specs.Paths.{HasEdge, Leads}
use Rattle.deprecation_graph.specs.Chains.{reaches, chain_of, ends_of_node}
use Rattle.deprecation_graph.specs.Laws.{ChainsArePaths}
use Rattle.std.proofs.lemmas.List.{length-map}
use Rattle.deprecation_graph.proofs.Rising.{Contains-rest}
use Rattle.deprecation_graph.proofs.PathLemmas.{Leads-self, Leads-then, Leads-forth, Leads-below}
use Rattle.cpe_dictionary.specs.Numbers.{AreNumberedEntries, AreActiveEntries, entries_at}

-- ---- the place of an entry of the dictionary

place_of : (entries : List Entry) (x : Entry) → Among entries x → (i : ℕ) × (slice_get entries i ≡ Some x)
place_of [] x h = absurd h
place_of (y ∷ ys) x (inl e) = (0, ap Some e)
place_of (y ∷ ys) x (inr h) = let r = place_of ys x h in (suc r.0, r.1)

among_at : (entries : List Entry) (i : ℕ) (x : Entry) → slice_get entries i ≡ Some x → Among entries x
among_at [] i x e = absurd (none-some x e)
among_at (y ∷ ys) zero x e = inl (same_Some y x e)
among_at (y ∷ ys) (suc i) x e = inr (among_at ys i x e)

pub entry_at : (entries : List Entry) (i : ℕ) → i < length entries → (x : Entry) × (slice_get entries i ≡ Some x)
entry_at [] i lt = absurd (omega arith)
entry_at (y ∷ ys) zero lt = (y, refl)
entry_at (y ∷ ys) (suc i) lt = entry_at ys i (omega arith)

-- ---- entries that pass a test, by their numbers

filter_at : (p : Entry → Bool) (q : ℕ → Bool) (all es : List Entry) (at : ℕ) → ((i : ℕ) → slice_get es i ≡ slice_get all (at + i)) → ((i : ℕ) (x : Entry) → slice_get es i ≡ Some x → p x ≡ q (at + i)) → filter p es ≡ entries_at all (filter q (range_with_len at (length es)))
filter_at p q all [] at same agree = refl
filter_at p q all (x ∷ es) at same agree =
    let here : slice_get all at ≡ Some x = ap (slice_get all) (sym (plus_zero at)) ∙ sym (same 0) in
    let test : p x ≡ q at = agree 0 x refl ∙ ap q (plus_zero at) in
    let rest = filter_at p q all es (at + 1) (λ i. same (suc i) ∙ ap (slice_get all) (next i)) (λ i y e. agree (suc i) y e ∙ ap q (next i)) in
    go (p x) (q at) test here rest
  where
    plus_zero : (n : ℕ) → n + 0 ≡ n
    plus_zero n = omega arith

    next : (i : ℕ) → at + suc i ≡ at + 1 + i
    next i = omega arith

    go : (b c : Bool) → b ≡ c → slice_get all at ≡ Some x → filter p es ≡ entries_at all (filter q (range_with_len (at + 1) (length es))) → cond b (x ∷ filter p es) (filter p es) ≡ entries_at all (cond c (at ∷ filter q (range_with_len (at + 1) (length es))) (filter q (range_with_len (at + 1) (length es))))
    go true true e here rest = ap (λ (xs : List Entry). x ∷ xs) rest ∙ sym (ap (λ (o : Option Entry). cons_option o (entries_at all (filter q (range_with_len (at + 1) (length es))))) here)
    go false false e here rest = rest
    go true false e here rest = absurd cc
    go false true e here rest = absurd cc

pub filter_entries_at : (entries : List Entry) (active : ℕ → Bool) (ks : List ℕ) → AreActiveEntries entries active → filter is_active (entries_at entries ks) ≡ entries_at entries (filter active ks)
filter_entries_at entries active [] marked = refl
filter_entries_at entries active (k ∷ ks) marked = go (slice_get entries k) refl (active k) refl (filter_entries_at entries active ks marked)
  where
    go : (o : Option Entry) → slice_get entries k ≡ o → (b : Bool) → active k ≡ b → filter is_active (entries_at entries ks) ≡ entries_at entries (filter active ks) → filter is_active (cons_option o (entries_at entries ks)) ≡ entries_at entries (cond b (k ∷ filter active ks) (filter active ks))
    go None e true f rest = rest ∙ sym (ap (λ (o : Option Entry). cons_option o (entries_at entries (filter active ks))) e)
    go None e false f rest = rest
    go (Some x) e true f rest =
        ap (λ (b : Bool). cond b (x ∷ filter is_active (entries_at entries ks)) (filter is_active (entries_at entries ks))) (marked k x e ∙ f)
        ∙ ap (λ (xs : List Entry). x ∷ xs) rest ∙ sym (ap (λ (o : Option Entry). cons_option o (entries_at entries (filter active ks))) e)
    go (Some x) e false f rest = ap (λ (b : Bool). cond b (x ∷ filter is_active (entries_at entries ks)) (filter is_active (entries_at entries ks))) (marked k x e ∙ f) ∙ rest

-- ---- paths of entries, and paths of their numbers

module _ (entries : List Entry) (next : ℕ → List ℕ) (k : ℕ) (e : Entry) (ok : AreNumberedEntries entries next) (is : slice_get entries k ≡ Some e) (itself : is_named e.name e ≡ true) where
  to_numbers : (before : List Entry) (j : ℕ) (y : Entry) → slice_get entries j ≡ Some y → IsReached is_successor entries (is_named e.name) before y → Leads next k j
  to_numbers [] j y here start = subst (Leads next k) (ok.apart k j e y is here start) (Leads-self k)
  to_numbers (x ∷ before) j y here l =
      let p = place_of entries x l.0 in
      Leads-then (to_numbers before p.0 x p.1 l.2) ((ok.edges p.0 j x y p.1 here).0 l.1)

  -- number j has an entry, and a path leads to this entry
  record Arrives (j : ℕ) : Type 0 where
    entry : Entry
    here : slice_get entries j ≡ Some entry
    before : List Entry
    path : IsReached is_successor entries (is_named e.name) before entry

  to_rows : (j : ℕ) → Leads next k j → Arrives j
  to_rows j l = Leads-forth Arrives step l (record { entry = e; here = is; before = []; path = itself })
    where
      step : (a c : ℕ) → HasEdge next a c → Arrives a → Arrives c
      step a c edge h =
          let y = entry_at entries c (ok.closed a c (slice_get_within entries a h.entry h.here) edge) in
          record {
            entry = y.0;
            here = y.1;
            before = h.entry ∷ h.before;
            path = (among_at entries a h.entry h.here, (ok.edges a c h.entry y.0 h.here y.1).1 edge, h.path);
          }

  same_reach : IsDecided is_successor entries (is_named e.name) → ChainsArePaths → (j : ℕ) (y : Entry) → slice_get entries j ≡ Some y → is_reached is_successor entries (is_named e.name) y ≡ reaches next (length entries) k j
  same_reach decided paths j y here =
      let d = decided y (among_at entries j y here) in
      let r = (paths next (λ i. true) (length entries) k ok.closed (slice_get_within entries k e is)).reached j in
      both (is_reached is_successor entries (is_named e.name) y) (reaches next (length entries) k j)
      (λ t. let p = d.0 t in r.1 (to_numbers p.0 j y here p.1))
      (λ t. arrive y here (to_rows j (r.0 t)) d.1)
    where
      arrive : (z : Entry) → slice_get entries j ≡ Some z → Arrives j → ((before : List Entry) → IsReached is_successor entries (is_named e.name) before z → is_reached is_successor entries (is_named e.name) z ≡ true) → is_reached is_successor entries (is_named e.name) z ≡ true
      arrive z at h found = found h.before (subst (IsReached is_successor entries (is_named e.name) h.before) (same_Some h.entry z (sym h.here ∙ at)) h.path)

  pub chain_by_number : IsDecided is_successor entries (is_named e.name) → ChainsArePaths → chain entries e.name ≡ entries_at entries (chain_of next (length entries) k)
  unfolding chain_of
  chain_by_number decided paths = filter_at (is_reached is_successor entries (is_named e.name)) (reaches next (length entries) k) entries entries 0 (λ i. ap (slice_get entries) (sym (zero-add i))) (λ i x here. same_reach decided paths i x here ∙ ap (reaches next (length entries) k) (sym (zero-add i)))

  named : (es : List Entry) (i : ℕ) → slice_get es i ≡ Some e → list_any (is_named e.name) es ≡ true
  named [] i h = absurd (none-some e h)
  named (y ∷ ys) zero h = or_left (is_named e.name y) (list_any (is_named e.name) ys) (ap (is_named e.name) (same_Some y e h) ∙ itself)
  named (y ∷ ys) (suc i) h = or_right (is_named e.name y) (list_any (is_named e.name) ys) (named ys i h)

  pub ends_by_number : (active : ℕ → Bool) → AreActiveEntries entries active → IsDecided is_successor entries (is_named e.name) → ChainsArePaths → ends entries e.name ≡ map (λ x. x.name) (entries_at entries (ends_of_node next active (length entries) k))
  ends_by_number active marked decided paths =
      ap (λ (b : Bool). if b then map (λ (x : Entry). x.name) (filter is_active (chain entries e.name)) else e.name ∷ []) (named entries k is)
      ∙ ap (λ (xs : List Entry). map (λ (x : Entry). x.name) (filter is_active xs)) (chain_by_number decided paths)
      ∙ ap (map (λ (x : Entry). x.name)) (filter_entries_at entries active (chain_of next (length entries) k) marked)

  -- each number of the list has an entry
  length_at : (ks : List ℕ) → ((x : ℕ) → Contains ks x → x < length entries) → length (entries_at entries ks) ≡ length ks
  length_at [] below = refl
  length_at (x ∷ xs) below =
      let there = entry_at entries x (below x (0, omega arith, refl)) in
      let rest = length_at xs (λ y c. below y (Contains-rest y x xs c)) in
      ap (λ (o : Option Entry). length (cons_option o (entries_at entries xs))) there.1 ∙ ap suc rest

  pub widths_by_number : (active : ℕ → Bool) → AreActiveEntries entries active → IsDecided is_successor entries (is_named e.name) → ChainsArePaths → length (ends entries e.name) ≡ length (ends_of_node next active (length entries) k)
  widths_by_number active marked decided paths =
      let within = slice_get_within entries k e is in
      let members = (paths next active (length entries) k ok.closed within).ends.members in
      let numbers = ends_of_node next active (length entries) k in
      ap length (ends_by_number active marked decided paths)
      ∙ length-map (entries_at entries numbers) (λ (x : Entry). x.name)
      ∙ length_at numbers (λ x c. Leads-below ok.closed within ((members x).0 c).0)

  pub paths_by_number : (j : ℕ) (y : Entry) → slice_get entries j ≡ Some y → is_named y.name y ≡ true → IsDecided is_successor entries (is_named e.name) → ChainsArePaths → leads_to entries e.name y.name ≡ reaches next (length entries) k j
  paths_by_number j y here self decided paths =
      only entries (λ x h. place_of entries x h) (among_at entries j y here) ∙ same_reach decided paths j y here
    where
      test : Entry → Bool
      test = is_reached is_successor entries (is_named e.name)

      reached : (xs : List Entry) → ((x : Entry) → Among xs x → (i : ℕ) × (slice_get entries i ≡ Some x)) → list_any (is_named y.name) (filter test xs) ≡ true → test y ≡ true
      reached [] placed t = absurd cc
      reached (x ∷ xs) placed t = go (test x) refl t (reached xs (λ z h. placed z (inr h)))
        where
          go : (b : Bool) → is_reached is_successor entries (is_named e.name) x ≡ b → list_any (is_named y.name) (cond b (x ∷ filter (is_reached is_successor entries (is_named e.name)) xs) (filter (is_reached is_successor entries (is_named e.name)) xs)) ≡ true → (list_any (is_named y.name) (filter (is_reached is_successor entries (is_named e.name)) xs) ≡ true → is_reached is_successor entries (is_named e.name) y ≡ true) → is_reached is_successor entries (is_named e.name) y ≡ true
          go false f u rest = rest u
          go true f u rest = elim (or_cases (is_named y.name x) (list_any (is_named y.name) (filter (is_reached is_successor entries (is_named e.name)) xs)) u) [
            | inl named' ↦
                let p = placed x (inl refl) in
                let same : j ≡ p.0 = ok.apart j p.0 y x here p.1 named' in
                ap (is_reached is_successor entries (is_named e.name)) (same_Some y x (sym here ∙ ap (slice_get entries) same ∙ p.1)) ∙ f
            | inr later ↦ rest later
          ]

      found : (xs : List Entry) → Among xs y → test y ≡ true → list_any (is_named y.name) (filter test xs) ≡ true
      found [] h t = absurd h
      found (x ∷ xs) (inl same) t =
          ap (λ (b : Bool). list_any (is_named y.name) (cond b (x ∷ filter test xs) (filter test xs))) (ap test same ∙ t)
          ∙ or_left (is_named y.name x) (list_any (is_named y.name) (filter test xs)) (ap (is_named y.name) same ∙ self)
      found (x ∷ xs) (inr h) t = go (test x) (found xs h t)
        where
          go : (b : Bool) → list_any (is_named y.name) (filter (is_reached is_successor entries (is_named e.name)) xs) ≡ true → list_any (is_named y.name) (cond b (x ∷ filter (is_reached is_successor entries (is_named e.name)) xs) (filter (is_reached is_successor entries (is_named e.name)) xs)) ≡ true
          go true r = or_right (is_named y.name x) (list_any (is_named y.name) (filter (is_reached is_successor entries (is_named e.name)) xs)) r
          go false r = r

      only : (xs : List Entry) → ((x : Entry) → Among xs x → (i : ℕ) × (slice_get entries i ≡ Some x)) → Among xs y → list_any (is_named y.name) (filter test xs) ≡ test y
      only xs placed h = both (list_any (is_named y.name) (filter test xs)) (test y) (reached xs placed) (λ t. found xs h t)
