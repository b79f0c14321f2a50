-- Lemmas: the sources of an entry, by the numbers of entries.
use Rattle.std.proofs.Common.{◌≡◌, ◌≤◌, ◌<◌, ℕ, Bool, true, false, List, [], length, get_or, position, sym, ap, subst, ◌∙◌, arith, inl, inr}
use Rattle.std.specs.Cmp.{both_ways as both}
use Rattle.std.specs.Prelude.{◌↔◌, IsTrue, Result, Ok, Err, Some, MatchResult, slice_get}
use Rattle.std.specs.List.{Contains, list_any}
use Rattle.std.specs.List.Sorted.{IsBinarySearchResult, IsStrictlyIncreasing}
use Rattle.std.specs.Ordering.{nat_cmp}
use Rattle.std.proofs.lemmas.List.Kept.{AllPairs-from_increasing}
use Rattle.std.proofs.lemmas.List.Sorted.{searched}
use Rattle.std.proofs.lemmas.Bool.{cases_lt}
use Rattle.std.proofs.lemmas.List.{get_or_default, length-map}
use Rattle.std.proofs.lemmas.Option.{same_Some, slice_get_within}
use Rattle.cpe_rows.specs.cpe_name.Eleven.{Values}
use Rattle.cpe_rows.specs.Chains.{chain, leads_to}
use Rattle.cpe_rows.specs.Rows.{is_named}
use Rattle.cpe_rows.specs.declared.entry.Entry.{Entry}
use Rattle.deprecation_graph.specs.Chains.{AreSources, sources_of}
use Rattle.deprecation_graph.specs.Graph.{next_of_node, sources_in}
use Rattle.deprecation_graph.specs.Laws.{ChainsArePaths}
use Rattle.deprecation_graph.specs.Paths.{Leads}
use Rattle.cpe_dictionary.specs.Faults.{AreDifferent}
use Rattle.cpe_dictionary.specs.Numbers.{node_of_entry, nodes_of_entries, NodesAreNumbered, PathsByNumber}
use Rattle.cpe_dictionary.proofs.Numbering.{entry_at}
use Rattle.cpe_dictionary.specs.Sources.{AreSourcesOf, IsSource}
use Rattle.cpe_dictionary.proofs.Translating.{IsEntryAt, occurs_at}

-- ---- a number in an increasing list

rises : (xs : List ℕ) → IsStrictlyIncreasing xs → (i j : ℕ) → i ≤ j → j < length xs → get_or xs i 0 ≤ get_or xs j 0
rises xs rising i j before within = elim (cases_lt i j) [
  | inl h ↦ let below = AllPairs-from_increasing xs rising i j 0 h within in omega (arith, below)
  | inr h ↦ let same : i ≡ j = omega (arith, before, h) in omega (arith, ap (λ (k : ℕ). get_or xs k 0) same)
]

-- a binary search finds a number exactly if the list has it
pub found_rising : (xs : List ℕ) (x : ℕ) (r : Result ℕ ℕ) → IsBinarySearchResult (λ y. nat_cmp y x) xs r → IsStrictlyIncreasing xs
    → MatchResult r (λ i. Contains xs x) (λ i. Contains xs x → ⊥)
found_rising xs x (Ok i) h rising =
    let at = searched xs x (Ok i) h (rises xs rising) in
    (i, at.0, get_or_default xs i x 0 at.0 ∙ at.1)
found_rising xs x (Err i) h rising = λ there. absent there.0 there.1 (get_or_default xs there.0 0 x there.1 ∙ there.2)
  where
    absent : (k : ℕ) → k < length xs → get_or xs k 0 ≡ x → ⊥
    absent k within same =
        let none = searched xs x (Err i) h (rises xs rising) in
        elim (cases_lt k i) [
          | inl below ↦ let less = none.1 k below in omega (arith, less, same)
          | inr above ↦ let more = none.2 k above within in omega (arith, more, same)
        ]

-- ---- sources by their numbers

-- the sources of a node in the graph are the sources of its entry
pub sources_by_number : (es : List Entry) (to : Values) (j : ℕ) (xs : List ℕ) → PathsByNumber → NodesAreNumbered → ChainsArePaths → AreDifferent es
    → position (is_named to) es ≡ Some j → xs ≡ sources_in (nodes_of_entries es) j → AreSourcesOf es to xs
sources_by_number es to j xs paths numbered chains different at is =
    let y = occurs_at es to j at in
    let next = next_of_node (nodes_of_entries es) in
    let are = numbered es different in
    let here = is ∙ ap (λ (n : ℕ). sources_of next n j) (length-map es (node_of_entry es)) in
    let sources = subst (AreSources next (length es) j) (sym here) (chains next (λ a. true) (length es) j are.closed (slice_get_within es j y.entry y.here)).sources in
    record { rising = sources.rising; members = λ k. (leads k (sources.members k), is_led k (sources.members k)) }
  where
    next : ℕ → List ℕ
    next = next_of_node (nodes_of_entries es)

    -- a path leads from one number to another exactly if the entry of the first leads to that of the second
    led : (k : ℕ) (e : Entry) → slice_get es k ≡ Some e → IsTrue (leads_to es e.name to) ↔ Leads next k j
    led k e here =
        let y = occurs_at es to j at in
        let are = numbered es different in
        let same = paths es next k j e y.entry are here y.here in
        let way = (chains next (λ a. true) (length es) k are.closed (slice_get_within es k e here)).reached j in
        let named = ap (λ (m : Values). leads_to es e.name m) y.named in
        (λ h. way.0 (sym same ∙ named ∙ h), λ h. sym named ∙ same ∙ way.1 h)

    leads : (k : ℕ) → Contains xs k ↔ ((k < length es) × Leads next k j) → Contains xs k → IsSource es to k
    leads k members h =
        let m = members.0 h in
        let e = entry_at es k m.0 in
        (e.0, e.1, (led k e.0 e.1).1 m.1)

    is_led : (k : ℕ) → Contains xs k ↔ ((k < length es) × Leads next k j) → IsSource es to k → Contains xs k
    is_led k members (e, here, h) = members.1 (slice_get_within es k e here, (led k e here).0 h)

-- an entry leads to the name exactly if its number is one of the sources
pub leads_exactly : (es : List Entry) (n to : Values) (k : ℕ) (ks : List ℕ) (found : Bool) → position (is_named n) es ≡ Some k → AreSourcesOf es to ks → (IsTrue found ↔ Contains ks k)
    → found ≡ leads_to es n to
leads_exactly es n to k ks found at sources has =
    let x = occurs_at es n k at in
    both found (leads_to es x.entry.name to) (λ h. led (sources.members k) x (has.0 h)) (λ h. has.1 ((sources.members k).1 (x.entry, x.here, h))) ∙ (λ i. leads_to es (x.named i) to)
  where
    led : Contains ks k ↔ IsSource es to k → (x : IsEntryAt es n k) → Contains ks k → leads_to es x.entry.name to ≡ true
    led members x h =
        let source = members.0 h in
        let same = same_Some source.0 x.entry (sym source.1 ∙ x.here) in
        ap (λ (e : Entry). leads_to es e.name to) (sym same) ∙ source.2

-- a name without an entry leads to no entry
pub leads_nowhere : (es : List Entry) (n to : Values) → chain es n ≡ [] → leads_to es n to ≡ false
leads_nowhere es n to h = ap (list_any (is_named to)) h
