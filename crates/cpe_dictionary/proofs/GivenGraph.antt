-- Lemmas: the graph of entries that all get their deprecations in one call, made of the numbers of successors.
use Rattle.std.proofs.Common.{◌≡◌, ◌↔◌, ℕ, ◌+◌, ◌≤◌, Bool, true, false, not, if◌then◌else◌, is_none, ◌&&◌, IsTrue, List, [], ◌∷◌, length, map, refl, sym, ap, subst, ◌∙◌, arith, Option, Some, None}
use Rattle.std.specs.Cmp.{both_ways as both}
use Rattle.std.specs.List.{All, AllByRecursion, list_all, list_any}
use Rattle.std.proofs.lemmas.List.Elements.{All-cons, All-nil}
use Rattle.std.proofs.lemmas.Bool.{and_parts, not-true, or_from, or_parts}
use Rattle.cpe_rows.specs.cpe_name.Eleven.{Values}
use Rattle.cpe_rows.specs.Faults.{is_count, repeated_from}
use Rattle.cpe_rows.specs.Lawful.{are_different, IsDictionary}
use Rattle.cpe_rows.specs.Limits.{most}
use Rattle.cpe_rows.specs.Names.{is_same}
use Rattle.cpe_rows.specs.declared.entry.Deprecation.{Deprecation}
use Rattle.cpe_rows.specs.declared.entry.Entry.{Entry}
use Rattle.cpe_rows.specs.declared.fault.Which.TheVariants as limit
use Rattle.cpe_rows.proofs.NameTests.{not_same}
use Rattle.cpe_rows.proofs.Unrefused.{none_repeated}
use Rattle.deprecation_graph.specs.Graph.{IsLawfulGraph, Node}
use Rattle.deprecation_graph.specs.Laws.{ChainsArePaths}
use Rattle.deprecation_graph.specs.Filled.{AreAllowed, IsBrief, nodes_of_lists}
use Rattle.cpe_dictionary.specs.Faults.{DifferentByNumber, NamesHaveNumbers, RepeatsByNumber}
use Rattle.cpe_dictionary.specs.Given.{are_entries, each_deprecated, may_have_deprecation}
use Rattle.cpe_dictionary.specs.Kept.{IsDictionaryGraph}
use Rattle.cpe_dictionary.specs.Numbers.{nodes_of_entries, NodesAreMarked, NodesAreNumbered, numbers_of, PathsByNumber, WidthsByNumber}
use Rattle.cpe_dictionary.specs.Plans.{numbered_successors}
use Rattle.cpe_dictionary.proofs.Edited.{count_few}
use Rattle.cpe_dictionary.proofs.GivenLemmas.{dictionary_given, length_given, may_have_given, nodes_given, still_different, successors_known}
use Rattle.cpe_dictionary.proofs.LawfulNodes.{lawful_nodes, no_cycle, no_wide}

-- ---- names that are all different

-- if no name of `ns` is n or in `seen`, no name of `ns` is in `n ∷ seen`
apart_more : (n : Values) (seen ns : List Values) → list_any (is_same n) ns ≡ false → AllByRecursion (λ m. list_any (is_same m) seen ≡ false) ns
    → AllByRecursion (λ m. list_any (is_same m) (n ∷ seen) ≡ false) ns
apart_more n seen [] h apart = tt
apart_more n seen (m ∷ ms) h apart =
    let parts = or_parts (is_same n m) (list_any (is_same n) ms) h in
    (or_from (is_same m n) (list_any (is_same m) seen) (not_same n m parts.0) apart.0, apart_more n seen ms parts.1 apart.1)

unrepeated : (seen : List Values) (k : ℕ) (ns : List Values) → are_different is_same ns ≡ true
    → AllByRecursion (λ m. list_any (is_same m) seen ≡ false) ns → repeated_from is_same seen k ns ≡ None
unrepeated seen k [] h apart = refl
unrepeated seen k (n ∷ ns) h apart =
    let parts = and_parts (not (list_any (is_same n) ns)) (are_different is_same ns) h in
    ap (λ (b : Bool). if b then Some k else repeated_from is_same (n ∷ seen) (k + 1) ns) apart.0
    ∙ unrepeated (n ∷ seen) (k + 1) ns parts.1 (apart_more n seen ns (not-true (list_any (is_same n) ns) parts.0) apart.1)

nothing_seen : (ns : List Values) → AllByRecursion (λ m. list_any (is_same m) [] ≡ false) ns
nothing_seen [] = tt
nothing_seen (n ∷ ns) = (refl, nothing_seen ns)

pub none_repeats : (ns : List Values) → are_different is_same ns ≡ true → repeated_from is_same [] 1 ns ≡ None
none_repeats ns h = unrepeated [] 1 ns h (nothing_seen ns)

is_none_at : {A : Type 0} (o : Option A) → is_none o ≡ true → o ≡ None
is_none_at None h = refl
is_none_at (Some x) h = absurd cc

pub different_is : (ns : List Values) → are_different is_same ns ≡ is_none (repeated_from is_same [] 1 ns)
different_is ns = both (are_different is_same ns) (is_none (repeated_from is_same [] 1 ns)) (λ h. ap is_none (none_repeats ns h)) (λ h. none_repeated is_same not_same ns (is_none_at (repeated_from is_same [] 1 ns) h))

-- ---- the lists of numbers from which the graph is made

module _ (numbers : NamesHaveNumbers) (repeats : RepeatsByNumber) (differ : DifferentByNumber) (es : List Entry) where
  brief_of : (d : Option Deprecation) → may_have_deprecation es d ≡ true → IsBrief (numbered_successors es d)
  brief_of None h = record { few = omega arith; different = differ [] refl }
  brief_of (Some d) h =
      let parts = and_parts (is_count d.kind (length d.successors)) (are_entries es d.successors && are_different is_same d.successors) h in
      let entries = and_parts (are_entries es d.successors) (are_different is_same d.successors) parts.1 in
      let each = (numbers es d.successors entries.0).each in
      let few = count_few d.kind (length d.successors) parts.0 in
      record {
        few = omega (arith, each, few);
        different = differ (numbers_of es d.successors) (sym (repeats es d.successors entries.0) ∙ none_repeats d.successors entries.1);
      }

  all_brief : (ds : List (Option Deprecation)) → list_all (may_have_deprecation es) ds ≡ true → All IsBrief (map (numbered_successors es) ds)
  all_brief [] h = All-nil IsBrief
  all_brief (d ∷ ds) h =
      let parts = and_parts (may_have_deprecation es d) (list_all (may_have_deprecation es) ds) h in
      All-cons IsBrief (numbered_successors es d) (map (numbered_successors es) ds) (brief_of d parts.0) (all_brief ds parts.1)

-- ---- the graph that is made of the lists

module _ (same : (a b : Values) → IsTrue (is_same a b) ↔ (a ≡ b)) (chains : ChainsArePaths) (are_numbered : NodesAreNumbered) (marked : NodesAreMarked) (paths : PathsByNumber) (widths : WidthsByNumber)
    (es : List Entry) (ds : List (Option Deprecation)) (even : length ds ≡ length es) (old : IsDictionary es) (few : length es ≤ most limit.Entries) where
  abbrev left : List Entry
  left = each_deprecated es ds

  abbrev lists : List (Option (List ℕ))
  lists = map (numbered_successors es) ds

  few_left : length left ≤ most limit.Entries
  few_left = omega (arith, few, length_given es ds)

  pub kept_given : (nodes : List Node) → list_all (may_have_deprecation es) ds ≡ true → nodes ≡ nodes_of_lists lists → AreAllowed lists → IsDictionaryGraph left nodes
  kept_given nodes may are allowed =
      let lawful : IsLawfulGraph (nodes_of_entries left) = subst IsLawfulGraph (sym (nodes_given es ds even)) allowed.lawful in
      let different = still_different es ds even old may in
      record {
        lawful =
            dictionary_given es ds even old may
            (no_cycle same chains are_numbered marked paths widths left different (successors_known es ds even old may) lawful.acyclic)
            (no_wide same chains are_numbered marked paths widths left different lawful.narrow);
        few = few_left;
        numbered = are ∙ sym (nodes_given es ds even);
      }

  pub allowed_given : NamesHaveNumbers → RepeatsByNumber → DifferentByNumber → IsDictionary left → AreAllowed lists
  allowed_given numbers repeats differ d =
      let may = may_have_given es ds even d in
      record {
        lawful = subst IsLawfulGraph (nodes_given es ds even) (lawful_nodes same chains are_numbered marked paths widths left d.names_differ d few_left);
        brief = all_brief numbers repeats differ es ds may;
      }
