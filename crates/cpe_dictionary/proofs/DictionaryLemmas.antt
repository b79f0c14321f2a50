-- Lemmas about a dictionary and its graph: results of searches, and the dictionary after a change.
use Rattle.std.proofs.Common.{◌≡◌, ℕ, zero, suc, ◌+◌, ◌<◌, ◌≤◌, Bool, true, false, cond, not, List, [], ◌∷◌, map, find, length, refl, sym, ap, subst, ◌∙◌, position, slice_set, eqb, arith}
use Rattle.std.specs.Prelude.{Option, Some, None, Result, Err, IfErr, is_some}
use Rattle.std.specs.List.{Contains, list_any, range_with_len}
use Rattle.std.proofs.lemmas.Option.{same_Some, none-some, slice_get_within}
use Rattle.std.proofs.lemmas.Map.Keys.{IsDistinct-from_apart}
use Rattle.std.proofs.lemmas.List.{length-map}
use Rattle.cpe_rows.specs.cpe_name.Eleven.{Values}
use Rattle.cpe_rows.specs.After.{changed}
use Rattle.cpe_rows.specs.Answers.{row_of}
use Rattle.cpe_rows.specs.Chains.{chain, ends}
use Rattle.cpe_rows.specs.Lawful.{IsDictionary}
use Rattle.cpe_rows.specs.Limits.{most}
use Rattle.cpe_rows.specs.Rows.{is_named}
use Rattle.cpe_rows.specs.declared.entry.Entry.{Entry}
use Rattle.cpe_rows.specs.declared.entry.Deprecation.{Deprecation}
use Rattle.cpe_rows.specs.declared.entry.Note.{Note}
use Rattle.cpe_rows.specs.declared.fault.EditFault.{EditFault}
use Rattle.cpe_rows.specs.declared.fault.Which.TheVariants as limit
use Rattle.deprecation_graph.specs.Chains.{ends_of_node}
use Rattle.deprecation_graph.specs.Faults.{first_graph_fault, change_fault, cycle_in, is_wide_node, wide_in}
use Rattle.deprecation_graph.specs.Graph.{IsChange, Node, active_in, chain_in, ends_in, next_of_node, successors, changed_nodes}
use Rattle.deprecation_graph.specs.declared.fault.GraphFault.TheVariants as graph
use Rattle.cpe_dictionary.specs.Answers.{ChainsOfNodes, EndsOfNodes}
use Rattle.cpe_dictionary.specs.Faults.{AreDifferent, WritesByNumber}
use Rattle.cpe_dictionary.specs.Numbers.{entries_at, node_of_entry, nodes_of_entries, ChangesByNumber, EndsByNumber, NodesAreMarked, NodesAreNumbered}
use Rattle.cpe_dictionary.proofs.Numbering.{entry_at}
use Rattle.cpe_dictionary.specs.Kept.{IsDictionaryGraph, entry_names_at, rewritten, written}
use Rattle.cpe_dictionary.specs.Plans.{numbered_successors}
use Rattle.cpe_dictionary.proofs.AtNumbers.{active_names}
use Rattle.cpe_dictionary.proofs.SeenLemmas.{unknown_by_place}
use Rattle.cpe_dictionary.proofs.Translating.{occurs_at, nodes_rewritten, written_set}

pub at_error : {A : Type 0} (r : Result A EditFault) (f : EditFault) (P : EditFault → Type 0) → r ≡ Err f → P f → IfErr r P
at_error r f P e h = subst (λ x. IfErr x P) (sym e) h

-- ---- results read from a chain

-- a function of entries gives one result for the chain that was read and for the chain in the entries' graph
pub at_chain : {A : Type 0} (f : List Entry → A) (xs es : List Entry) (ns : List Node) (ks : List ℕ) (k : ℕ) → ks ≡ chain_in ns k → ns ≡ nodes_of_entries xs → xs ≡ es → f (entries_at xs ks) ≡ f (entries_at es (chain_in (nodes_of_entries es) k))
at_chain f xs es ns ks k read numbered_successors view =
    ap (λ (ms : List ℕ). f (entries_at xs ms)) (read ∙ ap (λ (n : List Node). chain_in n k) numbered_successors)
    ∙ ap (λ (e : List Entry). f (entries_at e (chain_in (nodes_of_entries e) k))) view

module _ (es : List Entry) (n : Values) (k : ℕ) (place : position (is_named n) es ≡ Some k) (different : AreDifferent es) where
  pub entries_at_chain : ChainsOfNodes → entries_at es (chain_in (nodes_of_entries es) k) ≡ chain es n
  entries_at_chain chains =
      let at = occurs_at es n k place in
      sym (chains es k at.entry different at.here) ∙ ap (chain es) at.named

  pub links_at : ChainsOfNodes → map row_of (entries_at es (chain_in (nodes_of_entries es) k)) ≡ map row_of (chain es n)
  links_at chains = ap (map row_of) (entries_at_chain chains)

  pub ends_at : EndsOfNodes → active_names (entries_at es (chain_in (nodes_of_entries es) k)) ≡ ends es n
  ends_at ends_of_node =
      let at = occurs_at es n k place in
      sym (ends_of_node es k at.entry different at.here) ∙ ap (ends es) at.named

  pub ends_named : EndsByNumber → NodesAreNumbered → NodesAreMarked → entry_names_at es (ends_in (nodes_of_entries es) k) ≡ ends es n
  ends_named by_number are_numbered are_marked =
      let at = occurs_at es n k place in
      let nodes = nodes_of_entries es in
      ap (λ (count : ℕ). entry_names_at es (ends_of_node (next_of_node nodes) (active_in nodes) count k)) (length-map es (node_of_entry es))
      ∙ sym (by_number es (next_of_node nodes) (active_in nodes) k at.entry (are_numbered es different) (are_marked es) at.here)
      ∙ ap (ends es) at.named

double_not : (b : Bool) → not b ≡ true → b ≡ false
double_not true h = sym h
double_not false h = refl

pub no_entry : (es : List Entry) (n : Values) → position (is_named n) es ≡ None → list_any (is_named n) es ≡ false
no_entry es n h = double_not (list_any (is_named n) es) (unknown_by_place es n ∙ ap (λ (o : Option ℕ). not (is_some o)) h)

-- ---- the node with too many ends

found_within : (p : ℕ → Bool) (a n j : ℕ) → find p (range_with_len a n) ≡ Some j → j < a + n
found_within p a zero j h = absurd (none-some j h)
found_within p a (suc n) j h = go (p a) h (found_within p (a + 1) n j)
  where
    go : (b : Bool) → cond b (Some a) (find p (range_with_len (a + 1) n)) ≡ Some j → (find p (range_with_len (a + 1) n) ≡ Some j → j < a + 1 + n) → j < a + suc n
    go true e rest = let same = same_Some a j e in omega arith
    go false e rest = let less = rest e in omega arith

only_wide : (cycle wide : Option ℕ) (j : ℕ) → first_graph_fault cycle wide ≡ Some (graph.TooWide j) → wide ≡ Some j
only_wide (Some p) wide j h = let wrong : ⊥ = cc in absurd wrong
only_wide None None j h = let wrong : ⊥ = cc in absurd wrong
only_wide None (Some i) j h = let same : i ≡ j = cc in ap Some same

length_set : (nodes : List Node) (k : ℕ) (n : Node) → length (slice_set nodes k n) ≡ length nodes
length_set [] k n = refl
length_set (x ∷ xs) zero n = refl
length_set (x ∷ xs) (suc k) n = ap suc (length_set xs k n)

pub wide_within : (es : List Entry) (nodes : List Node) (k j : ℕ) (next : Option (List ℕ)) → nodes ≡ nodes_of_entries es → change_fault nodes k next ≡ Some (graph.TooWide j) → j < length es
wide_within es nodes k j next same h =
    let wide = changed_nodes nodes k next in
    let found = only_wide (cycle_in nodes k (successors next)) (wide_in wide) j h in
    let within : j < 0 + length wide = found_within (is_wide_node wide) 0 (length wide) j found in
    let count : length wide ≡ length es = length_set nodes k _ ∙ ap length same ∙ length-map es (node_of_entry es) in
    omega arith

-- ---- changes of one entry

length_entries : (es : List Entry) (k : ℕ) (x : Entry) → length (slice_set es k x) ≡ length es
length_entries [] k x = refl
length_entries (e ∷ es) zero x = refl
length_entries (e ∷ es) (suc k) x = ap suc (length_entries es k x)

pub kept_change : (es new : List Entry) (nodes next_nodes : List Node) (k : ℕ) (d : Option Deprecation) (note : Option Note) (next : Option (List ℕ)) → ChangesByNumber → IsDictionaryGraph es nodes → k < length (nodes_of_entries es)
    → next ≡ numbered_successors es d → IsDictionary (written (rewritten d note) k es) → new ≡ written (rewritten d note) k es → next_nodes ≡ changed_nodes nodes k next → IsDictionaryGraph new next_nodes
kept_change es new nodes next_nodes k d note next changes kept within same lawful is nodes_are =
    let at = entry_at es k (subst (λ (n : ℕ). k < n) (length-map es (node_of_entry es)) within) in
    let set = is ∙ written_set es k d note at.0 at.1 in
    record {
      lawful = subst IsDictionary (sym is) lawful;
      few = subst (λ (n : ℕ). n ≤ most limit.Entries) (sym (ap length set ∙ length_entries es k (rewritten d note at.0))) kept.few;
      numbered = nodes_are ∙ (λ i. changed_nodes (kept.numbered i) k (same i)) ∙ sym (nodes_rewritten es k d note at.0 at.1 changes) ∙ ap nodes_of_entries (sym set);
    }

-- if the entry of a name is at place k, rewriting the entry at place k changes the entry of this name
pub written_changed : (es : List Entry) (n : Values) (k : ℕ) (d : Option Deprecation) (note : Option Note) → WritesByNumber → position (is_named n) es ≡ Some k → written (rewritten d note) k es ≡ changed (rewritten d note) n es
written_changed es n k d note writes place =
    let at = occurs_at es n k place in
    written_set es k d note at.entry at.here ∙ sym (writes es (rewritten d note) n k at.entry place at.here)

not_there : (b : ℕ) → Contains [] b → ⊥
not_there b h = let within = h.1 in absurd (omega arith)

-- the graph can always check whether an entry may become active
pub asks_none : (es : List Entry) (n : Values) (k : ℕ) → position (is_named n) es ≡ Some k → IsChange (nodes_of_entries es) k None
asks_none es n k place =
    let at = occurs_at es n k place in
    record {
      names = record { node = subst (λ (m : ℕ). k < m) (sym (length-map es (node_of_entry es))) (slice_get_within es k at.entry at.here); next = λ b h. absurd (not_there b h) };
      few = omega arith;
      different = IsDistinct-from_apart eqb [] (λ i j x a b. absurd (omega arith));
    }
