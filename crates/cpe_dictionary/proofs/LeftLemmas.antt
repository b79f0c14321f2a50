-- Lemmas: the entries after a planned change, with their names, places and ends.
use Rattle.std.proofs.Common.{◌≡◌, ℕ, zero, suc, ◌+◌, ◌<◌, Bool, cond, List, [], ◌∷◌, map, filter, refl, sym, ap, subst, ◌∙◌, position, slice_get, slice_set, if◌then◌else◌}
use Rattle.std.specs.Prelude.{Option, Some, None, option_map}
use Rattle.std.specs.List.{cons_option, position_from}
use Rattle.std.specs.Option.{option_map_or}
use Rattle.std.proofs.lemmas.Option.{same_Some}
use Rattle.std.proofs.lemmas.Iterator.Adapters.{position_from-zero}
use Rattle.std.proofs.lemmas.List.{length-map}
use Rattle.cpe_rows.specs.cpe_name.Eleven.{Values}
use Rattle.cpe_rows.specs.Chains.{is_active, chain, ends}
use Rattle.cpe_rows.specs.Names.{is_same}
use Rattle.cpe_rows.specs.Rows.{is_named}
use Rattle.cpe_rows.specs.declared.entry.Entry.{Entry}
use Rattle.cpe_rows.specs.declared.entry.Deprecation.{Deprecation}
use Rattle.cpe_rows.specs.declared.entry.Note.{Note}
use Rattle.deprecation_graph.specs.Graph.{Node, changed_nodes, ends_in}
use Rattle.cpe_dictionary.specs.Edits.{NamesStayDifferent}
use Rattle.cpe_dictionary.specs.Faults.{AreDifferent}
use Rattle.cpe_dictionary.specs.Numbers.{entries_at, node_of_entry, nodes_of_entries, ChangesByNumber, EndsByNumber, NodesAreMarked, NodesAreNumbered}
use Rattle.cpe_dictionary.proofs.Numbering.{entry_at}
use Rattle.cpe_dictionary.specs.Kept.{entry_names_at, rewritten}
use Rattle.cpe_dictionary.specs.Plans.{PlansLead, ends_at}
use Rattle.cpe_dictionary.specs.declared.plans.Plan.{Plan}
use Rattle.cpe_dictionary.proofs.DictionaryLemmas.{ends_named, no_entry}
use Rattle.cpe_dictionary.proofs.Translating.{nodes_rewritten, written_set}

module _ (d : Option Deprecation) (note : Option Note) where
  -- names keep their places
  place_set : (p : Values → Bool) (i : ℕ) (es : List Entry) (k : ℕ) (e : Entry) → slice_get es k ≡ Some e
      → position_from (λ (x : Entry). p x.name) i (slice_set es k (rewritten d note e)) ≡ position_from (λ (x : Entry). p x.name) i es
  place_set p i [] k e h = refl
  place_set p i (x ∷ xs) zero e h = ap (λ (y : Entry). cond (p y.name) (Some i) (position_from (λ (z : Entry). p z.name) (i + 1) xs)) (sym (same_Some x e h))
  place_set p i (x ∷ xs) (suc k) e h = ap (cond (p x.name) (Some i)) (place_set p (i + 1) xs k e h)

  name_set : (es : List Entry) (j k : ℕ) (e : Entry) → slice_get es j ≡ Some e
      → option_map (λ (x : Entry). x.name) (slice_get (slice_set es j (rewritten d note e)) k) ≡ option_map (λ (x : Entry). x.name) (slice_get es k)
  name_set [] j k e h = refl
  name_set (x ∷ xs) zero zero e h = ap (λ (y : Entry). Some y.name) (sym (same_Some x e h))
  name_set (x ∷ xs) zero (suc k) e h = refl
  name_set (x ∷ xs) (suc j) zero e h = refl
  name_set (x ∷ xs) (suc j) (suc k) e h = name_set xs j k e h

  first_name : (es : List Entry) (k : ℕ) (ks : List ℕ) → entry_names_at es (k ∷ ks) ≡ cons_option (option_map (λ (x : Entry). x.name) (slice_get es k)) (entry_names_at es ks)
  first_name es k ks = go (slice_get es k)
    where
      go : (o : Option Entry) → map (λ (x : Entry). x.name) (cons_option o (entries_at es ks)) ≡ cons_option (option_map (λ (x : Entry). x.name) o) (entry_names_at es ks)
      go None = refl
      go (Some x) = refl

  names_set : (es : List Entry) (j : ℕ) (e : Entry) → slice_get es j ≡ Some e → (ks : List ℕ) → entry_names_at (slice_set es j (rewritten d note e)) ks ≡ entry_names_at es ks
  names_set es j e h [] = refl
  names_set es j e h (k ∷ ks) =
      first_name (slice_set es j (rewritten d note e)) k ks
      ∙ (λ i. cons_option (name_set es j k e h i) (names_set es j e h ks i))
      ∙ sym (first_name es k ks)

-- a name that no entry has is its own end
alone : (es : List Entry) (n : Values) → position (is_named n) es ≡ None → ends es n ≡ n ∷ []
alone es n h = ap (λ (b : Bool). if b then map (λ (e : Entry). e.name) (active es) else n ∷ []) (no_entry es n h)
  where
    active : List Entry → List Entry
    active xs = filter is_active (chain xs n)

module _ (changes : ChangesByNumber) (differ : NamesStayDifferent) (by_number : EndsByNumber) (are_numbered : NodesAreNumbered) (are_marked : NodesAreMarked) where
  pub leads : PlansLead
  leads es left p n different allowed by =
      let k = p.number in
      let d = by.deprecation in
      let note = by.note in
      let within = subst (λ (m : ℕ). k < m) (length-map es (node_of_entry es)) allowed.change.names.node in
      let at = entry_at es k within in
      let next = slice_set es k (rewritten d note at.0) in
      let is : left ≡ next = by.written ∙ written_set es k d note at.0 at.1 in
      let place : position (is_named n) next ≡ position (is_named n) es =
      position_from-zero (is_named n) next ∙ place_set d note (is_same n) 0 es k at.0 at.1 ∙ sym (position_from-zero (is_named n) es) in
      let nodes : nodes_of_entries next ≡ changed_nodes (nodes_of_entries es) k p.next =
      nodes_rewritten es k d note at.0 at.1 changes ∙ ap (changed_nodes (nodes_of_entries es) k) (sym by.next) in
      by_place es next p n k place nodes (names_set d note es k at.0 at.1) (differ es k at.0 (rewritten d note at.0) at.1 refl different) (position (is_named n) es) refl
      ∙ ap (λ (xs : List Entry). ends xs n) (sym is)
    where
      by_place : (es next : List Entry) (p : Plan) (n : Values) (k : ℕ) → position (is_named n) next ≡ position (is_named n) es → nodes_of_entries next ≡ changed_nodes (nodes_of_entries es) p.number p.next
          → ((ks : List ℕ) → entry_names_at next ks ≡ entry_names_at es ks) → AreDifferent next → (o : Option ℕ) → position (is_named n) es ≡ o → option_map_or (ends_at es p) o (n ∷ []) ≡ ends next n
      by_place es next p n k place nodes names different None at = sym (alone next n (place ∙ at))
      by_place es next p n k place nodes names different (Some j) at =
          sym (names (ends_in (changed_nodes (nodes_of_entries es) p.number p.next) j))
          ∙ ap (λ (ns : List Node). entry_names_at next (ends_in ns j)) (sym nodes)
          ∙ ends_named next n j (place ∙ at) different by_number are_numbered are_marked
