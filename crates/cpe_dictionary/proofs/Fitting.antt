-- Lemmas: if all entries have different names, their nodes have the entries' numbers.
use Rattle.std.proofs.Common.{◌≡◌, ◌↔◌, ℕ, zero, suc, Bool, true, false, not, IsTrue, List, [], ◌∷◌, refl, sym, ap, subst, ◌∙◌, inl, inr, arith, Option, Some, None, slice_get}
use Rattle.std.specs.List.{Contains, list_any, cons_option, position}
use Rattle.std.specs.Option.{option_map}
use Rattle.std.proofs.lemmas.Option.{same_Some, none-some, slice_get-map}
use Rattle.std.proofs.lemmas.Bool.{or_left, or_right, or_cases, and_parts}
use Rattle.cpe_rows.specs.cpe_name.Eleven.{Values}
use Rattle.cpe_rows.specs.Names.{is_same}
use Rattle.cpe_rows.specs.Chains.{successors_of}
use Rattle.cpe_rows.specs.Lawful.{are_different}
use Rattle.cpe_rows.specs.Rows.{is_named}
use Rattle.cpe_rows.specs.declared.entry.Entry.{Entry}
use Rattle.deprecation_graph.specs.Graph.{next_or_none, active_or_not, next_of_node, active_in}
use Rattle.deprecation_graph.proofs.Rising.{Contains-cases, Contains-rest}
use Rattle.cpe_dictionary.specs.Numbers.{AreNumberedEntries, AreActiveEntries, numbers_of, node_of_entry, nodes_of_entries}
use Rattle.cpe_dictionary.proofs.Numbering.{entry_at}
use Rattle.cpe_dictionary.proofs.Places.{placed, passes_at, numbers_within}

clash : (b : Bool) → not b ≡ true → b ≡ true → ⊥
clash true h e = cc
clash false h e = cc

passes : (p : Entry → Bool) (es : List Entry) (i : ℕ) (y : Entry) → slice_get es i ≡ Some y → p y ≡ true → list_any p es ≡ true
passes p [] i y e h = absurd (none-some y e)
passes p (x ∷ xs) zero y e h = or_left (p x) (list_any p xs) (ap p (same_Some x y e) ∙ h)
passes p (x ∷ xs) (suc i) y e h = or_right (p x) (list_any p xs) (passes p xs i y e h)

module _ (same : (a b : Values) → IsTrue (is_same a b) ↔ (a ≡ b)) where
  turned : (a b : Values) → is_same a b ≡ true → is_same b a ≡ true
  turned a b h = (same b a).1 (sym ((same a b).0 h))

  apart : (es : List Entry) → are_different (λ (e : Entry). is_named e.name) es ≡ true → (i j : ℕ) (x y : Entry) → slice_get es i ≡ Some x → slice_get es j ≡ Some y → is_named x.name y ≡ true → i ≡ j
  apart [] d i j x y e f h = absurd (none-some x e)
  apart (z ∷ zs) d zero zero x y e f h = refl
  apart (z ∷ zs) d zero (suc j) x y e f h =
      let parts = and_parts (not (list_any (is_named z.name) zs)) (are_different (λ (v : Entry). is_named v.name) zs) d in
      absurd (clash (list_any (is_named z.name) zs) parts.0 (passes (is_named z.name) zs j y f (ap (λ (v : Entry). is_named v.name y) (same_Some z x e) ∙ h)))
  apart (z ∷ zs) d (suc i) zero x y e f h =
      let parts = and_parts (not (list_any (is_named z.name) zs)) (are_different (λ (v : Entry). is_named v.name) zs) d in
      absurd (clash (list_any (is_named z.name) zs) parts.0 (passes (is_named z.name) zs i x e (ap (λ (v : Entry). is_named v.name x) (same_Some z y f) ∙ turned x.name y.name h)))
  apart (z ∷ zs) d (suc i) (suc j) x y e f h =
      let parts = and_parts (not (list_any (is_named z.name) zs)) (are_different (λ (v : Entry). is_named v.name) zs) d in
      ap suc (apart zs parts.1 i j x y e f h)

  module _ (entries : List Entry) (different : are_different (λ (e : Entry). is_named e.name) entries ≡ true) where
    from_number : (ns : List Values) (b : ℕ) (y : Entry) → slice_get entries b ≡ Some y → Contains (numbers_of entries ns) b → list_any (is_same y.name) ns ≡ true
    from_number [] b y at c = absurd (omega (arith, c.1))
    from_number (n ∷ ns) b y at c = go (position (is_named n) entries) refl c (from_number ns b y at)
      where
        go : (o : Option ℕ) → position (is_named n) entries ≡ o → Contains (cons_option o (numbers_of entries ns)) b → (Contains (numbers_of entries ns) b → list_any (is_same y.name) ns ≡ true) → list_any (is_same y.name) (n ∷ ns) ≡ true
        go None e h rest = or_right (is_same y.name n) (list_any (is_same y.name) ns) (rest h)
        go (Some i) e h rest = elim (Contains-cases b i (numbers_of entries ns) h) [
          | inl is ↦ or_left (is_same y.name n) (list_any (is_same y.name) ns) (turned n y.name (passes_at (is_named n) entries b y (e ∙ ap Some (sym is)) at))
          | inr more ↦ or_right (is_same y.name n) (list_any (is_same y.name) ns) (rest more)
        ]

    to_number : (ns : List Values) (j : ℕ) (y : Entry) → slice_get entries j ≡ Some y → list_any (is_same y.name) ns ≡ true → Contains (numbers_of entries ns) j
    to_number [] j y at h = absurd cc
    to_number (n ∷ ns) j y at h = elim (or_cases (is_same y.name n) (list_any (is_same y.name) ns) h) [
      | inl is ↦ here (turned y.name n is)
      | inr later ↦ more (position (is_named n) entries) (to_number ns j y at later)
    ]
      where
        more : (o : Option ℕ) → Contains (numbers_of entries ns) j → Contains (cons_option o (numbers_of entries ns)) j
        more None c = c
        more (Some i) c = Contains-rest j i (numbers_of entries ns) c

        here : is_named n y ≡ true → Contains (cons_option (position (is_named n) entries) (numbers_of entries ns)) j
        here named =
            let found = placed (is_named n) entries (passes (is_named n) entries j y at named) in
            let names : found.entry.name ≡ y.name = sym ((same n found.entry.name).0 found.passes) ∙ (same n y.name).0 named in
            let is : found.place ≡ j = apart entries different found.place j found.entry y found.at at ((same found.entry.name y.name).1 names) in
            subst (λ (o : Option ℕ). Contains (cons_option o (numbers_of entries ns)) j) (sym found.first) (0, omega arith, is)

    next_at : (i : ℕ) (x : Entry) → slice_get entries i ≡ Some x → next_of_node (nodes_of_entries entries) i ≡ numbers_of entries (successors_of x)
    next_at i x e = ap next_or_none (slice_get-map (node_of_entry entries) entries i ∙ ap (option_map (node_of_entry entries)) e)

    pub nodes_numbered : AreNumberedEntries entries (next_of_node (nodes_of_entries entries))
    nodes_numbered = record {
      apart = apart entries different;
      edges = λ i j x y e f. (
        λ h. subst (λ (xs : List ℕ). Contains xs j) (sym (next_at i x e)) (to_number (successors_of x) j y f h),
        λ c. from_number (successors_of x) j y f (subst (λ (xs : List ℕ). Contains xs j) (next_at i x e) c),
      );
      closed = λ a b lt edge. let x = entry_at entries a lt in numbers_within entries (successors_of x.0) b (subst (λ (xs : List ℕ). Contains xs b) (next_at a x.0 x.1) edge);
    }

pub nodes_marked : (entries : List Entry) → AreActiveEntries entries (active_in (nodes_of_entries entries))
nodes_marked entries i x e = sym (ap active_or_not (slice_get-map (node_of_entry entries) entries i ∙ ap (option_map (node_of_entry entries)) e))
