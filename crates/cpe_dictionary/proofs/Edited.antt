-- Lemmas: what an edit of an entry does, by the entry's number, and a bound on the number of edges.
use Rattle.std.proofs.Common.{◌≡◌, ℕ, zero, suc, ◌+◌, ◌*◌, ◌≤◌, Bool, true, false, cond, nat_le, List, [], ◌∷◌, map, length, refl, sym, ap, ◌∙◌, arith, Option, Some, None, slice_get, slice_set, zero-add}
use Rattle.std.specs.List.{list_any, list_all, cons_option, position, position_from}
use Rattle.std.specs.Option.{option_map_or}
use Rattle.std.proofs.lemmas.Option.{same_Some, none-some}
use Rattle.std.proofs.lemmas.Bool.{and_parts, leb-true}
use Rattle.std.proofs.lemmas.List.Sums.{sum_by-cons}
use Rattle.std.proofs.lemmas.Iterator.Adapters.{position_from-zero}
use Rattle.cpe_rows.specs.cpe_name.Eleven.{Values}
use Rattle.cpe_rows.specs.Rows.{is_named}
use Rattle.cpe_rows.specs.After.{changed}
use Rattle.cpe_rows.specs.Chains.{successors_of}
use Rattle.cpe_rows.specs.Faults.{is_count}
use Rattle.cpe_rows.specs.Lawful.{has_count}
use Rattle.cpe_rows.specs.declared.limits.TheConstants.{MOST_SUCCESSORS}
use Rattle.cpe_rows.specs.declared.entry.Entry.{Entry}
use Rattle.cpe_rows.specs.declared.entry.Deprecation.{Deprecation}
use Rattle.cpe_rows.specs.declared.entry.Kind.{Kind}
use Rattle.cpe_rows.specs.declared.entry.Kind.TheVariants.{NameCorrection, NameRemoval, AdditionalInformation}
use Rattle.deprecation_graph.specs.Graph.{Node, edge_count}
use Rattle.cpe_dictionary.specs.Numbers.{numbers_of, node_of_entry}
use Rattle.cpe_dictionary.specs.Faults.{AreEntries, WritesByNumber, NamesHaveNumbers, EdgesAreFew}
use Rattle.cpe_dictionary.proofs.Places.{entry_from, placed, numbers_within}

-- ---- a change of the entry of a name

written : (f : Entry → Entry) (n : Values) (i : ℕ) (es : List Entry) (k : ℕ) (e : Entry) → position_from (is_named n) i es ≡ Some (i + k) → slice_get es k ≡ Some e → changed f n es ≡ slice_set es k (f e)
written f n i [] k e first at = absurd (none-some e at)
written f n i (x ∷ xs) zero e first at = go (is_named n x) first
  where
    go : (b : Bool) → cond b (Some i) (position_from (is_named n) (i + 1) xs) ≡ Some (i + 0) → cond b (f x ∷ xs) (x ∷ changed f n xs) ≡ f e ∷ xs
    go true h = ap (λ (y : Entry). f y ∷ xs) (same_Some x e at)
    go false h = let later = entry_from (is_named n) (i + 1) xs (i + 0) h in absurd (omega (arith, later.2))
written f n i (x ∷ xs) (suc k) e first at = go (is_named n x) first (λ h. written f n (i + 1) xs k e h at)
  where
    next : i + suc k ≡ i + 1 + k
    next = omega arith

    go : (b : Bool) → cond b (Some i) (position_from (is_named n) (i + 1) xs) ≡ Some (i + suc k) → (position_from (is_named n) (i + 1) xs ≡ Some (i + 1 + k) → changed f n xs ≡ slice_set xs k (f e)) → cond b (f x ∷ xs) (x ∷ changed f n xs) ≡ x ∷ slice_set xs k (f e)
    go true h rest = absurd (omega (arith, same_Some i (i + suc k) h))
    go false h rest = ap (λ (ys : List Entry). x ∷ ys) (rest (h ∙ ap Some next))

pub writes_law : WritesByNumber
writes_law entries f n k e first at = written f n 0 entries k e (sym (position_from-zero (is_named n) entries) ∙ first ∙ ap Some (sym (zero-add k))) at

-- ---- the numbers of names

numbers_each : (entries : List Entry) (ns : List Values) → AreEntries entries ns → length (numbers_of entries ns) ≡ length ns
numbers_each entries [] h = refl
numbers_each entries (n ∷ ns) h =
    let parts = and_parts (list_any (is_named n) entries) (list_all (λ m. list_any (is_named m) entries) ns) h in
    let here = placed (is_named n) entries parts.0 in
    ap (λ (o : Option ℕ). length (cons_option o (numbers_of entries ns))) here.first ∙ ap suc (numbers_each entries ns parts.1)

pub names_law : NamesHaveNumbers
names_law entries ns h = record { each = numbers_each entries ns h; within = numbers_within entries ns }

-- ---- a bound on the number of edges

numbers_few : (entries : List Entry) (ns : List Values) → length (numbers_of entries ns) ≤ length ns
numbers_few entries [] = omega arith
numbers_few entries (n ∷ ns) = go (position (is_named n) entries) (numbers_few entries ns)
  where
    go : (o : Option ℕ) → length (numbers_of entries ns) ≤ length ns → length (cons_option o (numbers_of entries ns)) ≤ suc (length ns)
    go None h = omega (arith, h)
    go (Some i) h = omega (arith, h)

pub count_few : (kind : Kind) (n : ℕ) → is_count kind n ≡ true → n ≤ MOST_SUCCESSORS
count_few NameRemoval n h = omega (arith, leb-true n 0 h)
count_few NameCorrection n h = leb-true n MOST_SUCCESSORS (and_parts (nat_le 1 n) (nat_le n MOST_SUCCESSORS) h).1
count_few AdditionalInformation n h = leb-true n MOST_SUCCESSORS (and_parts (nat_le 1 n) (nat_le n MOST_SUCCESSORS) h).1

successors_few : (e : Entry) → has_count e ≡ true → length (successors_of e) ≤ MOST_SUCCESSORS
successors_few e = go e.deprecation
  where
    go : (o : Option Deprecation) → option_map_or (λ (d : Deprecation). is_count d.kind (length d.successors)) o true ≡ true → length (option_map_or (λ (d : Deprecation). d.successors) o []) ≤ MOST_SUCCESSORS
    go None h = omega arith
    go (Some d) h = count_few d.kind (length d.successors) h

edges_few : (entries es : List Entry) → list_all has_count es ≡ true → edge_count (map (node_of_entry entries) es) ≤ MOST_SUCCESSORS * length es
edges_few entries [] h = omega arith
edges_few entries (e ∷ es) h =
    let parts = and_parts (has_count e) (list_all has_count es) h in
    let here = numbers_few entries (successors_of e) in
    let few = successors_few e parts.0 in
    let rest = edges_few entries es parts.1 in
    let split = sum_by-cons (λ (n : Node). length n.next) (node_of_entry entries e) (map (node_of_entry entries) es) in
    omega (arith, here, few, rest, split)

pub edges_law : EdgesAreFew
edges_law entries = edges_few entries entries
