-- Lemmas: the faults of a deprecation, by the numbers of entries.
use Rattle.std.proofs.Common.{◌≡◌, ◌↔◌, ℕ, suc, ◌+◌, Bool, true, false, cond, eqb, nat_lt, ◌||◌, if◌then◌else◌, IsTrue, List, [], ◌∷◌, length, find, refl, sym, ap, ◌∙◌, arith, Option, Some, None, option_map, option_and_then, slice_get, zero-add, eq-eqb}
use Rattle.std.specs.Cmp.{both_ways as both}
use Rattle.std.specs.List.{AllByRecursion, IsDistinct, list_any, list_all, cons_option, range_with_len, position, position_from}
use Rattle.std.proofs.lemmas.Option.{same_Some}
use Rattle.std.proofs.lemmas.Bool.{and_parts, and_from, or_parts, eqb-true, eqb-false, ne_eqb}
use Rattle.std.proofs.lemmas.List.{length-map}
use Rattle.std.proofs.lemmas.Iterator.Adapters.{position_from-zero}
use Rattle.std.proofs.lemmas.Map.Keys.{IsDistinct-cons, IsDistinct-from_apart}
use Rattle.cpe_rows.specs.cpe_name.Eleven.{Values}
use Rattle.cpe_rows.specs.Names.{is_same}
use Rattle.cpe_rows.specs.Rows.{is_named}
use Rattle.cpe_rows.specs.Chains.{leads_to}
use Rattle.cpe_rows.specs.Faults.{repeated_from}
use Rattle.cpe_rows.specs.Limits.{is_wide}
use Rattle.cpe_rows.specs.declared.limits.TheConstants.{MOST_ENDS}
use Rattle.cpe_rows.specs.declared.entry.Entry.{Entry}
use Rattle.deprecation_graph.specs.Graph.{next_of_node, active_in}
use Rattle.deprecation_graph.specs.Chains.{reaches, ends_of_node}
use Rattle.deprecation_graph.specs.Faults.{is_wide_node}
use Rattle.cpe_dictionary.specs.Numbers.{PathsByNumber, WidthsByNumber, NodesAreNumbered, NodesAreMarked, numbers_of, node_of_entry, nodes_of_entries}
use Rattle.cpe_dictionary.specs.Faults.{AreEntries, RepeatsByNumber, DifferentByNumber, CyclesByNumber, WidthByNumber}
use Rattle.cpe_dictionary.proofs.Places.{Placed, placed}

-- ---- repeated successors

module _ (same : (a b : Values) → IsTrue (is_same a b) ↔ (a ≡ b)) (entries : List Entry) where
  -- two names are the same exactly if their entries have the same place
  same_place : (a b : Values) (x : Placed (is_named a) entries) (y : Placed (is_named b) entries) → is_same a b ≡ eqb x.place y.place
  same_place a b x y = both (is_same a b) (eqb x.place y.place) to from
    where
      to : is_same a b ≡ true → eqb x.place y.place ≡ true
      to h = eq-eqb x.place y.place (same_Some x.place y.place (sym x.first ∙ ap (λ (n : Values). position (is_named n) entries) ((same a b).0 h) ∙ y.first))

      from : eqb x.place y.place ≡ true → is_same a b ≡ true
      from h =
          let entry : x.entry ≡ y.entry = same_Some x.entry y.entry (sym x.at ∙ ap (slice_get entries) (eqb-true x.place y.place h) ∙ y.at) in
          (same a b).1 ((same a x.entry.name).0 x.passes ∙ ap (λ (e : Entry). e.name) entry ∙ sym ((same b y.entry.name).0 y.passes))

  seen_same : (a : Values) (x : Placed (is_named a) entries) (seen : List Values) → AreEntries entries seen → list_any (is_same a) seen ≡ list_any (eqb x.place) (numbers_of entries seen)
  seen_same a x [] h = refl
  seen_same a x (b ∷ bs) h =
      let parts = and_parts (list_any (is_named b) entries) (list_all (λ m. list_any (is_named m) entries) bs) h in
      let y = placed (is_named b) entries parts.0 in
      ap (λ (t : Bool). t || list_any (is_same a) bs) (same_place a b x y) ∙ ap (λ (t : Bool). eqb x.place y.place || t) (seen_same a x bs parts.1)
      ∙ sym (ap (λ (o : Option ℕ). list_any (eqb x.place) (cons_option o (numbers_of entries bs))) y.first)

  repeats_same : (seen : List Values) (k : ℕ) (ns : List Values) → AreEntries entries seen → AreEntries entries ns → repeated_from is_same seen k ns ≡ repeated_from eqb (numbers_of entries seen) k (numbers_of entries ns)
  repeats_same seen k [] known h = refl
  repeats_same seen k (a ∷ ns) known h =
      let parts = and_parts (list_any (is_named a) entries) (list_all (λ m. list_any (is_named m) entries) ns) h in
      let x = placed (is_named a) entries parts.0 in
      let more = and_from (list_any (is_named a) entries) (list_all (λ m. list_any (is_named m) entries) seen) parts.0 known in
      let rest = repeats_same (a ∷ seen) (k + 1) ns more parts.1 ∙ ap (λ (o : Option ℕ). repeated_from eqb (cons_option o (numbers_of entries seen)) (k + 1) (numbers_of entries ns)) x.first in
      ap (λ (t : Bool). if t then Some k else repeated_from is_same (a ∷ seen) (k + 1) ns) (seen_same a x seen known)
      ∙ ap (λ (r : Option ℕ). if list_any (eqb x.place) (numbers_of entries seen) then Some k else r) rest
      ∙ sym (ap (λ (o : Option ℕ). repeated_from eqb (numbers_of entries seen) k (cons_option o (numbers_of entries ns))) x.first)

pub repeats_law : ((a b : Values) → IsTrue (is_same a b) ↔ (a ≡ b)) → RepeatsByNumber
repeats_law same entries ns known = repeats_same same entries [] 1 ns refl known

-- ---- numbers without repetitions are all different

nothing_apart : IsDistinct eqb []
nothing_apart = IsDistinct-from_apart eqb [] (λ i j d a b. absurd (omega arith))

apart_from : (x : ℕ) (seen ys : List ℕ) → AllByRecursion (λ y. list_any (eqb y) (x ∷ seen) ≡ false) ys → AllByRecursion (λ y. list_any (eqb y) seen ≡ false) ys × AllByRecursion (λ y. eqb x y ≡ false) ys
apart_from x seen [] h = (tt, tt)
apart_from x seen (y ∷ ys) h =
    let parts = or_parts (eqb y x) (list_any (eqb y) seen) h.0 in
    let rest = apart_from x seen ys h.1 in
    ((parts.1, rest.0), (ne_eqb x y (λ e. eqb-false y x parts.0 (sym e)), rest.1))

different_from : (seen : List ℕ) (k : ℕ) (xs : List ℕ) → repeated_from eqb seen k xs ≡ None → AllByRecursion (λ y. list_any (eqb y) seen ≡ false) xs × IsDistinct eqb xs
different_from seen k [] h = (tt, nothing_apart)
different_from seen k (x ∷ xs) h = go (list_any (eqb x) seen) refl h (different_from (x ∷ seen) (k + 1) xs)
  where
    go : (b : Bool) → list_any (eqb x) seen ≡ b → cond b (Some k) (repeated_from eqb (x ∷ seen) (k + 1) xs) ≡ None → (repeated_from eqb (x ∷ seen) (k + 1) xs ≡ None → AllByRecursion (λ y. list_any (eqb y) (x ∷ seen) ≡ false) xs × IsDistinct eqb xs) → AllByRecursion (λ y. list_any (eqb y) seen ≡ false) (x ∷ xs) × IsDistinct eqb (x ∷ xs)
    go true f e rest = absurd cc
    go false f e rest = let r = rest e in let parts = apart_from x seen xs r.0 in ((f, parts.0), IsDistinct-cons eqb x xs parts.1 r.1)

pub different_law : DifferentByNumber
different_law ks h = (different_from [] 1 ks h).1

-- ---- the first successor that leads back to the entry

place_more : (p : Values → Bool) (i : ℕ) (ns : List Values) → option_map (λ k. k + 1) (position_from p i ns) ≡ position_from p (i + 1) ns
place_more p i [] = refl
place_more p i (n ∷ ns) = go (p n) (place_more p (i + 1) ns)
  where
    go : (b : Bool) → option_map (λ k. k + 1) (position_from p (i + 1) ns) ≡ position_from p (i + 1 + 1) ns → option_map (λ k. k + 1) (cond b (Some i) (position_from p (i + 1) ns)) ≡ cond b (Some (i + 1)) (position_from p (i + 1 + 1) ns)
    go true rest = refl
    go false rest = rest

places_same : (entries : List Entry) (p : Values → Bool) (q : ℕ → Bool) (i : ℕ) (ns : List Values) → AreEntries entries ns → ((n : Values) (x : Placed (is_named n) entries) → p n ≡ q x.place) → position_from p i ns ≡ position_from q i (numbers_of entries ns)
places_same entries p q i [] h agree = refl
places_same entries p q i (n ∷ ns) h agree =
    let parts = and_parts (list_any (is_named n) entries) (list_all (λ m. list_any (is_named m) entries) ns) h in
    let x = placed (is_named n) entries parts.0 in
    ap (λ (t : Bool). cond t (Some i) (position_from p (i + 1) ns)) (agree n x)
    ∙ ap (λ (r : Option ℕ). cond (q x.place) (Some i) r) (places_same entries p q (i + 1) ns parts.1 agree)
    ∙ sym (ap (λ (o : Option ℕ). position_from q i (cons_option o (numbers_of entries ns))) x.first)

pub cycles_law : ((a b : Values) → IsTrue (is_same a b) ↔ (a ≡ b)) → PathsByNumber → NodesAreNumbered → CyclesByNumber
cycles_law same paths numbered entries k e ns different at known =
    let nodes = nodes_of_entries entries in
    let leads : Values → Bool = λ s. leads_to entries s e.name in
    ap (option_map (λ i. i + 1)) (position_from-zero leads ns) ∙ place_more leads 0 ns
    ∙ places_same entries leads (λ b. reaches (next_of_node nodes) (length nodes) b k) 1 ns known (λ n x.
    ap (λ (m : Values). leads_to entries m e.name) ((same n x.entry.name).0 x.passes)
    ∙ paths entries (next_of_node nodes) x.place k x.entry e (numbered entries different) x.at at
    ∙ ap (λ (c : ℕ). reaches (next_of_node nodes) c x.place k) (sym (length-map entries (node_of_entry entries))))

-- ---- entries with too many ends

find_at : (p : Entry → Bool) (q : ℕ → Bool) (all es : List Entry) (at : ℕ) → ((i : ℕ) → slice_get es i ≡ slice_get all (at + i)) → ((i : ℕ) (x : Entry) → slice_get es i ≡ Some x → p x ≡ q (at + i)) → find p es ≡ option_and_then (slice_get all) (find q (range_with_len at (length es)))
find_at p q all [] at same agree = refl
find_at p q all (x ∷ es) at same agree =
    go (p x) (q at) (agree 0 x refl ∙ ap q (plus_zero at)) (same 0 ∙ ap (slice_get all) (plus_zero at)) (find_at p q all es (at + 1) (λ i. same (suc i) ∙ ap (slice_get all) (next i)) (λ i y e. agree (suc i) y e ∙ ap q (next i)))
  where
    plus_zero : (n : ℕ) → n + 0 ≡ n
    plus_zero n = omega arith

    next : (i : ℕ) → at + suc i ≡ at + 1 + i
    next i = omega arith

    go : (b c : Bool) → b ≡ c → Some x ≡ slice_get all at → find p es ≡ option_and_then (slice_get all) (find q (range_with_len (at + 1) (length es))) → cond b (Some x) (find p es) ≡ option_and_then (slice_get all) (cond c (Some at) (find q (range_with_len (at + 1) (length es))))
    go true true e here rest = here
    go false false e here rest = rest
    go true false e here rest = absurd cc
    go false true e here rest = absurd cc

pub width_law : WidthsByNumber → NodesAreNumbered → NodesAreMarked → WidthByNumber
width_law widths numbered marked entries different =
    let nodes = nodes_of_entries entries in
    let count : length nodes ≡ length entries = length-map entries (node_of_entry entries) in
    find_at (is_wide entries) (is_wide_node nodes) entries entries 0 (λ i. ap (slice_get entries) (sym (zero-add i))) (λ i x here.
    ap (nat_lt MOST_ENDS) (
    widths entries (next_of_node nodes) (active_in nodes) i x (numbered entries different) (marked entries) here
    ∙ ap (λ (c : ℕ). length (ends_of_node (next_of_node nodes) (active_in nodes) c i)) (sym count)
    )
    ∙ ap (is_wide_node nodes) (sym (zero-add i)))
    ∙ ap (λ (c : ℕ). option_and_then (slice_get entries) (find (is_wide_node nodes) (range_with_len 0 c))) (sym count)
