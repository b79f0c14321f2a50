-- Lemmas: an edit of an entry's deprecation is a change of the entry's node.
use Rattle.std.proofs.Common.{◌≡◌, ℕ, zero, suc, ◌+◌, Bool, true, false, cond, not, ◌&&◌, ◌||◌, List, [], ◌∷◌, length, refl, sym, ap, ◌∙◌, arith, Option, Some, None, option_map, option_and_then, slice_get, slice_set}
use Rattle.std.specs.List.{list_any, list_all, position, position_from}
use Rattle.std.proofs.lemmas.Option.{same_Some, slice_get_within}
use Rattle.std.proofs.lemmas.List.{length-map}
use Rattle.std.proofs.lemmas.Iterator.Adapters.{position_from-zero}
use Rattle.cpe_rows.specs.cpe_name.Eleven.{Values}
use Rattle.cpe_rows.specs.Names.{is_same}
use Rattle.cpe_rows.specs.Rows.{is_named}
use Rattle.cpe_rows.specs.Lawful.{are_different}
use Rattle.cpe_rows.specs.declared.entry.Entry.{Entry}
use Rattle.cpe_rows.specs.declared.fault.EditFault.{EditFault}
use Rattle.cpe_rows.specs.declared.fault.EditFault.TheVariants as fault
use Rattle.deprecation_graph.specs.Graph.{Node, node_of}
use Rattle.deprecation_graph.specs.Faults.{wide_in}
use Rattle.cpe_dictionary.specs.Numbers.{ChangesByNumber, numbers_of, node_of_entry, nodes_of_entries}
use Rattle.cpe_dictionary.specs.Faults.{RepeatsByNumber, DifferentByNumber, NamesHaveNumbers, WidthByNumber}
use Rattle.cpe_dictionary.specs.Edits.{KnownAreEntries, EditsAreChanges, NamesStayDifferent, WidthAfterByNumber}
use Rattle.cpe_dictionary.proofs.Edited.{count_few}

-- ---- tests of the successors of a deprecation

all_from_none : (q : Values → Bool) (i : ℕ) (ns : List Values) → position_from (λ n. not (q n)) i ns ≡ None → list_all q ns ≡ true
all_from_none q i [] h = refl
all_from_none q i (n ∷ ns) h = go (q n) h (all_from_none q (i + 1) ns)
  where
    go : (b : Bool) → cond (not b) (Some i) (position_from (λ m. not (q m)) (i + 1) ns) ≡ None → (position_from (λ m. not (q m)) (i + 1) ns ≡ None → list_all q ns ≡ true) → (b && list_all q ns) ≡ true
    go true h rest = rest h
    go false h rest = absurd cc

none_before : (o : Option ℕ) → option_map (λ k. k + 1) o ≡ None → o ≡ None
none_before None h = refl
none_before (Some k) h = absurd cc

pub known_law : KnownAreEntries
known_law entries ns h =
    let unknown : Values → Bool = λ n. not (list_any (is_named n) entries) in
    all_from_none (λ n. list_any (is_named n) entries) 0 ns (sym (position_from-zero unknown ns) ∙ none_before (position unknown ns) h)

pub changes_law : RepeatsByNumber → DifferentByNumber → NamesHaveNumbers → EditsAreChanges
changes_law repeats different numbers entries k e d at count known once =
    let have = numbers entries d.successors known in
    let long = length-map entries (node_of_entry entries) in
    record {
      names = record { node = omega (arith, long, slice_get_within entries k e at); next = λ b c. omega (arith, long, have.within b c) };
      few = omega (arith, have.each, count_few d.kind (length d.successors) count);
      different = different (numbers_of entries d.successors) (sym (repeats entries d.successors known) ∙ once);
    }

-- ---- names after one entry is replaced

any_set : (p : Entry → Bool) (es : List Entry) (k : ℕ) (e x : Entry) → slice_get es k ≡ Some e → p x ≡ p e → list_any p (slice_set es k x) ≡ list_any p es
any_set p [] k e x at h = refl
any_set p (z ∷ zs) zero e x at h = ap (λ (b : Bool). b || list_any p zs) (h ∙ ap p (sym (same_Some z e at)))
any_set p (z ∷ zs) (suc k) e x at h = ap (λ (b : Bool). p z || b) (any_set p zs k e x at h)

different_set : (es : List Entry) (k : ℕ) (e x : Entry) → slice_get es k ≡ Some e → x.name ≡ e.name → are_different (λ (y : Entry). is_named y.name) (slice_set es k x) ≡ are_different (λ (y : Entry). is_named y.name) es
different_set [] k e x at same = refl
different_set (z ∷ zs) zero e x at same =
    ap (λ (n : Values). not (list_any (is_named n) zs) && are_different (λ (y : Entry). is_named y.name) zs) (same ∙ sym (ap (λ (y : Entry). y.name) (same_Some z e at)))
different_set (z ∷ zs) (suc k) e x at same =
    ap (λ (b : Bool). not b && are_different (λ (y : Entry). is_named y.name) (slice_set zs k x)) (any_set (is_named z.name) zs k e x at (ap (is_same z.name) same))
    ∙ ap (λ (b : Bool). not (list_any (is_named z.name) zs) && b) (different_set zs k e x at same)

pub stay_law : NamesStayDifferent
stay_law entries k e x at same different = different_set entries k e x at same ∙ different

-- ---- entries with too many ends

abbrev too_wide_at : Option Entry → Option EditFault
too_wide_at = option_map (λ (y : Entry). fault.TooWide y.name)

name_set : (es : List Entry) (k : ℕ) (e x : Entry) → slice_get es k ≡ Some e → x.name ≡ e.name → (j : ℕ) → too_wide_at (slice_get (slice_set es k x) j) ≡ too_wide_at (slice_get es j)
name_set [] k e x at same j = refl
name_set (z ∷ zs) zero e x at same zero = ap (λ (n : Values). Some (fault.TooWide n)) (same ∙ sym (ap (λ (y : Entry). y.name) (same_Some z e at)))
name_set (z ∷ zs) zero e x at same (suc j) = refl
name_set (z ∷ zs) (suc k) e x at same zero = refl
name_set (z ∷ zs) (suc k) e x at same (suc j) = name_set zs k e x at same j

names_set : (es : List Entry) (k : ℕ) (e x : Entry) → slice_get es k ≡ Some e → x.name ≡ e.name → (wide : Option ℕ) → too_wide_at (option_and_then (slice_get (slice_set es k x)) wide) ≡ too_wide_at (option_and_then (slice_get es) wide)
names_set es k e x at same None = refl
names_set es k e x at same (Some j) = name_set es k e x at same j

pub width_after_law : WidthByNumber → ChangesByNumber → WidthAfterByNumber
width_after_law width changes rows k e x to different at same node =
    let entries = rows.entries in
    ap too_wide_at (width (slice_set entries k x) (stay_law entries k e x at same different))
    ∙ ap (λ (nodes : List Node). too_wide_at (option_and_then (slice_get (slice_set entries k x)) (wide_in nodes))) (changes entries k e x at same ∙ ap (slice_set (nodes_of_entries entries) k) node)
    ∙ names_set entries k e x at same (wide_in (slice_set (nodes_of_entries entries) k (node_of to)))
