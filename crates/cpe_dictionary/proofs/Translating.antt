-- Lemmas: the faults of a deprecation, found by the numbers of entries.
use Rattle.std.proofs.Common.{◌≡◌, ℕ, suc, ◌+◌, Bool, true, false, cond, List, [], ◌∷◌, refl, sym, ap, ◌∙◌, arith, position, slice_get, slice_set}
use Rattle.std.specs.Prelude.{Option, Some, None, option_map, option_and_then}
use Rattle.std.specs.List.{position_from}
use Rattle.std.specs.Option.{option_map_or}
use Rattle.std.proofs.lemmas.Option.{same_Some, none-some}
use Rattle.std.proofs.lemmas.Iterator.Adapters.{position_from-zero}
use Rattle.cpe_rows.specs.cpe_name.Eleven.{Values}
use Rattle.cpe_rows.specs.cpe_name.Equal.{same_name-Decides}
use Rattle.cpe_rows.specs.Names.{is_same}
use Rattle.cpe_rows.specs.Rows.{is_named}
use Rattle.cpe_rows.specs.Faults.{too_wide}
use Rattle.cpe_rows.specs.declared.entry.Entry.{Entry}
use Rattle.cpe_rows.specs.declared.entry.Deprecation.{Deprecation}
use Rattle.cpe_rows.specs.declared.entry.Note.{Note}
use Rattle.cpe_rows.specs.declared.fault.EditFault.{EditFault}
use Rattle.cpe_rows.specs.declared.fault.EditFault.TheVariants as fault
use Rattle.deprecation_graph.specs.Graph.{node_of, changed_nodes}
use Rattle.deprecation_graph.specs.Faults.{wide_in}
use Rattle.cpe_dictionary.specs.Numbers.{node_of_entry, nodes_of_entries, ChangesByNumber}
use Rattle.cpe_dictionary.specs.Edits.{WidthAfterByNumber}
use Rattle.cpe_dictionary.specs.Faults.{AreDifferent, WritesByNumber}
use Rattle.cpe_dictionary.specs.Kept.{rows_of_entries, rewritten, written}
use Rattle.cpe_dictionary.specs.Causes.{width_cause}
use Rattle.cpe_dictionary.specs.Plans.{numbered_successors}

-- ---- the entry at a place

record Found (p : Entry → Bool) (i : ℕ) (es : List Entry) (k : ℕ) : Type 0 where
  place : ℕ
  entry : Entry
  counted : k ≡ i + place
  here : slice_get es place ≡ Some entry
  passes : p entry ≡ true

found_from : (p : Entry → Bool) (i : ℕ) (es : List Entry) (k : ℕ) → position_from p i es ≡ Some k → Found p i es k
found_from p i [] k h = absurd (none-some k h)
found_from p i (e ∷ es) k h = go (p e) refl h (found_from p (i + 1) es k)
  where
    go : (b : Bool) → p e ≡ b → cond b (Some i) (position_from p (i + 1) es) ≡ Some k → (position_from p (i + 1) es ≡ Some k → Found p (i + 1) es k) → Found p i (e ∷ es) k
    go true f at rest = record { place = 0; entry = e; counted = let same = same_Some i k at in omega arith; here = refl; passes = f }
    go false f at rest =
        let r = rest at in
        record { place = suc r.place; entry = r.entry; counted = let same = r.counted in omega arith; here = r.here; passes = r.passes }

-- the entry of this name is at place k
pub record IsEntryAt (es : List Entry) (n : Values) (k : ℕ) : Type 0 where
  pub entry : Entry
  pub here : slice_get es k ≡ Some entry
  pub named : entry.name ≡ n

pub occurs_at : (es : List Entry) (n : Values) (k : ℕ) → position (is_named n) es ≡ Some k → IsEntryAt es n k
unfolding is_same
occurs_at es n k h =
    let r = found_from (is_named n) 0 es k (sym (position_from-zero (is_named n) es) ∙ h) in
    let counted = r.counted in
    let same : k ≡ r.place = omega arith in
    record { entry = r.entry; here = ap (slice_get es) same ∙ r.here; named = sym ((same_name-Decides n r.entry.name).0 r.passes) }

-- ---- entries with too many ends

-- the fault that the entry of this number has too many ends
abbrev pub wide_fault : List Entry → Option ℕ → Option EditFault
wide_fault es o = option_map (λ (y : Entry). fault.TooWide y.name) (option_and_then (slice_get es) o)

node_rewritten : (es : List Entry) (d : Option Deprecation) (note : Option Note) (e : Entry) → node_of_entry es (rewritten d note e) ≡ node_of (numbered_successors es d)
node_rewritten es None noted e = refl
node_rewritten es (Some d) noted e = refl

module _ (es : List Entry) (k : ℕ) (d : Option Deprecation) (note : Option Note) (e : Entry) (at : slice_get es k ≡ Some e) where
  pub nodes_rewritten : ChangesByNumber → nodes_of_entries (slice_set es k (rewritten d note e)) ≡ changed_nodes (nodes_of_entries es) k (numbered_successors es d)
  nodes_rewritten changes = changes es k e (rewritten d note e) at refl ∙ ap (slice_set (nodes_of_entries es) k) (node_rewritten es d note e)

  pub written_set : written (rewritten d note) k es ≡ slice_set es k (rewritten d note e)
  written_set = ap (λ (o : Option Entry). option_map_or (λ (y : Entry). slice_set es k (rewritten d note y)) o es) at

  pub width_found : (n : Values) → position (is_named n) es ≡ Some k → AreDifferent es → WritesByNumber → WidthAfterByNumber → width_cause es n d note ≡ wide_fault es (wide_in (changed_nodes (nodes_of_entries es) k (numbered_successors es d)))
  width_found n place different writes width =
      ap (λ (fs : List Entry). too_wide (rows_of_entries fs)) (writes es (rewritten d note) n k e place at)
      ∙ width (rows_of_entries es) k e (rewritten d note e) (numbered_successors es d) different at refl (node_rewritten es d note e)
