-- Lemmas: the causes to refuse a deprecation, tested in order by the numbers of successors.
use Rattle.std.proofs.Common.{◌≡◌, ℕ, Bool, true, not, nat_eq, List, [], ◌∷◌, ◌++◌, length, refl, sym, ap, subst, ◌∙◌, position}
use Rattle.std.specs.Prelude.{Option, Some, None, option_map, option_and_then}
use Rattle.std.specs.List.{list_any}
use Rattle.cpe_rows.specs.cpe_name.Eleven.{Values}
use Rattle.cpe_rows.specs.Names.{is_same}
use Rattle.cpe_rows.specs.Rows.{is_named, is_entry}
use Rattle.cpe_rows.specs.Chains.{leads_to}
use Rattle.cpe_rows.specs.Faults.{when, is_count, place_of, repeated_from}
use Rattle.cpe_rows.specs.Step.{first_some}
use Rattle.cpe_rows.specs.declared.entry.Entry.{Entry}
use Rattle.cpe_rows.specs.declared.entry.Deprecation.{Deprecation}
use Rattle.cpe_rows.specs.declared.entry.Note.{Note}
use Rattle.cpe_rows.specs.declared.fault.EditFault.{EditFault}
use Rattle.cpe_rows.specs.declared.fault.EditFault.TheVariants as fault
use Rattle.deprecation_graph.specs.Graph.{IsChange, changed_nodes}
use Rattle.deprecation_graph.specs.Faults.{cycle_in, wide_in, first_graph_fault, change_fault}
use Rattle.cpe_dictionary.specs.Numbers.{numbers_of, nodes_of_entries}
use Rattle.cpe_dictionary.specs.Faults.{AreDifferent, AreEntries, WritesByNumber, CyclesByNumber, RepeatsByNumber}
use Rattle.cpe_dictionary.specs.Edits.{EditsAreChanges, KnownAreEntries, WidthAfterByNumber}
use Rattle.cpe_dictionary.specs.Kept.{rows_of_entries}
use Rattle.cpe_dictionary.specs.Causes.{named_fault, width_cause, deprecation_causes}
use Rattle.cpe_dictionary.specs.Plans.{AreSuccessors}
use Rattle.cpe_rows.proofs.CauseLemmas.{first_behind}
use Rattle.cpe_dictionary.proofs.Translating.{wide_fault, occurs_at, width_found}

-- the fault that there is a cycle, otherwise that an entry has too many ends
abbrev pub cycle_or_width : List Entry → Option ℕ → Option ℕ → List (Option EditFault)
cycle_or_width es cycle wide = option_map fault.Cycle cycle ∷ wide_fault es wide ∷ []

pub only_width : (o : Option EditFault) → o ≡ first_some (o ∷ [])
only_width None = refl
only_width (Some f) = refl

fault_named : (es : List Entry) (cycle wide : Option ℕ) → option_and_then (named_fault es) (first_graph_fault cycle wide) ≡ first_some (cycle_or_width es cycle wide)
fault_named es (Some p) wide = refl
fault_named es None None = refl
fault_named es None (Some j) = only_width (wide_fault es (Some j))

no_fault : (es : List Entry) (cycle wide : Option ℕ) → first_graph_fault cycle wide ≡ None → first_some (cycle_or_width es cycle wide) ≡ None
no_fault es (Some p) wide h = let wrong : ⊥ = cc in absurd wrong
no_fault es None None h = refl
no_fault es None (Some j) h = let wrong : ⊥ = cc in absurd wrong

-- the causes that are tested before cycles
abbrev pub earlier_causes : List Entry → Deprecation → List (Option EditFault)
earlier_causes es d =
    when (not (is_count d.kind (length d.successors))) fault.BadCount
    ∷ option_map fault.UnknownSuccessor (place_of (λ s. not (is_entry (rows_of_entries es) s)) d.successors)
    ∷ option_map fault.RepeatedSuccessor (repeated_from is_same [] 1 d.successors) ∷ []

module _ (es : List Entry) (n : Values) (k : ℕ) (place : position (is_named n) es ≡ Some k) (different : AreDifferent es) (writes : WritesByNumber) (width : WidthAfterByNumber) (note : Option Note) where
  -- the fault of an entry whose deprecation is removed
  pub width_named : option_and_then (named_fault es) (change_fault (nodes_of_entries es) k None) ≡ width_cause es n None note
  width_named =
      let at = occurs_at es n k place in
      let wide = wide_in (changed_nodes (nodes_of_entries es) k None) in
      fault_named es None wide ∙ sym (only_width (wide_fault es wide)) ∙ sym (width_found es k None note at.entry at.here n place different writes width)

  pub width_absent : change_fault (nodes_of_entries es) k None ≡ None → width_cause es n None note ≡ None
  width_absent h = sym width_named ∙ ap (option_and_then (named_fault es)) h

  -- the fault of an entry that gets a deprecation
  module _ (cycles : CyclesByNumber) (d : Deprecation) (entries : AreEntries es d.successors) where
    abbrev numbers : List ℕ
    numbers = numbers_of es d.successors

    later : deprecation_causes es n d note ≡ earlier_causes es d ++ cycle_or_width es (cycle_in (nodes_of_entries es) k numbers) (wide_in (changed_nodes (nodes_of_entries es) k (Some numbers)))
    later =
        let at = occurs_at es n k place in
        let cycle = subst (λ (m : Values). place_of (λ s. leads_to es s m) d.successors ≡ cycle_in (nodes_of_entries es) k numbers) at.named (cycles es k at.entry d.successors different at.here entries) in
        let wide = width_found es k (Some d) note at.entry at.here n place different writes width in
        λ i. earlier_causes es d ++ option_map fault.Cycle (cycle i) ∷ wide i ∷ []

    pub causes_named : first_some (earlier_causes es d) ≡ None → first_some (deprecation_causes es n d note) ≡ option_and_then (named_fault es) (change_fault (nodes_of_entries es) k (Some numbers))
    causes_named h =
        ap first_some later
        ∙ first_behind (earlier_causes es d) (cycle_or_width es (cycle_in (nodes_of_entries es) k numbers) (wide_in (changed_nodes (nodes_of_entries es) k (Some numbers)))) h
        ∙ sym (fault_named es (cycle_in (nodes_of_entries es) k numbers) (wide_in (changed_nodes (nodes_of_entries es) k (Some numbers))))

    pub causes_absent : first_some (earlier_causes es d) ≡ None → change_fault (nodes_of_entries es) k (Some numbers) ≡ None → first_some (deprecation_causes es n d note) ≡ None
    causes_absent h none = causes_named h ∙ ap (option_and_then (named_fault es)) none

pub are_asked : (es : List Entry) (d : Deprecation) (names : List Values) (ks : List ℕ) (is_good : Bool) → KnownAreEntries → RepeatsByNumber → names ≡ d.successors → is_good ≡ is_count d.kind (length names) → is_good ≡ true
    → place_of (λ n. not (list_any (is_named n) es)) names ≡ None → ks ≡ numbers_of es names → repeated_from nat_eq [] 1 ks ≡ None → AreSuccessors es d ks
are_asked es d names ks is_good knows repeats same counted good unknown numbers apart =
    let known = subst (λ (ns : List Values). place_of (λ n. not (list_any (is_named n) es)) ns ≡ None) same unknown in
    let entries = knows es d.successors known in
    let all = numbers ∙ ap (numbers_of es) same in
    record {
      count = ap (λ (ns : List Values). is_count d.kind (length ns)) (sym same) ∙ sym counted ∙ good;
      known = known;
      entries = entries;
      apart = repeats es d.successors entries ∙ ap (repeated_from nat_eq [] 1) (sym all) ∙ apart;
      numbers = all;
    }

pub none_earlier : (es : List Entry) (d : Deprecation) (ks : List ℕ) → AreSuccessors es d ks → first_some (earlier_causes es d) ≡ None
none_earlier es d ks asked =
    λ i. first_some (when (not (asked.count i)) fault.BadCount ∷ option_map fault.UnknownSuccessor (asked.known i) ∷ option_map fault.RepeatedSuccessor (asked.apart i) ∷ [])

pub asks : (es : List Entry) (n : Values) (k : ℕ) (d : Deprecation) (ks : List ℕ) → EditsAreChanges → position (is_named n) es ≡ Some k → AreSuccessors es d ks → IsChange (nodes_of_entries es) k (Some ks)
asks es n k d ks changes place asked =
    let at = occurs_at es n k place in
    subst (λ (xs : List ℕ). IsChange (nodes_of_entries es) k (Some xs)) (sym asked.numbers) (changes es k at.entry d at.here asked.count asked.entries asked.apart)
