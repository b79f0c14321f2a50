-- The causes to refuse a deprecation.
use Rattle.std.specs.Prelude.{◌++◌, ◌∷◌, List, [], Bool, if◌then◌else◌, Option, None, Some, option_map, slice_get, not}
use Rattle.cpe_rows.specs.cpe_name.Eleven.{Values}
use Rattle.cpe_rows.specs.After.{changed}
use Rattle.cpe_rows.specs.Faults.{when, is_deprecated, successor_faults, too_wide}
use Rattle.cpe_rows.specs.Rows.{is_entry}
use Rattle.cpe_rows.specs.declared.entry.Entry.{Entry}
use Rattle.cpe_rows.specs.declared.entry.Deprecation.{Deprecation}
use Rattle.cpe_rows.specs.declared.entry.Note.{Note}
use Rattle.cpe_rows.specs.declared.fault.EditFault.{EditFault}
use Rattle.cpe_rows.specs.declared.fault.EditFault.TheVariants as fault
use Rattle.deprecation_graph.specs.declared.fault.GraphFault.{GraphFault}
use Rattle.deprecation_graph.specs.declared.fault.GraphFault.TheVariants as graph
use Rattle.cpe_dictionary.specs.Kept.{rows_of_entries, rewritten}

-- the fault of an edit for a fault of the graph, if node k is entry k
abbrev pub named_fault : List Entry → GraphFault → Option EditFault
named_fault es (graph.Cycle place) = Some (fault.Cycle place)
named_fault es (graph.TooWide k) = option_map (λ e. fault.TooWide e.name) (slice_get es k)
named_fault es graph.Memory = Some fault.Memory

-- the causes that no entry has this name, that the entry is deprecated but has to be active, or the other way round
abbrev pub state_causes : List Entry → Values → Bool → List (Option EditFault)
state_causes es n active =
    when (not (is_entry (rows_of_entries es) n)) fault.Unknown
    ∷ (if active then when (is_deprecated (rows_of_entries es) n) fault.AlreadyDeprecated else when (not (is_deprecated (rows_of_entries es) n)) fault.NotDeprecated) ∷ []

-- an entry would have too many ends after the entry of this name gets the deprecation, or none
abbrev pub width_cause : List Entry → Values → Option Deprecation → Option Note → Option EditFault
width_cause es n d note = too_wide (rows_of_entries (changed (rewritten d note) n es))

-- the causes to refuse the deprecation for the entry of this name, whether or not this entry is deprecated
abbrev pub deprecation_causes : List Entry → Values → Deprecation → Option Note → List (Option EditFault)
deprecation_causes es n d note = successor_faults (rows_of_entries es) n d ++ width_cause es n (Some d) note ∷ []

-- the causes to refuse a change of the entry of this name, which has to be active or deprecated before
abbrev pub change_causes : List Entry → Values → Bool → Option Deprecation → Option Note → List (Option EditFault)
change_causes es n active None note = state_causes es n active ++ width_cause es n None note ∷ []
change_causes es n active (Some d) note = state_causes es n active ++ deprecation_causes es n d note
