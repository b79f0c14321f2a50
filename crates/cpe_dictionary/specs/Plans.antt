-- Planned changes of deprecations.
use Rattle.std.specs.Prelude.{◌≡◌, ◌∷◌, [], ℕ, List, Option, Some, None, length, not, option_map, position, true}
use Rattle.std.specs.List.{list_any}
use Rattle.std.specs.Option.{option_map_or}
use Rattle.cpe_rows.specs.cpe_name.Eleven.{Values}
use Rattle.cpe_rows.specs.Chains.{ends}
use Rattle.cpe_rows.specs.Faults.{is_count, place_of, repeated_from}
use Rattle.cpe_rows.specs.Names.{is_same}
use Rattle.cpe_rows.specs.Rows.{is_named}
use Rattle.cpe_rows.specs.declared.entry.Entry.{Entry}
use Rattle.cpe_rows.specs.declared.entry.Deprecation.{Deprecation}
use Rattle.cpe_rows.specs.declared.entry.Note.{Note}
use Rattle.deprecation_graph.specs.Faults.{change_fault}
use Rattle.deprecation_graph.specs.Graph.{IsChange, changed_nodes, ends_in}
use Rattle.cpe_dictionary.specs.Faults.{AreDifferent, AreEntries}
use Rattle.cpe_dictionary.specs.Numbers.{nodes_of_entries, numbers_of}
use Rattle.cpe_dictionary.specs.Kept.{entry_names_at, rewritten, written}
use Rattle.cpe_dictionary.specs.declared.plans.Plan.{Plan}

-- the numbers of a deprecation's successors, in a form that the graph can check
pub record AreSuccessors (es : List Entry) (d : Deprecation) (ks : List ℕ) : Type 0 where
  pub count : is_count d.kind (length d.successors) ≡ true
  pub known : place_of (λ n. not (list_any (is_named n) es)) d.successors ≡ None
  pub entries : AreEntries es d.successors
  pub apart : repeated_from is_same [] 1 d.successors ≡ None
  pub numbers : ks ≡ numbers_of es d.successors

-- the graph allows the change of the entry of this number to these successors
pub record IsAllowed (es : List Entry) (k : ℕ) (next : Option (List ℕ)) : Type 0 where
  pub change : IsChange (nodes_of_entries es) k next
  pub no_fault : change_fault (nodes_of_entries es) k next ≡ None

-- the numbers of the successors of a deprecation, if there is one
abbrev pub numbered_successors : List Entry → Option Deprecation → Option (List ℕ)
numbered_successors es d = option_map (λ x. numbers_of es x.successors) d

-- a plan to give the entry of this name the deprecation, or none; the graph allows it
pub record IsPlan (es : List Entry) (n : Values) (d : Option Deprecation) (p : Plan) : Type 0 where
  pub place : position (is_named n) es ≡ Some p.number
  pub next : p.next ≡ numbered_successors es d
  pub allowed : IsAllowed es p.number p.next

-- the entries after the planned change, which is made with some deprecation or none, and with some note or none
pub record AreLeftBy (es : List Entry) (p : Plan) (left : List Entry) : Type 0 where
  pub deprecation : Option Deprecation
  pub note : Option Note
  pub next : p.next ≡ numbered_successors es deprecation
  pub written : left ≡ written (rewritten deprecation note) p.number es

-- the ends that the entry of this number would have after the planned change
abbrev pub ends_at : List Entry → Plan → ℕ → List Values
ends_at es p k = entry_names_at es (ends_in (changed_nodes (nodes_of_entries es) p.number p.next) k)

-- The ends of a name after the planned change, or its present ends if no change is planned. The law `plans_lead` says
-- that these are its ends among the entries after the change.
abbrev pub ends_by : List Entry → Option Plan → Values → List Values
ends_by es None n = ends es n
ends_by es (Some p) n = option_map_or (ends_at es p) (position (is_named n) es) (n ∷ [])

abbrev pub PlansLead : Type 0
PlansLead =
    (es left : List Entry) (p : Plan) (n : Values) → AreDifferent es → IsAllowed es p.number p.next → AreLeftBy es p left
    → ends_by es (Some p) n ≡ ends left n
