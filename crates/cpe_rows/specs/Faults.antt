-- The faults of an edit, in the order in which they are tested. Places count from 1.
use Rattle.std.specs.Prelude.{ℕ, ◌+◌, ◌&&◌, List, [], ◌∷◌, ◌++◌, length, find, Bool, false, not, nat_le, if◌then◌else◌, Option, Some, None, option_map, position}
use Rattle.std.specs.Option.{option_map_or}
use Rattle.std.specs.List.{list_any}
use Rattle.cpe_name.specs.Eleven.{Values}
use Rattle.cpe_rows.specs.Names.{is_same, is_identifier, has_wildcards}
use Rattle.cpe_rows.specs.Rows.{Rows, entry_of, is_entry, is_item, is_statement, is_checked}
use Rattle.cpe_rows.specs.Chains.{is_active, leads_to}
use Rattle.cpe_rows.specs.After.{after}
use Rattle.cpe_rows.specs.Limits.{limited, exceeds, is_wide}
use Rattle.cpe_rows.specs.declared.limits.TheConstants.{MOST_SUCCESSORS}
use Rattle.cpe_rows.specs.declared.entry.Deprecation.{Deprecation}
use Rattle.cpe_rows.specs.declared.entry.Kind.{Kind}
use Rattle.cpe_rows.specs.declared.entry.Kind.TheVariants.{NameCorrection, NameRemoval, AdditionalInformation}
use Rattle.cpe_rows.specs.declared.edit.Edit.{Edit}
use Rattle.cpe_rows.specs.declared.edit.Edit.TheVariants as edit
use Rattle.cpe_rows.specs.declared.fault.EditFault.{EditFault}
use Rattle.cpe_rows.specs.declared.fault.EditFault.TheVariants as fault

abbrev pub when : Bool → EditFault → Option EditFault
when b f = if b then Some f else None

-- ---- faults of the rows after an edit

-- the first limit that the rows exceed
abbrev pub full : Rows → Option EditFault
full rows = option_map fault.Full (find (exceeds rows) limited)

-- the first entry that has too many ends
abbrev pub too_wide : Rows → Option EditFault
too_wide rows = option_map (λ e. fault.TooWide e.name) (find (is_wide rows.entries) rows.entries)

-- ---- faults of a deprecation

-- A deprecation of this kind may have n successors.
abbrev pub is_count : Kind → ℕ → Bool
is_count NameRemoval n = nat_le n 0
is_count NameCorrection n = nat_le 1 n && nat_le n MOST_SUCCESSORS
is_count AdditionalInformation n = nat_le 1 n && nat_le n MOST_SUCCESSORS

-- the place of the first element that passes
abbrev pub place_of : {A : Type 0} → (A → Bool) → List A → Option ℕ
place_of passes xs = option_map (λ k. k + 1) (position passes xs)

-- the place of the first element that is equal to an earlier element, or to one that was seen; the first element has
-- place k
abbrev pub repeated_from : {A : Type 0} → (A → A → Bool) → List A → ℕ → List A → Option ℕ
repeated_from same seen k [] = None
repeated_from same seen k (x ∷ xs) = if list_any (same x) seen then Some k else repeated_from same (x ∷ seen) (k + 1) xs

abbrev pub successor_faults : Rows → Values → Deprecation → List (Option EditFault)
successor_faults rows n d =
    when (not (is_count d.kind (length d.successors))) fault.BadCount
    ∷ option_map fault.UnknownSuccessor (place_of (λ s. not (is_entry rows s)) d.successors)
    ∷ option_map fault.RepeatedSuccessor (repeated_from is_same [] 1 d.successors)
    ∷ option_map fault.Cycle (place_of (λ s. leads_to rows.entries s n) d.successors)
    ∷ []

abbrev pub is_deprecated : Rows → Values → Bool
is_deprecated rows n = option_map_or (λ e. not (is_active e)) (entry_of rows n) false

-- ---- faults of an edit

abbrev pub faults : Rows → Edit → List (Option EditFault)
faults rows (edit.Entry e) =
    when (not (is_identifier e.name)) fault.NotIdentifier ∷ when (has_wildcards e.name) fault.Wildcards
    ∷ when (is_entry rows e.name) fault.Exists ∷ full (after rows (edit.Entry e)) ∷ []
faults rows (edit.Item n) = when (is_item rows n) fault.Exists ∷ full (after rows (edit.Item n)) ∷ []
faults rows (edit.DropItem n) = when (not (is_item rows n)) fault.Unknown ∷ []
faults rows (edit.Deprecate n d date comment) =
    when (not (is_entry rows n)) fault.Unknown ∷ when (is_deprecated rows n) fault.AlreadyDeprecated
    ∷ successor_faults rows n d ++ too_wide (after rows (edit.Deprecate n d date comment)) ∷ full (after rows (edit.Deprecate n d date comment)) ∷ []
faults rows (edit.Amend n d date comment) =
    when (not (is_entry rows n)) fault.Unknown ∷ when (not (is_deprecated rows n)) fault.NotDeprecated
    ∷ successor_faults rows n d ++ too_wide (after rows (edit.Amend n d date comment)) ∷ full (after rows (edit.Amend n d date comment)) ∷ []
faults rows (edit.Restore n date comment) =
    when (not (is_entry rows n)) fault.Unknown ∷ when (not (is_deprecated rows n)) fault.NotDeprecated
    ∷ too_wide (after rows (edit.Restore n date comment)) ∷ full (after rows (edit.Restore n date comment)) ∷ []
faults rows (edit.PutStatement s) = when (is_statement rows s.id) fault.Exists ∷ full (after rows (edit.PutStatement s)) ∷ []
faults rows (edit.DropStatement id) = when (not (is_statement rows id)) fault.Unknown ∷ []
faults rows (edit.SetCheck k t) = full (after rows (edit.SetCheck k t)) ∷ []
faults rows (edit.DropCheck k) = when (not (is_checked rows k)) fault.Unknown ∷ []
