use Rattle.std.proofs.Common.{◌≡◌, ◌≤◌, ◌+◌, length, filter, drop, is_some}
use Rattle.cpe_dictionary.specs.declared.kept.EntryDetails.{EntryDetails}
use Rattle.cpe_dictionary.proofs.entries.Entries.count_deprecated.Given as goal

abbrev pub invariant-loop-details : goal.invariant-loop-details
invariant-loop-details l =
    (l.count ≤ l.details-index)
    × (l.count + length (filter (λ (d : EntryDetails). is_some d.deprecation) (drop l.details-index l.details-items)) ≡ length (filter (λ (d : EntryDetails). is_some d.deprecation) l.details-items))
