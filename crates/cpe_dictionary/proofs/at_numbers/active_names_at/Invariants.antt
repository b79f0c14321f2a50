use Rattle.std.proofs.Common.{◌≡◌, ◌++◌, map, filter, drop}
use Rattle.cpe_rows.specs.Chains.{is_active}
use Rattle.cpe_dictionary.specs.Listed.{entries_at}
use Rattle.cpe_dictionary.proofs.at_numbers.active_names_at.Given as goal

abbrev pub invariant-loop-number : goal.invariant-loop-number
invariant-loop-number l =
    let es = l.entries in
    l.names ++ map (λ e. e.name) (filter is_active (entries_at es (drop l.number-index l.numbers))) ≡ map (λ e. e.name) (filter is_active (entries_at es l.numbers))
