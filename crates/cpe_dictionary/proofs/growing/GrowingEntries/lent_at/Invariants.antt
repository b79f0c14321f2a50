use Rattle.std.proofs.Common.{◌≡◌, ◌++◌, drop, map}
use Rattle.cpe_rows.specs.Lent.{entry_lent}
use Rattle.cpe_dictionary.specs.Listed.{entries_at, entries_listed}
use Rattle.cpe_dictionary.proofs.growing.GrowingEntries.lent_at.Given as goal

abbrev pub invariant-loop-number : goal.invariant-loop-number
invariant-loop-number l =
    let es = entries_listed l.table l.self in
    map entry_lent l.lent.items ++ entries_at es (drop l.number-index l.numbers) ≡ entries_at es l.numbers
