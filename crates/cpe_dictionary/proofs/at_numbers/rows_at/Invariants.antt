use Rattle.std.proofs.Common.{◌≡◌, ◌++◌, map, drop}
use Rattle.cpe_rows.specs.Answers.{row_of}
use Rattle.cpe_dictionary.specs.Listed.{entries_at}
use Rattle.cpe_dictionary.proofs.at_numbers.rows_at.Given as goal

abbrev pub invariant-loop-number : goal.invariant-loop-number
invariant-loop-number l =
    let es = l.entries in l.rows ++ map row_of (entries_at es (drop l.number-index l.numbers)) ≡ map row_of (entries_at es l.numbers)
