use Rattle.std.proofs.Common.{◌≡◌, ◌++◌, map, filter, drop}
use Rattle.cpe_rows.specs.Answers.{row_of}
use Rattle.names_in_order.specs.Places.{rows_at}
use Rattle.cpe_dictionary.specs.Listed.{is_wanted_entry}
use Rattle.cpe_dictionary.proofs.search.wanted_at.Given as goal

abbrev pub invariant-loop-place : goal.invariant-loop-place
invariant-loop-place l =
    let es = l.entries in
    l.rows ++ map row_of (filter (is_wanted_entry l.active_only) (rows_at es (drop l.place-index l.places))) ≡ map row_of (filter (is_wanted_entry l.active_only) (rows_at es l.places))
