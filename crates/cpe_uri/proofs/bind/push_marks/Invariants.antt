use Rattle.std.proofs.Common.{◌≡◌, ◌++◌, replicate}
use Rattle.std.specs.List.{flat_map}
use Rattle.cpe_uri.specs.Spelling.{uri_character}
use Rattle.cpe_uri.proofs.bind.push_marks.Given as goal

abbrev pub invariant-loop : goal.invariant-loop
invariant-loop l = l.out.items ≡ l.fn.out.items ++ flat_map uri_character (replicate l.counter 1)
