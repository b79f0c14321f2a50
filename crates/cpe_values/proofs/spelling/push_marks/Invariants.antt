use Rattle.std.proofs.Common.{◌≡◌, ◌++◌, replicate, take, length}
use Rattle.cpe_values.proofs.spelling.push_marks.Given as goal

abbrev pub invariant-loop : goal.invariant-loop
invariant-loop l = record {
  spelled : l.out.items ≡ l.fn.out.items ++ replicate l.counter 63;
  kept : take (length l.fn.out.items) l.out.items ≡ l.fn.out.items;
}
