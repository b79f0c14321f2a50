use Rattle.std.proofs.Common.{◌≡◌, ◌+◌, [], drop, take, nat_eq}
use Rattle.cpe_rows.specs.Faults.{repeated_from}
use Rattle.cpe_dictionary.proofs.successors.find_repeated.Given as goal

abbrev pub invariant-loop-number : goal.invariant-loop-number
invariant-loop-number l = record {
  place : l.place ≡ l.number-index;
  rest : repeated_from nat_eq [] 1 l.numbers ≡ repeated_from nat_eq (take l.place l.numbers) (l.place + 1) (drop l.number-index l.numbers);
}
