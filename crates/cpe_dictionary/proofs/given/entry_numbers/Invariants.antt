use Rattle.std.proofs.Common.{◌≡◌, ◌++◌, drop}
use Rattle.cpe_dictionary.specs.Given.{are_entries}
use Rattle.cpe_dictionary.specs.Numbers.{numbers_of}
use Rattle.cpe_dictionary.proofs.given.entry_numbers.Given as goal

abbrev pub invariant-loop-name : goal.invariant-loop-name
invariant-loop-name l = record {
  numbers : l.numbers ++ numbers_of l.dictionary (drop l.name-index l.names) ≡ numbers_of l.dictionary l.names;
  entries : are_entries l.dictionary (drop l.name-index l.names) ≡ are_entries l.dictionary l.names;
}
