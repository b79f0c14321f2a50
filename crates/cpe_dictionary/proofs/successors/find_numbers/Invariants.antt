use Rattle.std.proofs.Common.{◌≡◌, ◌++◌, ◌+◌, drop, not}
use Rattle.std.specs.List.{list_any, position_from}
use Rattle.std.specs.Option.{option_map}
use Rattle.cpe_rows.specs.Rows.{is_named}
use Rattle.cpe_rows.specs.Faults.{place_of}
use Rattle.cpe_dictionary.specs.Numbers.{numbers_of}
use Rattle.cpe_dictionary.proofs.successors.find_numbers.Given as goal

abbrev pub invariant-loop-name : goal.invariant-loop-name
invariant-loop-name l = record {
  place : l.place ≡ l.name-index;
  numbers : l.numbers ++ numbers_of l.dictionary (drop l.name-index l.names) ≡ numbers_of l.dictionary l.names;
  unknown : place_of (λ n. not (list_any (is_named n) l.dictionary)) l.names ≡ option_map (λ k. k + 1) (position_from (λ n. not (list_any (is_named n) l.dictionary)) l.place (drop l.name-index l.names));
}
