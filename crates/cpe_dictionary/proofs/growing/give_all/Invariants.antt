use Rattle.std.proofs.Common.{◌≡◌, ◌+◌, length}
use Rattle.std.specs.Vec.Iter.{into_iter_items, into_iter_len}
use Rattle.cpe_dictionary.specs.GivenEntries.{details_given}
use Rattle.cpe_dictionary.proofs.GivenDetails.{given_from}
use Rattle.cpe_dictionary.proofs.growing.give_all.Given as goal

abbrev pub invariant-loop-deprecation : goal.invariant-loop-deprecation
invariant-loop-deprecation l = record {
  given : given_from l.place l.all.items (into_iter_items l.deprecation-iterator) ≡ details_given l.initial.all.items (into_iter_items l.initial.deprecation-iterator);
  even : l.place + length (into_iter_items l.deprecation-iterator) ≡ length l.all.items;
  left : into_iter_len l.deprecation-iterator ≡ length (into_iter_items l.deprecation-iterator);
}
