use Rattle.std.proofs.Common.{◌≡◌, length, map}
use Rattle.std.specs.Vec.Iter.{into_iter_items, into_iter_len}
use Rattle.cpe_records.specs.Tests.{in_turn, names_from}
use Rattle.cpe_records.proofs.InTurn.{turned}
use Rattle.cpe_records.proofs.draft.+names_from.Given as goal

abbrev pub invariant-loop-child : goal.invariant-loop-child
invariant-loop-child l = record {
  turns : in_turn (map names_from (into_iter_items l.initial.child-iterator)) l.fn.fact ≡ turned names_from l.tests (into_iter_items l.child-iterator) l.count;
  left : into_iter_len l.child-iterator ≡ length (into_iter_items l.child-iterator);
}
