use Rattle.std.proofs.Common.{◌≡◌, length}
use Rattle.names_in_order.specs.Marked.{AreClosing, closing_numbers, numbers_in}
use Rattle.names_in_order.proofs.marked.move_all_up.Given as goal

abbrev pub invariant-loop-read : goal.invariant-loop-read
invariant-loop-read l = record {
  closing : AreClosing l.slots.items l.places.items l.read l.write;
  numbers : closing_numbers l.slots.items l.read l.write ≡ numbers_in l.fn.slots.items;
  len : length l.slots.items ≡ length l.fn.slots.items;
}
