use Rattle.std.proofs.Common.{◌≡◌, ◌<◌, ◌||◌, ℕ, nat_eq, length, take}
use Rattle.std.specs.List.{list_any}
use Rattle.cover_lines.specs.Marks.{is_name_marked}
use Rattle.cover_lines.proofs.marks.mark_places.Given as goal

abbrev pub invariant-loop-place : goal.invariant-loop-place
invariant-loop-place l = record {
  len : length l.marks ≡ length l.fn.marks;
  marked : (k : ℕ) → k < length l.fn.marks → is_name_marked l.marks k ≡ (is_name_marked l.fn.marks k || list_any (nat_eq k) (take l.place-index l.places));
}
