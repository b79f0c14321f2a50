-- The parts of an index of targets.
use Rattle.std.specs.Prelude.{ℕ, ◌+◌, ◌≤◌, List, map, length, vec_capacity}
use Rattle.name_index.specs.Index.{times_held}
use Rattle.level_board.specs.declared.target_parts.Loose.{Loose}
use Rattle.level_board.specs.declared.target_parts.TargetParts.{TargetParts}
use Rattle.level_board.specs.Targets.{Targets, held}

abbrev pub pair_of_loose : Loose → ℕ × ℕ
pair_of_loose l = (l.id, l.product)

abbrev pub pairs_of : List Loose → List (ℕ × ℕ)
pairs_of ls = map pair_of_loose ls

abbrev pub targets_of : TargetParts → Targets
targets_of a = record {
  plain = a.plain.held;
  loose = pairs_of a.loose.items;
  opens = a.opens;
  spare = a.room;
  wide = a.plain.wide;
}

-- No number is held twice, and each part has the room that is counted.
pub record ArePartsOf (a : TargetParts) : Type 0 where
  pub once : (id : ℕ) → times_held (held (targets_of a)) id ≤ 1
  pub plain_room : a.room ≤ a.plain.spare
  pub loose_room : length a.loose.items + a.room ≤ vec_capacity a.loose
