use Rattle.std.proofs.Common.{◌≡◌, ◌++◌, take, length}
use Rattle.std.specs.List.{flat_map}
use Rattle.cpe_values.specs.Spelling.{style_character}
use Rattle.cpe_values.proofs.spelling.push_characters.Given as goal

abbrev pub invariant-loop-byte : goal.invariant-loop-byte
invariant-loop-byte l = record {
  spelled : l.out.items ≡ l.fn.out.items ++ flat_map (style_character l.style) (take l.byte-index l.body);
  kept : take (length l.fn.out.items) l.out.items ≡ l.fn.out.items;
}
