use Rattle.std.proofs.Common.{◌≡◌, ◌≤◌, ◌*◌, take, length}
use Rattle.std.specs.List.{flat_map}
use Rattle.cpe_values.specs.Spelling.{style_character}
use Rattle.cpe_values.specs.declared.spelling.Style.TheVariants as style
use Rattle.cpe_fs.proofs.bind.characters_len.Given as goal

abbrev pub invariant-loop-byte : goal.invariant-loop-byte
invariant-loop-byte l = record { value : l.len ≡ length (flat_map (style_character style.Formatted) (take l.byte-index l.body)); small : l.len ≤ 2 * l.byte-index }
