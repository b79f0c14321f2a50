use Rattle.std.proofs.Common.{◌≡◌, ◌++◌, take}
use Rattle.std.specs.List.{flat_map}
use Rattle.cpe_uri.specs.Spelling.{uri_character}
use Rattle.cpe_uri.proofs.bind.push_body.Given as goal

abbrev pub invariant-loop-byte : goal.invariant-loop-byte
invariant-loop-byte l = l.out.items ≡ l.fn.out.items ++ flat_map uri_character (take l.byte-index l.body)
