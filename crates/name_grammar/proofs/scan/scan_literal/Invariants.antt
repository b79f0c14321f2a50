use Rattle.std.proofs.Common.{◌≡◌, drop}
use Rattle.name_grammar.specs.Scanners.{literal}
use Rattle.name_grammar.proofs.scan.scan_literal.Given as goal

abbrev pub invariant-loop-byte : goal.invariant-loop-byte
invariant-loop-byte l = literal (drop l.byte-index l.expected) l.rest ≡ literal l.expected l.bytes
