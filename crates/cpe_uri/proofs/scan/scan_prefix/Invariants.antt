use Rattle.std.proofs.Common.{◌≡◌, drop}
use Rattle.cpe_uri.specs.Scanning.{prefix_end}
use Rattle.cpe_uri.proofs.scan.scan_prefix.Given as goal

abbrev pub invariant-loop-byte : goal.invariant-loop-byte
invariant-loop-byte l = prefix_end (drop l.byte-index l.expected) l.rest ≡ prefix_end l.expected l.bytes
