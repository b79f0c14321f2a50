use Rattle.std.proofs.Common.{◌≡◌, drop}
use Rattle.cpe_name.specs.Scanning.{name_at}
use Rattle.cpe_name.proofs.scan.name_among.Given as goal

abbrev pub invariant-loop-attribute : goal.invariant-loop-attribute
invariant-loop-attribute l = name_at (drop l.attribute-index l.which) l.bytes ≡ name_at l.which l.bytes
