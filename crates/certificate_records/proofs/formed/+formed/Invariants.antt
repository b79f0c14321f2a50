use Rattle.std.proofs.Common.{take}
use Rattle.std.specs.Prelude.{All}
use Rattle.std.specs.List.{flat_map}
use Rattle.cpe_rows.specs.cpe_name.Names.{IsName}
use Rattle.certificate_records.proofs.Names.{names_at}
use Rattle.certificate_records.proofs.formed.+formed.Given as goal

abbrev pub invariant-loop-given : goal.invariant-loop-given
invariant-loop-given l = All IsName (flat_map names_at (take l.given-index l.given-items))
