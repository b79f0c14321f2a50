use Rattle.std.proofs.Common.{take}
use Rattle.std.specs.Prelude.{All}
use Rattle.std.specs.List.{flat_map}
use Rattle.cpe_name.specs.Names.{IsName}
use Rattle.cpe_rows.specs.FactNames.{fact_names}
use Rattle.cpe_rows.proofs.formed.+are_facts.Given as goal

abbrev pub invariant-loop-child : goal.invariant-loop-child
invariant-loop-child l = All IsName (flat_map fact_names (take l.child-index l.child-items))
