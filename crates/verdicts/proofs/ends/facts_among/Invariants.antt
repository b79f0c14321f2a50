use Rattle.std.proofs.Common.{◌≡◌, filter, take}
use Rattle.name_index.specs.declared.table.NameId.{NameId}
use Rattle.facts.specs.Facts.{is_used}
use Rattle.verdicts.proofs.ends.facts_among.Given as goal

abbrev pub invariant-loop-name : goal.invariant-loop-name
invariant-loop-name l = l.found.items ≡ filter (λ (x : NameId). is_used l.facts.follow x.0) (take l.name-index l.names)
