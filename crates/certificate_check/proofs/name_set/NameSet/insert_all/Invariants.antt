use Rattle.std.proofs.Common.{◌≡◌, fold, drop}
use Rattle.certificate_check.specs.Seen.{with_seen_name}
use Rattle.certificate_check.proofs.name_set.NameSet.insert_all.Given as goal

abbrev pub invariant-loop-name : goal.invariant-loop-name
invariant-loop-name l = fold with_seen_name l.self (drop l.name-index l.names) ≡ fold with_seen_name l.initial.self l.names
