use Rattle.std.proofs.Common.{◌≡◌, ◌++◌, None, replicate}
use Rattle.certificate_search.proofs.certificate.push_nothing.Given as goal

abbrev pub invariant-loop : goal.invariant-loop
invariant-loop l = l.given ≡ l.initial.given ++ replicate l.counter None
