use Rattle.std.proofs.Common.{◌≡◌}
use Rattle.certificate_search.specs.Choices.{why_of}
use Rattle.certificate_search.proofs.Chosen.{so_far}
use Rattle.certificate_search.proofs.certificate.+why_of.Given as goal

abbrev pub invariant-loop-child : goal.invariant-loop-child
invariant-loop-child g l = l.given ≡ so_far (why_of (g.R.PlainRows.rows l.asked.rows.now) l.asked.mode) l.child-items l.child-index
