use Rattle.std.proofs.Common.{◌≡◌, drop}
use Rattle.facts.specs.ticket_list.Tickets.{without}
use Rattle.verdicts.proofs.removal.is_only.Given as goal

abbrev pub invariant-loop-user : goal.invariant-loop-user
invariant-loop-user l = without l.ticket (drop l.user-index l.users) ≡ without l.ticket l.users
