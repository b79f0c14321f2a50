use Rattle.cpe_relation.proofs.MaybeLaws.{apart, covers_whole, maybe_part, each_meets, maybe_lower, maybe_through}
use Rattle.cpe_relation.proofs.law.maybe_laws.Goals as goal

pub returns : goal.returns
returns c = record { apart = apart; whole = covers_whole; part = maybe_part; meet = each_meets; lower = maybe_lower; through = maybe_through }
