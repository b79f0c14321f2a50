use Rattle.std.proofs.Common.{sym, arith}
use Rattle.cpe_relation.proofs.Ranges.{to_occurs, present_reads}
use Rattle.cpe_relation.proofs.standing.occurs_at.Goals as goal

pub returns : goal.returns
returns c = (
  λ e. to_occurs c.args.text.now c.args.body.now c.args.place c.requires (λ j l. sym (c.matches_between.ensures.0 e j (omega arith) l)),
  λ s. c.matches_between.ensures.1 (λ k low l. sym (present_reads c.args.text.now c.args.body.now c.args.place s k l)),
)
