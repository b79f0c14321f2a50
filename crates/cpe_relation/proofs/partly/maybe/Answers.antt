use Rattle.std.proofs.Common.{◌∙◌}
use Rattle.cpe_relation.proofs.MaybeLaws.{maybe_is}
use Rattle.cpe_relation.proofs.partly.maybe.Goals as goal

pub returns : goal.returns
returns c = c.may_cover.ensures ∙ maybe_is c.args.source.now c.args.target.now
