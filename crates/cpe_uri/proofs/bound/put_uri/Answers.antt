use Rattle.std.proofs.Common.{take, ap, ◌∙◌}
use Rattle.cpe_uri.specs.Canon.{trimmed}
use Rattle.cpe_uri.specs.Requoting.{untrimmed_from, uri_from}
use Rattle.cpe_uri.proofs.Trims.{trimmed_behind}
use Rattle.cpe_uri.proofs.Requoted.{some_other}
use Rattle.cpe_uri.proofs.bound.put_uri.Goals as goal

pub returns-clause-written : goal.returns-clause-written
unfolding uri_from
returns-clause-written c = c.without_colons.ensures.trimmed ∙ ap (trimmed 58) c.put_components-end.ensures.written ∙ trimmed_behind (take c.args.at c.args.room.now) (untrimmed_from c.args.written.now) (some_other c.args.written.now)
