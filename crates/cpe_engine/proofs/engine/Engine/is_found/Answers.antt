use Rattle.std.proofs.Common.{◌∙◌}
use Rattle.certificate_search.specs.certificate_check.Relates.{related}
use Rattle.cpe_engine.proofs.FactLemmas.{found_reported}
use Rattle.cpe_engine.proofs.engine.Engine.is_found.Goals as goal

pub returns : goal.returns
returns c =
    c.is_some.ensures
    ∙ found_reported c.args.self.now c.args.mode c.args.name.now (related c.args.relates) c.in_ok-item.item c.in_ok-item.ensures
