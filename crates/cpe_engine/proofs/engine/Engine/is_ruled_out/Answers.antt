use Rattle.std.proofs.Common.{ap, sym, ◌∙◌}
use Rattle.certificate_search.specs.certificate_check.Relates.{is_ruled_out}
use Rattle.cpe_engine.proofs.FactLemmas.{ruled_out}
use Rattle.cpe_engine.proofs.engine.Engine.is_ruled_out.Goals as goal

pub returns-in-Some : goal.returns-in-Some
returns-in-Some c = λ h.
    ruled_out c.args.self.now c.args.mode c.args.name.now c.args.relates
    (ap (is_ruled_out c.args.relates) (sym c.in-Some.ensures) ∙ (sym c.is_ruled_out.ensures ∙ h))
