use Rattle.std.proofs.Common.{sym, subst, ◌∙◌}
use Rattle.cpe_rows.specs.Lawful.{IsLawful}
use Rattle.cpe_rows.specs.Rows.{Rows}
use Rattle.cpe_engine.specs.Adopting.{with_deprecations}
use Rattle.cpe_engine.proofs.engine.Engine.deprecate_all.Goals as goal

pub returns-in-Err-clause-unlawful : goal.returns-in-Err-clause-unlawful
returns-in-Err-clause-unlawful c is lawful =
    c.in-Err.ensures.unlawful (sym c.discard.ensures ∙ is) (subst (λ (r : Rows). IsLawful (with_deprecations r c.args.deprecations)) (sym c.self.view_is) lawful)
