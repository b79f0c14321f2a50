use Rattle.std.proofs.Common.{[], sym, ap, subst, ◌∙◌}
use Rattle.cpe_rows.specs.Lawful.{IsLawful}
use Rattle.cpe_rows.specs.Rows.{Rows}
use Rattle.cpe_rows.specs.Weight.{weight}
use Rattle.engine_edits.specs.Parts.{AreOf}
use Rattle.cpe_engine.proofs.engine.Engine.new.Goals as goal

pub invariant_of-result : goal.invariant_of-result
invariant_of-result c =
    let p = c.new.result in
    let rows = c.new.ensures.rows in
    record {
      lawful = subst IsLawful (sym rows) c.rows_stay_lawful.ensures.start;
      weight = c.new.ensures.weight ∙ ap weight (sym rows);
      are = subst (λ (r : Rows). AreOf p.registry p.verdicts r []) (sym rows) c.new.ensures.are;
    }
