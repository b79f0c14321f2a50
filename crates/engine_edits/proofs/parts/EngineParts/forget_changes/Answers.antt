use Rattle.std.proofs.Common.{◌≡◌, [], map, ap, subst, ◌∙◌}
use Rattle.cpe_rows.specs.Lawful.{IsLawful}
use Rattle.cpe_rows.specs.Rows.{Rows}
use Rattle.cpe_rows.specs.Verdict.{verdict}
use Rattle.cpe_rows.specs.Weight.{weight}
use Rattle.verdicts.specs.Verdicts.{known_in}
use Rattle.engine_edits.specs.Parts.{AreOf, rows_in}
use Rattle.engine_edits.proofs.PartsLemmas.{by_verdicts, same_rows}
use Rattle.engine_edits.proofs.parts.EngineParts.forget_changes.Goals as goal

pub returns-clause-kept : goal.returns-clause-kept
returns-clause-kept c =
    let p = c.args.self.now in
    let rows = rows_in p in
    let w = c.forget_changes.new.self in
    let e = same_rows p.registry p.verdicts w c.forget_changes.ensures.statements c.forget_changes.ensures.checks in
    let are = by_verdicts p.registry p.verdicts w rows [] (c.forget_changes.ensures.verdicts p.registry.table rows c.requires.are.verdicts) c.requires.are in
    record {
      lawful = subst IsLawful e c.requires.lawful;
      weight = c.requires.weight ∙ ap weight e;
      are = subst (λ (r : Rows). AreOf p.registry w r []) e are;
    }

pub returns-clause-known : goal.returns-clause-known
returns-clause-known c =
    let p = c.args.self.now in
    let w = c.forget_changes.new.self in
    subst (λ (r : Rows). known_in w ≡ map (verdict r) r.statements) (same_rows p.registry p.verdicts w c.forget_changes.ensures.statements c.forget_changes.ensures.checks)
    (c.forget_changes.ensures.known p.registry.table (rows_in p) c.requires.are.verdicts)
