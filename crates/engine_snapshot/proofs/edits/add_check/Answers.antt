use Rattle.std.proofs.Common.{◌≡◌, false, sym, ◌∙◌}
use Rattle.std.specs.List.{list_any}
use Rattle.std.proofs.lemmas.Result.{IfErr-weaker, on_ok_weaker}
use Rattle.cpe_rows.specs.Rows.{has_key}
use Rattle.engine_snapshot.proofs.Taken.{check_put, check_taken, new_key}
use Rattle.engine_snapshot.proofs.edits.add_check.Goals as goal

pub returns-then-has_check-clause-unlawful : goal.returns-then-has_check-clause-unlawful
returns-then-has_check-clause-unlawful g c =
    λ is more lawful.
    let new : list_any (has_key c.args.kept.key) c.args.engine.now.checks ≡ false = new_key c.args.engine.now c.args.kept.key c.args.kept.result more lawful in
    cc (new, c.has_check.ensures, c.if-has_check.true)

pub returns-clause-ok : goal.returns-clause-ok
returns-clause-ok g c =
    on_ok_weaker c.make.result (λ put. put ∙ check_put c.args.engine.now c.args.kept.key c.args.kept.result (sym c.has_check.ensures ∙ c.if-has_check.false)) c.make.ensures.ok

pub returns-clause-unlawful : goal.returns-clause-unlawful
returns-clause-unlawful g c =
    IfErr-weaker c.make.result _ _ (λ f none is more lawful. none is (check_taken c.args.engine.now c.args.kept.key c.args.kept.result more lawful)) c.make.ensures.unlawful
