use Rattle.std.proofs.Common.{ap, ◌∙◌}
use Rattle.std.specs.Prelude.{Err}
use Rattle.std.proofs.lemmas.Result.{err_from_is_err_and}
use Rattle.cpe_rows.specs.After.{after}
use Rattle.cpe_rows.specs.Applied.{RefusesEdit}
use Rattle.cpe_rows.specs.Step.{step}
use Rattle.cpe_rows.specs.declared.fault.EditFault.TheVariants as fault
use Rattle.cpe_rows.specs.declared.fault.Which.TheVariants as limit
use Rattle.cpe_dictionary.proofs.DictionaryLemmas.{at_error}
use Rattle.engine_edits.specs.Parts.{edit_in, rows_in}
use Rattle.engine_edits.proofs.PartsLemmas.{is_heavy, is_light, weight_within}
use Rattle.engine_edits.proofs.parts.EngineParts.check.Goals as goal

pub returns-in_err-plan-clause-err : goal.returns-in_err-plan-clause-err
returns-in_err-plan-clause-err c =
    let rows = rows_in c.args.self.now in
    let e = edit_in c.args.self.now c.args.numbered.now in
    let f = c.in_err-plan.field-0.0 in
    let p = err_from_is_err_and c.from_residual.result c.from_residual.ensures.1 in
    at_error c.from_residual.result f (λ x. RefusesEdit x (step rows e)) (p.1 ∙ ap Err p.2)
    (c.causes_refuse.ensures.refused rows e f c.requires.lawful.within c.in_err-plan.ensures.err)

pub weight_after-weight-requires-clause-within : goal.weight_after-weight-requires-clause-within
weight_after-weight-requires-clause-within c = weight_within (rows_in c.args.self.now) c.requires.lawful.within

pub returns-then-weight-gt-MOST_WEIGHT-clause-err : goal.returns-then-weight-gt-MOST_WEIGHT-clause-err
returns-then-weight-gt-MOST_WEIGHT-clause-err c =
    let rows = rows_in c.args.self.now in
    let e = edit_in c.args.self.now c.args.numbered.now in
    c.causes_refuse.ensures.too_heavy rows e (fault.Full limit.Weight) c.requires.lawful.within c.in_ok-plan.ensures.ok (is_heavy rows e c.weight_after-weight.result c.weight_after-weight.ensures c.if-weight-gt-MOST_WEIGHT.true)

pub returns-clause-ok : goal.returns-clause-ok
returns-clause-ok c =
    let rows = rows_in c.args.self.now in
    let e = edit_in c.args.self.now c.args.numbered.now in
    let none = c.in_ok-plan.ensures.ok in
    let weighed = is_light (after rows e) c.weight_after-weight.result c.weight_after-weight.ensures c.if-weight-gt-MOST_WEIGHT.false in
    record {
      accepted = record {
        lawful = c.requires.lawful;
        formed = c.requires.formed;
        valid = c.requires.valid;
        accepted = c.causes_refuse.ensures.accepted rows e c.requires.lawful.within none weighed.light;
      };
      none = none;
      planned = c.in_ok-plan.ensures.planned;
      weight = weighed.exact;
    }
