use Rattle.std.proofs.Common.{◌-◌, List, sym, ap, subst, ◌∙◌}
use Rattle.row_weight.specs.Gain.{weight_of_first}
use Rattle.advise_ranges.specs.Kept.{advice_rows_in, IsWeight}
use Rattle.advise_ranges.specs.Rows.{AdviceRows, has_advisory_id}
use Rattle.advise_ranges.specs.Step.{after_advice}
use Rattle.advise_ranges.specs.Weight.{advisory_weight}
use Rattle.advise_ranges.specs.declared.advisory.Advisory.{Advisory}
use Rattle.advise_ranges.specs.declared.edit.AdviceEdit.TheVariants as edit
use Rattle.advise_ranges.proofs.WeightLemmas.{weighs_drop, exactly_less, exactly_left}
use Rattle.advise_ranges.proofs.advisories.Advisories.drop_advisory.Goals as goal

pub overflow_sub-self : goal.overflow_sub-self
overflow_sub-self c =
    let id = c.args.id in
    let rows = advice_rows_in c.self.inside.items c.self.inside.advised in
    let lost = c.weight_of_id-lost.ensures ∙ ap (λ (r : AdviceRows). weight_of_first advisory_weight (has_advisory_id id) r.advisories) (sym c.self.view_is) in
    exactly_less c.self.inside.weight c.weight_of_id-lost.result _ rows (after_advice rows (edit.Drop id)) c.self.invariant lost (weighs_drop rows id)

pub invariant_of-self : goal.invariant_of-self
invariant_of-self c =
    let id = c.args.id in
    let rows = advice_rows_in c.self.inside.items c.self.inside.advised in
    let lost = c.weight_of_id-lost.ensures ∙ ap (λ (r : AdviceRows). weight_of_first advisory_weight (has_advisory_id id) r.advisories) (sym c.self.view_is) in
    subst (λ (ads : List Advisory). IsWeight (c.self.inside.weight - c.weight_of_id-lost.result) (advice_rows_in c.self.inside.items ads)) (sym c.remove.ensures)
    (exactly_left c.self.inside.weight c.weight_of_id-lost.result _ rows (after_advice rows (edit.Drop id)) c.self.invariant lost (weighs_drop rows id))
