use Rattle.std.proofs.Common.{◌-◌, List, sym, subst, ◌∙◌}
use Rattle.cpe_rows.specs.cpe_name.Eleven.{Values}
use Rattle.cpe_rows.specs.Weight.{name_weight}
use Rattle.advise_ranges.specs.Kept.{advice_rows_in, IsWeight}
use Rattle.advise_ranges.specs.Step.{after_advice}
use Rattle.advise_ranges.specs.declared.edit.AdviceEdit.TheVariants as edit
use Rattle.advise_ranges.proofs.WeightLemmas.{weighs_drop_item, less_lost, weight_left}
use Rattle.advise_ranges.proofs.advisories.Advisories.drop_item.Goals as goal

pub overflow_sub-self : goal.overflow_sub-self
overflow_sub-self c =
    let n = c.args.name in
    let rows = advice_rows_in c.self.inside.items c.self.inside.advised in
    let sum = weighs_drop_item c.names_are_equal.ensures.same rows n (sym c.remove.ensures.found ∙ c.if-not-remove.false) in
    less_lost c.self.inside.weight c.with_name-lost.result (name_weight n) rows (after_advice rows (edit.DropItem n)) c.self.invariant c.with_name-lost.ensures sum

pub invariant_of-self-2 : goal.invariant_of-self-2
invariant_of-self-2 c =
    let n = c.args.name in
    let rows = advice_rows_in c.self.inside.items c.self.inside.advised in
    let sum = weighs_drop_item c.names_are_equal.ensures.same rows n (sym c.remove.ensures.found ∙ c.if-not-remove.false) in
    subst (λ (ns : List Values). IsWeight (c.self.inside.weight - c.with_name-lost.result) (advice_rows_in ns c.self.inside.advised)) (sym c.remove.ensures.items)
    (weight_left c.self.inside.weight c.with_name-lost.result (name_weight n) rows (after_advice rows (edit.DropItem n)) c.self.invariant c.with_name-lost.ensures sum)
