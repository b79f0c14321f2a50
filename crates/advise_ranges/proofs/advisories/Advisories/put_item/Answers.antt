use Rattle.std.proofs.Common.{◌≡◌, List, sym, ap, ◌∙◌}
use Rattle.cpe_rows.specs.cpe_name.Eleven.{Values}
use Rattle.advise_ranges.specs.Kept.{advice_rows_in}
use Rattle.advise_ranges.specs.Rows.{AdviceRows}
use Rattle.advise_ranges.specs.Step.{after_advice}
use Rattle.advise_ranges.specs.declared.edit.AdviceEdit.TheVariants as edit
use Rattle.advise_ranges.proofs.WeightLemmas.{item_within, weight_kept}
use Rattle.advise_ranges.proofs.advisories.Advisories.put_item.Goals as goal

pub invariant_of-self-2 : goal.invariant_of-self-2
invariant_of-self-2 c =
    let n = c.args.name in
    let rows = advice_rows_in c.self.inside.items c.self.inside.advised in
    let within = item_within c.args.self.now n c.requires.none in
    let next : after_advice c.args.self.now (edit.Item n) ≡ advice_rows_in c.add.new.self c.self.inside.advised =
    ap (λ (r : AdviceRows). after_advice r (edit.Item n)) (sym c.self.view_is) ∙ ap (λ (ns : List Values). advice_rows_in ns c.self.inside.advised) (sym c.in_ok-add.ensures.ok) in
    weight_kept c.args.weight (after_advice c.args.self.now (edit.Item n)) (advice_rows_in c.add.new.self c.self.inside.advised) c.requires.weight within next
