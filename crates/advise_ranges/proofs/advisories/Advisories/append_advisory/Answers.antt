use Rattle.std.proofs.Common.{◌≡◌, List, sym, ap, ◌∙◌}
use Rattle.advise_ranges.specs.Kept.{advice_rows_in}
use Rattle.advise_ranges.specs.Rows.{AdviceRows}
use Rattle.advise_ranges.specs.Step.{after_advice}
use Rattle.advise_ranges.specs.declared.advisory.Advisory.{Advisory}
use Rattle.advise_ranges.specs.declared.edit.AdviceEdit.TheVariants as edit
use Rattle.advise_ranges.proofs.WeightLemmas.{put_within, weight_kept}
use Rattle.advise_ranges.proofs.advisories.Advisories.append_advisory.Goals as goal

pub invariant_of-self-2 : goal.invariant_of-self-2
invariant_of-self-2 c =
    let a = c.args.advisory in
    let within = put_within c.args.self.now a c.requires.none in
    let next : after_advice c.args.self.now (edit.Put a) ≡ advice_rows_in c.self.inside.items c.put.new.self =
    ap (λ (r : AdviceRows). after_advice r (edit.Put a)) (sym c.self.view_is) ∙ ap (λ (ads : List Advisory). advice_rows_in c.self.inside.items ads) (sym c.in_ok-put.ensures.ok) in
    weight_kept c.args.weight (after_advice c.args.self.now (edit.Put a)) (advice_rows_in c.self.inside.items c.put.new.self) c.requires.weight within next
