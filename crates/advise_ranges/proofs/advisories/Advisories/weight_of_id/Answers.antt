use Rattle.std.proofs.Common.{ap, ◌∙◌}
use Rattle.row_weight.specs.Gain.{weight_of_first}
use Rattle.advise_ranges.specs.Kept.{advisory_from, advice_rows_in}
use Rattle.advise_ranges.specs.Rows.{AdviceRows, has_advisory_id}
use Rattle.advise_ranges.specs.Weight.{advisory_weight}
use Rattle.advise_ranges.proofs.WeightLemmas.{weight_found}
use Rattle.advise_ranges.proofs.advisories.Advisories.weight_of_id.Goals as goal

pub returns-in-Some : goal.returns-in-Some
returns-in-Some c =
    let id = c.args.id.now in
    let rows = advice_rows_in c.self.inside.items c.self.inside.advised in
    weight_found c.self.inside.weight c.with_terms.result rows id (advisory_from (id, c.in-Some.terms.now)) c.self.invariant c.with_terms.ensures c.in-Some.ensures.found
    ∙ ap (λ (r : AdviceRows). weight_of_first advisory_weight (has_advisory_id id) r.advisories) c.self.view_is
