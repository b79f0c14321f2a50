use Rattle.std.proofs.Common.{ap, ◌∙◌}
use Rattle.std.specs.List.{flat_map}
use Rattle.std.proofs.lemmas.Result.{IfOk-weaker}
use Rattle.cpe_rows.specs.cpe_values.declared.value.Value.{Value}
use Rattle.advise_ranges.specs.Answers.{ids_affecting}
use Rattle.advise_ranges.specs.Found.{affecting_there, is_beside, places_where}
use Rattle.advise_ranges.proofs.GroupLemmas.{beside_suffice}
use Rattle.advise_ranges.proofs.PlaceLemmas.{affecting_where}
use Rattle.advise_ranges.proofs.advised.Advised.affecting.Goals as goal

pub returns : goal.returns
returns c =
    let es = c.self.inside.by_id.entries in
    let n = c.args.name.now in
    let all =
    ap (flat_map (affecting_there n es)) (c.deref.ensures.value ∙ c.in_ok-places.ensures ∙ ap (λ (v : Value). places_where (is_beside v) es) c.get-product.ensures)
    ∙ affecting_where n es (is_beside n.product)
    ∙ beside_suffice c.cover_laws.ensures.near n c.requires es c.self.invariant.lower
    ∙ ap (ids_affecting n) c.self.view_is in
    IfOk-weaker c.find_affecting.result _ _ (λ ids h. h ∙ all) c.find_affecting.ensures
