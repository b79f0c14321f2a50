use Rattle.std.proofs.Common.{filter, ap, ◌∙◌, rules}
use Rattle.std.proofs.lemmas.Fn.{filter_same}
use Rattle.cpe_rows.specs.cpe_name.Eleven.{Values}
use Rattle.advise_ranges.specs.Affected.{is_in_range}
use Rattle.advise_ranges.proofs.advisories.in_range.Goals as goal

pub returns : goal.returns
returns c =
    let t = c.args.terms.now in
    c.from_vec.ensures
    ∙ filter_same _ (λ (n : Values). is_in_range t.start t.end n.version) _ (λ x b f' k. search rules) _ _ c.retain.ensures.filtered
    ∙ ap (filter (λ (n : Values). is_in_range t.start t.end n.version)) c.into_vec-names.ensures
