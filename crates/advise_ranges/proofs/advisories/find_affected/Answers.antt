use Rattle.std.proofs.Common.{filter, ap, ◌∙◌}
use Rattle.cpe_rows.specs.cpe_name.Eleven.{Values}
use Rattle.cpe_relation.specs.NameRelation.{covers}
use Rattle.advise_ranges.specs.Affected.{is_in_range}
use Rattle.cpe_rows.proofs.Lists.{both_pass}
use Rattle.advise_ranges.proofs.advisories.find_affected.Goals as goal

pub returns-clause-found : goal.returns-clause-found
returns-clause-found g c id =
    let t = c.args.terms.now in
    let in_range = λ (n : Values). is_in_range t.start t.end n.version in
    c.in_range.ensures ∙ ap (filter in_range) (c.in_ok-covered.ensures.found ∙ ap (filter (covers t.name)) c.all.ensures) ∙ both_pass (covers t.name) in_range c.args.items.now
