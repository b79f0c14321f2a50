use Rattle.std.proofs.Common.{ap, sym, ◌∙◌}
use Rattle.std.specs.Prelude.{option_map}
use Rattle.std.specs.Str.{bytes_eq}
use Rattle.advise_ranges.proofs.KeptLemmas.{behind_reference, found_by_id, reference_lower, with_id}
use Rattle.advise_ranges.proofs.advised.find_terms.Goals as goal

pub returns-clause-found : goal.returns-clause-found
returns-clause-found c =
    behind_reference (λ t. t.now) c.args.id.now c.get.result
    ∙ (ap (option_map (with_id c.args.id.now)) c.get.ensures.value ∙ sym (found_by_id c.args.id.now c.args.by_id.now.entries))

pub returns-clause-lower : goal.returns-clause-lower
returns-clause-lower c = reference_lower (λ t. t.now) c.get.result (bytes_eq c.args.id.now) c.args.by_id.now.entries c.requires c.get.ensures.value
