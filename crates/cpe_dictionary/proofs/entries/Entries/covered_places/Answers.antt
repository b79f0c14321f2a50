use Rattle.std.proofs.Common.{◌≡◌, List, IfOk, sym, ap, subst, ◌∙◌}
use Rattle.cpe_rows.specs.cpe_name.Eleven.{Values}
use Rattle.name_index.specs.step_count.Within.{StepsWithin}
use Rattle.names_in_order.specs.Places.{near_count, places_covered}
use Rattle.cpe_dictionary.specs.Listed.{names_of_entries}
use Rattle.cpe_dictionary.proofs.EntryLemmas.{names_are}
use Rattle.cpe_dictionary.proofs.entries.Entries.covered_places.Goals as goal

pub returns-clause-covered : goal.returns-clause-covered
returns-clause-covered g c =
    let names = sym (names_are c.self.inside.names c.self.inside.details.now c.self.invariant) ∙ ap names_of_entries c.self.view_is in
    subst (λ (ns : List Values). IfOk c.covered_places.result (λ places. places.items ≡ places_covered c.args.asked.now ns)) names c.covered_places.ensures.covered

pub returns-clause-steps : goal.returns-clause-steps
returns-clause-steps g c =
    let names = sym (names_are c.self.inside.names c.self.inside.details.now c.self.invariant) ∙ ap names_of_entries c.self.view_is in
    subst (λ (ns : List Values). StepsWithin c.args.steps.now c.covered_places.new.steps (near_count c.args.asked.now ns)) names c.covered_places.ensures.steps
