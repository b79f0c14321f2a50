use Rattle.std.proofs.Common.{sym, ap, ◌∙◌}
use Rattle.cpe_rows.specs.cpe_name.Eleven.{Values}
use Rattle.cpe_rows.specs.After.{without_first}
use Rattle.cpe_rows.specs.Names.{is_same}
use Rattle.names_in_order.specs.InOrder.{names_numbered}
use Rattle.names_in_order.proofs.OrderLemmas.{its_name}
use Rattle.check_results.proofs.SlotLemmas.{all_stay, any_name}
use Rattle.advise_ranges.proofs.items.remove_name.Goals as goal

pub returns-in-Some-clause-found : goal.returns-in-Some-clause-found
returns-in-Some-clause-found c = c.in-Some.ensures.any ∙ sym (any_name c.args.name.now _)

pub returns-in-Some-clause-names : goal.returns-in-Some-clause-names
returns-in-Some-clause-names c =
    let table = c.args.table.now in
    c.remove_number.ensures.names
    ∙ ap (λ (n : Values). without_first (is_same n) (names_numbered table c.args.names.now.numbers)) (its_name table c.in-Some.id.0 c.args.name.now c.in-Some.ensures.found)

pub returns-in-None-clause-found : goal.returns-in-None-clause-found
returns-in-None-clause-found c = c.in-None.ensures.any ∙ sym (any_name c.args.name.now _)

pub returns-in-None-clause-names : goal.returns-in-None-clause-names
returns-in-None-clause-names c =
    let names = names_numbered c.args.table.now c.args.names.now.numbers in
    sym (all_stay (is_same c.args.name.now) names (any_name c.args.name.now names ∙ sym c.in-None.ensures.any))
