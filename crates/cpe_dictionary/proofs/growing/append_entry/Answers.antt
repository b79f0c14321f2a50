use Rattle.std.proofs.Common.{◌≡◌, ◌∷◌, ◌++◌, [], ap, ◌∙◌}
use Rattle.std.proofs.lemmas.List.{length-map}
use Rattle.name_index.specs.declared.table.NameId.{NameId}
use Rattle.name_index.specs.Table.{kept_at}
use Rattle.names_in_order.specs.InOrder.{names_numbered}
use Rattle.cpe_dictionary.specs.Listed.{entries_of}
use Rattle.cpe_dictionary.proofs.EntryLemmas.{one_more}
use Rattle.cpe_dictionary.proofs.growing.append_entry.Goals as goal

pub returns-clause-entries : goal.returns-clause-entries
returns-clause-entries c =
    let table = c.args.table.now in
    let numbers = c.args.names.now.numbers in
    let name = (kept_at table c.args.id.0).name in
    let names : names_numbered table c.push.new.self.numbers ≡ names_numbered table numbers ++ name ∷ [] = ap (names_numbered table) c.push.ensures.numbers ∙ c.orders_stay.ensures.more table numbers c.args.id in
    (λ i. entries_of (names i) (c.push_reserved.ensures.items i)) ∙ one_more (names_numbered table numbers) c.args.all.now.items name c.args.details (length-map numbers (λ (x : NameId). (kept_at table x.0).name) ∙ c.requires.even)
