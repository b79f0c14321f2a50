use Rattle.std.proofs.Common.{◌≡◌, ℕ, sym, subst}
use Rattle.std.proofs.lemmas.Bool.{both_ways}
use Rattle.name_index.specs.Table.{Names, HasName}
use Rattle.name_index.specs.Rows.{row_number_at, table_of_rows}
use Rattle.name_index.proofs.Names.{found_at, has_name, name_found}
use Rattle.name_index.proofs.table.NameTable.find.Goals as goal

pub returns-in-Some-clause-found : goal.returns-in-Some-clause-found
returns-in-Some-clause-found c =
    let i = c.self.inside in
    let f = found_at i.names.keys c.args.name.now c.in-Some.place (sym c.in-Some.ensures.index) in
    let at : c.number_of.result ≡ row_number_at i.numbers.items c.in-Some.place = c.number_of.ensures in
    subst (λ (names : Names). HasName names c.number_of.result c.args.name.now) c.self.view_is
    (subst (λ (n : ℕ). HasName (table_of_rows i.names.keys i.rows.items) n c.args.name.now) (sym at) (has_name i.names.keys i.rows.items i.numbers.items i.products c.self.invariant.0 c.args.name.now c.in-Some.place f))

pub returns-in-None-clause-none : goal.returns-in-None-clause-none
returns-in-None-clause-none c e id has =
    let i = c.self.inside in
    both_ways _ (sym c.in-None.ensures.found) (name_found i.names.keys i.rows.items i.numbers.items i.products c.self.invariant.0 id c.args.name.now (subst (λ (names : Names). HasName names id c.args.name.now) (sym c.self.view_is) has))
