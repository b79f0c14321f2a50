use Rattle.std.proofs.Common.{subst}
use Rattle.name_index.specs.Table.{Names, IsNameTable}
use Rattle.name_index.proofs.Freed.{are_names}
use Rattle.name_index.proofs.table.NameTable.lawful.Goals as goal

pub returns : goal.returns
returns c =
    let i = c.self.inside in
    subst (λ (names : Names). IsNameTable names) c.self.view_is (are_names i.names.keys i.rows.items i.numbers.items i.products c.self.invariant.0 c.lawful.ensures.different)
