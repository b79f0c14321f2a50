use Rattle.std.proofs.Common.{◌∙◌, position, ap}
use Rattle.cpe_rows.specs.Rows.{is_named}
use Rattle.name_index.specs.Table.{kept_at}
use Rattle.cpe_dictionary.specs.Kept.{entries_in, Stored}
use Rattle.cpe_dictionary.proofs.store.KeptDictionary.place_of.Goals as goal

pub returns : goal.returns
returns c =
    let table = c.args.table.now in
    c.place_of.ensures ∙ ap (λ (s : Stored). position (is_named (kept_at table c.args.id.0).name) (entries_in table s)) c.self.view_is
