use Rattle.std.proofs.Common.{List, map, ap, ◌∙◌}
use Rattle.cpe_rows.specs.Lent.{entry_lent}
use Rattle.cpe_rows.specs.declared.entry_ref.EntryRef.{EntryRef}
use Rattle.cpe_command.proofs.records.push_chain_of.Goals as goal

pub returns-in-Ok : goal.returns-in-Ok
returns-in-Ok c = c.push_chain_lent.ensures c.args.engine.now.entries (ap (λ (links : List EntryRef). map entry_lent links) c.deref.ensures.value ∙ c.in-Ok.ensures)
