use Rattle.std.proofs.Common.{sym}
use Rattle.cpe_rows.specs.Lent.{entry_lent}
use Rattle.cpe_rows.specs.Lawful.{has_successors}
use Rattle.engine_snapshot.proofs.WriteLemmas.{holds_at}
use Rattle.engine_snapshot.proofs.write.push_entry_at.Goals as goal

pub push_lent-requires : goal.push_lent-requires
push_lent-requires c =
    let es = c.args.engine.now.entries in
    holds_at (has_successors es) es c.args.k (entry_lent c.in-Some.entry) c.lawful.ensures.dictionary.successors (sym c.in-Some.ensures)
