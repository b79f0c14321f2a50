use Rattle.statement_rows.proofs.RefreshLemmas.{refreshed_twice}
use Rattle.statement_rows.proofs.law.refreshes_add_up.Goals as goal

pub returns : goal.returns
returns c truth checks ts us rows = refreshed_twice truth checks ts us rows
