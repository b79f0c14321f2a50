use Rattle.cpe_rows.specs.Chains.{is_successor}
use Rattle.cpe_rows.specs.Rows.{is_named}
use Rattle.cpe_rows.proofs.Reaches.{decided}
use Rattle.cpe_rows.proofs.law.chains_are_paths.Goals as goal

pub returns : goal.returns
returns c entries n = decided is_successor entries (is_named n)
