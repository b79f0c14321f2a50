use Rattle.cpe_name.proofs.Unbinding.{says_text, says_name, says_place}
use Rattle.cpe_fs.proofs.Said.{said}
use Rattle.cpe_fs.proofs.unbound_is.Goals as goal

pub returns : goal.returns
returns c = record { named = says_text said; found = says_name said; refused = says_place said }
