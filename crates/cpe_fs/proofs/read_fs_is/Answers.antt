use Rattle.cpe_fs.proofs.Said.{said}
use Rattle.cpe_fs.proofs.read_fs_is.Goals as goal

pub returns : goal.returns
returns c = record { named = said.read_name; found = said.name_has; refused = said.place_is }
