use Rattle.cpe_uri.proofs.Said.{said}
use Rattle.cpe_uri.proofs.unbind.read_uri_is.Goals as goal

pub returns : goal.returns
returns c = record { named = said.read_name; found = said.name_has; refused = said.place_is }
