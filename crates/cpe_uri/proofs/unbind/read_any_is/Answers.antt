use Rattle.cpe_uri.proofs.EitherBinding.{either}
use Rattle.cpe_uri.proofs.unbind.read_any_is.Goals as goal

pub returns : goal.returns
returns c = record { named = either.read_name; found = either.name_has; refused = either.place_is }
