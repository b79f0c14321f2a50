use Rattle.cpe_name.proofs.Unbinding.{says_text, says_name, says_place}
use Rattle.cpe_uri.proofs.EitherBinding.{either}
use Rattle.cpe_uri.proofs.unbind.unbound_any_is.Goals as goal

pub returns : goal.returns
returns c = record { named = says_text either; found = says_name either; refused = says_place either }
