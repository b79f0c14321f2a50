use Rattle.cpe_name.proofs.Bindings.{says_text, says_name, says_nothing}
use Rattle.cpe_uri.specs.Canon.{canon}
use Rattle.cpe_uri.specs.Bound.{bound_uri}
use Rattle.cpe_uri.proofs.bound_uri_is.Goals as goal

pub returns : goal.returns
unfolding bound_uri
returns c = record { named = says_text canon; found = says_name canon; none = says_nothing canon }
