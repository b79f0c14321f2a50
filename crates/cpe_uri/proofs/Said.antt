-- Lemmas: what `read_uri` and `unbound_uri` return for a URI.
use Rattle.std.proofs.Common.{refl}
use Rattle.cpe_name.proofs.Unbinding.{Unbinds, unbinds}
use Rattle.cpe_uri.specs.Grammar.{Uri, LeavesUri}
use Rattle.cpe_uri.specs.Scanning.{whole_end}
use Rattle.cpe_uri.specs.Unbound.{uri_name_of, read_uri, unbound_uri}
use Rattle.cpe_uri.proofs.Pieces.{name_of_pieces}
use Rattle.cpe_uri.proofs.Whole.{whole_scans, whole_taken, whole_ends}

-- `read_uri` and `unbound_uri` have the properties `Unbinds` of a binding
pub said : Unbinds Uri LeavesUri read_uri unbound_uri
unfolding read_uri unbound_uri
said = unbinds Uri whole_end uri_name_of whole_scans whole_taken whole_ends name_of_pieces read_uri unbound_uri (λ s. refl) (λ s. refl)
