use Rattle.cpe_name.proofs.LowerNames.{lower_lawful}
use Rattle.cpe_name.specs.Lower.{lower_name}
use Rattle.cpe_uri.specs.Canon.{canon}
use Rattle.cpe_name.proofs.Unbinding as unbinding
use Rattle.cpe_uri.proofs.Said.{said}
use Rattle.cpe_uri.proofs.Canonical.{canon_spelled}
use Rattle.cpe_uri.proofs.one_name.Goals as goal

pub returns-clause-canonical : goal.returns-clause-canonical
returns-clause-canonical c = λ name good. canon_spelled name good (lower_lawful name good)

pub returns-clause-back : goal.returns-clause-back
returns-clause-back c = λ name good. said.read_name (lower_name name) (canon name) (canon_spelled name good (lower_lawful name good))

pub returns-clause-name : goal.returns-clause-name
returns-clause-name c = unbinding.one_name said
