use Rattle.cpe_name.proofs.Unbinding.{one_name}
use Rattle.cpe_fs.proofs.Said.{said}
use Rattle.cpe_fs.proofs.one_text.Goals as goal

pub returns-clause-name : goal.returns-clause-name
returns-clause-name c = one_name said
