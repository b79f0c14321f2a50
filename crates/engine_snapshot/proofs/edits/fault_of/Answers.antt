use Rattle.engine_snapshot.proofs.EditLemmas.{unless_memory}
use Rattle.engine_snapshot.proofs.edits.fault_of.Goals as goal

pub returns-in_default : goal.returns-in_default
returns-in_default c = unless_memory _ c.in_default.not-Memory
