use Rattle.std.proofs.Common.{refl}
use Rattle.engine_edits.proofs.ReadyLemmas.{stay_same}
use Rattle.engine_edits.proofs.statements.ready_removal.Goals as goal

pub returns-in-Ok : goal.returns-in-Ok
returns-in-Ok c = record { same = stay_same c.args.parts.now; edit = refl; all = record { are = c.requires.beside.are; removal = c.in-Ok.ensures }; left = tt }

pub returns-in-Err : goal.returns-in-Err
returns-in-Err c = record { same = stay_same c.args.parts.now; edit = tt; all = tt; left = c.requires.beside.are }
