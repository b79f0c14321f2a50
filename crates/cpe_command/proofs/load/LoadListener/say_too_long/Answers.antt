use Rattle.std.proofs.Common.{Some, []}
use Rattle.cpe_command.proofs.LoadLemmas.{Answers-refusal, first_left, too_long}
use Rattle.cpe_command.proofs.load.LoadListener.say_too_long.Goals as goal

pub returns-clause-answers : goal.returns-clause-answers
returns-clause-answers g c = λ input longer.
    Answers-refusal c.refuse.result input (too_long input c.snapshots_are_within.ensures longer) (c.refuse.ensures.ran (Some []))

pub returns-clause-leaves : goal.returns-clause-leaves
returns-clause-leaves g c = λ input longer. first_left c.refuse.result c.args.state.now input (c.refuse.ensures.ran (Some []))
