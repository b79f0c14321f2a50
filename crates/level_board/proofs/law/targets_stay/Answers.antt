use Rattle.level_board.proofs.Stay.{hold_stays, release_stays, targets_there}
use Rattle.level_board.proofs.law.targets_stay.Goals as goal

pub returns-clause-held : goal.returns-clause-held
returns-clause-held c old new id name targets h = targets_there old new targets (λ x more. hold_stays old new id name h x)

pub returns-clause-released : goal.returns-clause-released
returns-clause-released c old new id targets r none = targets_there old new targets (release_stays old new id targets r none)

pub returns-clause-kept : goal.returns-clause-kept
returns-clause-kept c = targets_there
