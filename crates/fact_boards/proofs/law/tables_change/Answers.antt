use Rattle.cpe_rows.specs.declared.statement.Mode.TheVariants.{Plain, Follow}
use Rattle.fact_boards.proofs.Fitting.{held_fit, released_fit}
use Rattle.fact_boards.proofs.Answers.{held_boards, released_boards}
use Rattle.fact_boards.proofs.law.tables_change.Goals as goal

pub returns-clause-held : goal.returns-clause-held
returns-clause-held c = held_boards

pub returns-clause-fit : goal.returns-clause-fit
returns-clause-fit c old new id name boards sound h f = record {
  plain = held_fit old new id name boards.plain (sound.on Plain) h f.plain;
  follow = held_fit old new id name boards.follow (sound.on Follow) h f.follow;
}

pub returns-clause-released : goal.returns-clause-released
returns-clause-released c = released_boards

pub returns-clause-fit_still : goal.returns-clause-fit_still
returns-clause-fit_still c old new id boards sound r none f = record {
  plain = released_fit old new id boards.plain (sound.on Plain) r (λ e. (none e).asked) (λ e. (none e).there) f.plain;
  follow = released_fit old new id boards.follow (sound.on Follow) r (λ e. (none e).asked_follow) (λ e. (none e).there_follow) f.follow;
}
