use Rattle.cpe_command.specs.Meaning.{meaning}
use Rattle.c_library.proofs.Joining.{joined_transcript}
use Rattle.c_library.proofs.law.joined_answers.Goals as goal

pub returns : goal.returns
returns c = λ words. joined_transcript (meaning words).task
