use Rattle.cpe_name.proofs.WholeTexts.{output_is, one_name}
use Rattle.cpe_name.proofs.read.wfn_texts.Goals as goal

pub returns : goal.returns
returns c = record { output = output_is; one = one_name }
