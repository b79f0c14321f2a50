use Rattle.certificate_search.proofs.MadeGood.{verdicts_given, certificates_good}
use Rattle.certificate_search.proofs.law.certificates_are_good.Goals as goal

pub returns-clause-verdicts : goal.returns-clause-verdicts
returns-clause-verdicts c = verdicts_given

pub returns-clause-good : goal.returns-clause-good
returns-clause-good c = certificates_good
