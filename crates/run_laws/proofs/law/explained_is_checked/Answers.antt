use Rattle.run_laws.proofs.Explained.{explained_is_checked}
use Rattle.run_laws.proofs.law.explained_is_checked.Goals as goal

pub returns : goal.returns
returns c = explained_is_checked c.prints_are_texts.ensures c.certificates_are_good.ensures.good c.good_certificates_are_read.ensures.read
