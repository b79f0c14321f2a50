use Rattle.cpe_name.proofs.WholeTexts.{found_is, refused_is}
use Rattle.cpe_name.proofs.scan.scan_wfn.Goals as goal

pub returns-clause-found : goal.returns-clause-found
returns-clause-found c = found_is c.scan_all.result c.args.text.now c.scan_all.ensures

pub returns-clause-refused : goal.returns-clause-refused
returns-clause-refused c = refused_is c.scan_all.result c.args.text.now c.scan_all.ensures
