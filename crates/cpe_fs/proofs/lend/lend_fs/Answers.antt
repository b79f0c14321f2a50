use Rattle.cpe_name.proofs.Unbinding.{lent_has, lent_read}
use Rattle.cpe_fs.proofs.Said.{said}
use Rattle.cpe_fs.proofs.ValueLemmas.{name_back}
use Rattle.cpe_fs.proofs.lend.lend_fs.Goals as goal

pub returns-in-Ok-clause-lent : goal.returns-in-Ok-clause-lent
returns-in-Ok-clause-lent c =
    let are = c.in-Ok.ensures.found in
    lent_has said c.args.text.now (name_back c.args.text.now c.in-Ok.components are) are.fs c.lend_values.result c.lend_values.ensures

pub returns-in-Ok-clause-read : goal.returns-in-Ok-clause-read
returns-in-Ok-clause-read c =
    let are = c.in-Ok.ensures.found in
    lent_read said c.args.text.now (name_back c.args.text.now c.in-Ok.components are) are.fs c.lend_values.result c.lend_values.ensures

pub returns-in-Err-clause-read : goal.returns-in-Err-clause-read
returns-in-Err-clause-read c = said.read_place c.args.text.now _ c.in-Err.ensures.refused.at
