use Rattle.cpe_name.proofs.Unbinding.{lent_has, lent_read}
use Rattle.cpe_uri.proofs.Said.{said}
use Rattle.cpe_uri.proofs.ValueLemmas.{name_back}
use Rattle.cpe_uri.proofs.lend.lend_uri.Goals as goal

pub returns-in-Ok-clause-lent : goal.returns-in-Ok-clause-lent
returns-in-Ok-clause-lent c =
    let are = c.in-Ok.ensures.found in
    lent_has said c.args.text.now (name_back c.args.text.now c.in-Ok.spans are) are.uri c.lend_pieces.result c.lend_pieces.ensures

pub returns-in-Ok-clause-read : goal.returns-in-Ok-clause-read
returns-in-Ok-clause-read c =
    let are = c.in-Ok.ensures.found in
    lent_read said c.args.text.now (name_back c.args.text.now c.in-Ok.spans are) are.uri c.lend_pieces.result c.lend_pieces.ensures

pub returns-in-Err-clause-read : goal.returns-in-Err-clause-read
returns-in-Err-clause-read c = said.read_place c.args.text.now _ c.in-Err.ensures.refused.at
