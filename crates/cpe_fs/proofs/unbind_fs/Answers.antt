use Rattle.std.proofs.Common.{sym, subst}
use Rattle.cpe_name.specs.Names.{IsName}
use Rattle.cpe_name.proofs.Unbinding.{found_has, found_is}
use Rattle.cpe_fs.proofs.Said.{said}
use Rattle.cpe_fs.proofs.ValueLemmas.{name_back, spans_are}
use Rattle.cpe_fs.proofs.unbind_fs.Goals as goal

pub read_name-requires : goal.read_name-requires
read_name-requires c =
    let are = c.in-Ok.ensures.found in
    record { are_present = spans_are c.args.text.now c.in-Ok.components are; lawful = subst IsName (sym (name_back c.args.text.now c.in-Ok.components are)) are.fs.0 }

pub returns-in-Ok-read_name-clause-found : goal.returns-in-Ok-read_name-clause-found
returns-in-Ok-read_name-clause-found c =
    let are = c.in-Ok.ensures.found in
    found_has said c.args.text.now (name_back c.args.text.now c.in-Ok.components are) are.fs c.in-Ok-read_name.ensures

pub returns-in-Ok-read_name-clause-only : goal.returns-in-Ok-read_name-clause-only
returns-in-Ok-read_name-clause-only c =
    let are = c.in-Ok.ensures.found in
    found_is said c.args.text.now (name_back c.args.text.now c.in-Ok.components are) are.fs c.in-Ok-read_name.ensures
