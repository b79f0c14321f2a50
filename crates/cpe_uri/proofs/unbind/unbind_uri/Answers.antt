use Rattle.std.proofs.Common.{sym, subst}
use Rattle.cpe_name.specs.Names.{IsName}
use Rattle.cpe_name.proofs.Unbinding.{found_has, found_is}
use Rattle.cpe_uri.proofs.Said.{said}
use Rattle.cpe_uri.proofs.ValueLemmas.{name_back, spans_are}
use Rattle.cpe_uri.proofs.unbind.unbind_uri.Goals as goal

pub name_at-requires : goal.name_at-requires
name_at-requires c =
    let are = c.in-Ok.ensures.found in
    record { are_present = spans_are c.args.text.now c.in-Ok.spans are; lawful = subst IsName (sym (name_back c.args.text.now c.in-Ok.spans are)) are.uri.name }

pub returns-clause-found : goal.returns-clause-found
returns-clause-found c =
    let are = c.in-Ok.ensures.found in
    found_has said c.args.text.now (name_back c.args.text.now c.in-Ok.spans are) are.uri c.in_ok-name_at.ensures

pub returns-clause-only : goal.returns-clause-only
returns-clause-only c =
    let are = c.in-Ok.ensures.found in
    found_is said c.args.text.now (name_back c.args.text.now c.in-Ok.spans are) are.uri c.in_ok-name_at.ensures
