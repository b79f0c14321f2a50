use Rattle.std.proofs.Common.{All, subst, take_all}
use Rattle.std.proofs.lemmas.List.Elements.{All-more}
use Rattle.cpe_rows.specs.cpe_name.Names.{IsName}
use Rattle.certificate_records.proofs.formed.are_names.Goals as goal

pub loop-name-preserved : goal.loop-name-preserved
loop-name-preserved c = All-more IsName c.args.names.now c.loop-name.name-index c.name-item.result c.loop-name-test.true c.loop-name.invariant (subst IsName c.name-item.is c.lawful.ensures)

pub returns : goal.returns
returns c = subst (λ ns. All IsName ns) (take_all c.loop-name.name-index c.args.names.now c.loop-name-test.false) c.loop-name.invariant
