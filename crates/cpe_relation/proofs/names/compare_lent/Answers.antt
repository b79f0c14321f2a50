use Rattle.std.proofs.Common.{ap, ◌∙◌}
use Rattle.cpe_name.specs.Borrowed.{name_lent}
use Rattle.cpe_relation.specs.NameRelation.{Relations, relation_of}
use Rattle.cpe_relation.proofs.NameLaws.{each_is}
use Rattle.cpe_relation.proofs.names.compare_lent.Goals as goal

pub returns-clause-each : goal.returns-clause-each
returns-clause-each c w = ap (λ (r : Relations). relation_of r w) c.each_relation-relations.ensures ∙ each_is (name_lent c.args.source.now) (name_lent c.args.target.now) w
