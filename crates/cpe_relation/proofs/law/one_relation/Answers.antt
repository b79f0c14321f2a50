use Rattle.std.proofs.Common.{sym, subst}
use Rattle.cpe_relation.specs.declared.relation.Relation.{Relation}
use Rattle.cpe_relation.specs.Related.{Related}
use Rattle.cpe_relation.proofs.Splits.{matches-Decides}
use Rattle.cpe_relation.proofs.Tables.{relation_related, related_relation}
use Rattle.cpe_relation.proofs.law.one_relation.Goals as goal

pub returns-clause-split : goal.returns-clause-split
returns-clause-split c p t = matches-Decides p t

pub returns-clause-table : goal.returns-clause-table
returns-clause-table c a b r = (λ h. related_relation a b r h, λ e. subst (λ (x : Relation). Related a b x) (sym e) (relation_related a b))
