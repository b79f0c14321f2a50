use Rattle.cpe_relation.proofs.ValueLaws.{own_body, undefined_special, special_undefined}
use Rattle.cpe_relation.proofs.NameLaws.{relations_lower, plain_self, name_back}
use Rattle.cpe_relation.proofs.law.relation_laws.Goals as goal

pub returns : goal.returns
returns c = record {
  lower = relations_lower;
  undefined = λ a b. (undefined_special a b, special_undefined a b);
  equal = plain_self;
  converse = name_back;
  body = own_body;
}
