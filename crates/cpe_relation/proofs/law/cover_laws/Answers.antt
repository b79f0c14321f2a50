use Rattle.cpe_relation.proofs.NameLaws.{covers_relation, relation_covers, covers_through, covers_one, covers_near}
use Rattle.cpe_relation.proofs.law.cover_laws.Goals as goal

pub returns : goal.returns
returns c = record { relation = λ a b. (covers_relation a b, relation_covers a b); transitive = covers_through; «mutual» = covers_one; near = covers_near }
