use Rattle.std.proofs.Common.{ap, ◌∙◌}
use Rattle.cpe_name.specs.Names.{attributes}
use Rattle.cpe_relation.specs.declared.seen.Seen.{Seen}
use Rattle.cpe_relation.specs.NameRelation.{relation_of}
use Rattle.cpe_relation.specs.Attributes.{relation_seen}
use Rattle.cpe_relation.proofs.SeenLemmas.{seen_relation}
use Rattle.cpe_relation.proofs.relation.relation_of_names.Goals as goal

pub returns : goal.returns
returns c = c.relation.ensures ∙ ap (λ (s : Seen). relation_seen s) c.seen_of.ensures ∙ seen_relation (relation_of c.args.relations.now) attributes
