use Rattle.deprecation_graph.proofs.MirrorLemmas.{mirror_link, mirror_moved}
use Rattle.deprecation_graph.proofs.mirror.link.Goals as goal

pub returns-clause-mirror : goal.returns-clause-mirror
returns-clause-mirror c = mirror_moved _ _ _ _ c.push.ensures.lists c.push-2.ensures.lists (mirror_link c.args.next.now.lists c.args.before.now.lists c.args.from c.args.to c.requires.mirror c.requires.from c.requires.to)
