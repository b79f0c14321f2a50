use Rattle.deprecation_graph.proofs.MirrorLemmas.{mirror_unlink, mirror_other_side, mirror_moved}
use Rattle.std.proofs.Common.{refl}
use Rattle.deprecation_graph.proofs.mirror.unlink.Goals as goal

pub remove_at-moved-requires-clause-there : goal.remove_at-moved-requires-clause-there
remove_at-moved-requires-clause-there c = mirror_other_side c.args.next.now.lists c.args.before.now.lists c.args.from c.args.to c.requires.mirror c.requires.there

pub returns-clause-mirror : goal.returns-clause-mirror
returns-clause-mirror c = mirror_moved _ _ _ _ c.remove.ensures.lists refl (mirror_unlink c.args.next.now.lists c.args.before.now.lists _ c.args.from c.args.to c.requires.mirror c.requires.from c.requires.there c.remove_at-moved.ensures.lists)
