use Rattle.std.proofs.Common.{◌+◌, ◌≤◌, arith}
use Rattle.deprecation_graph.specs.Indexed.{size_of}
use Rattle.deprecation_graph.proofs.StoredLemmas.{size_nodes, kept_size}
use Rattle.deprecation_graph.proofs.changes.reserve_kept.Goals as goal

pub reserve-requires-2 : goal.reserve-requires-2
reserve-requires-2 c = let h : size_of c.args.kept.now.next.lists + (c.args.nodes + c.args.edges) ≤ 4294967295 = omega (arith, size_nodes c.args.kept.now.active.items c.args.kept.now.next.lists c.requires.sound.next, c.requires.few_nodes, c.requires.few_edges) in h

pub reserve-requires-3 : goal.reserve-requires-3
reserve-requires-3 c = let h : size_of c.args.kept.now.before.lists + (c.args.nodes + c.args.edges) ≤ 4294967295 = omega (arith, kept_size c.args.kept.now c.requires.sound, size_nodes c.args.kept.now.active.items c.args.kept.now.next.lists c.requires.sound.next, c.requires.few_nodes, c.requires.few_edges) in h
