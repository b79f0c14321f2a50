use Rattle.std.proofs.Common.{sym, ◌∙◌}
use Rattle.cpe_rows.specs.Rows.{is_named}
use Rattle.engine_snapshot.proofs.WriteLemmas.{has_place}
use Rattle.engine_snapshot.proofs.write.place_of.Goals as goal

pub unreachable-requires : goal.unreachable-requires
unreachable-requires c = has_place (is_named c.args.put.now) c.args.engine.now.entries c.requires (sym c.place_of.ensures ∙ c.in-None.is)
