use Rattle.std.proofs.Common.{sym, ◌∙◌, arith}
use Rattle.std.proofs.lemmas.Grind.{common_steps}
use Rattle.cpe_uri.proofs.EitherBinding.{written_fs, written_uri}
use Rattle.cpe_uri.proofs.unbind.write_unbound_any.Goals as goal

pub returns-then-begins_as_uri : goal.returns-then-begins_as_uri
returns-then-begins_as_uri c =
    written_uri c.args.text.now c.args.at _ _ c.args.room.now _ _ (sym c.begins_as_uri.ensures ∙ c.if-begins_as_uri.true) (grind (arith, common_steps)) c.write_unbound_uri.ensures

pub returns-else-begins_as_uri : goal.returns-else-begins_as_uri
returns-else-begins_as_uri c =
    written_fs c.args.text.now c.args.at _ _ c.args.room.now _ _ (sym c.begins_as_uri.ensures ∙ c.if-begins_as_uri.false) (grind (arith, common_steps)) c.write_unbound.ensures
