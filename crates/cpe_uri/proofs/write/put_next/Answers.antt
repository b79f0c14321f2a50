use Rattle.std.proofs.lemmas.Bool.{ne_eqb}
use Rattle.cpe_uri.proofs.Rewritten.{bare_rewritten, put_prefix}
use Rattle.cpe_uri.proofs.write.put_next.Goals as goal

pub returns-clause-written : goal.returns-clause-written
returns-clause-written c = put_prefix _ _ _ _ _ c.put_bare.ensures.written (bare_rewritten c.args.byte c.args.behind.now (ne_eqb c.args.byte 37 c.if-byte-eq37.false))
