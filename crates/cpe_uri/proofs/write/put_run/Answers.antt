use Rattle.std.proofs.Common.{rules, ◌∙◌}
use Rattle.std.proofs.lemmas.Bool.{ne_eqb}
use Rattle.cpe_uri.proofs.Rewritten.{bare_at, put_prefix}
use Rattle.cpe_uri.proofs.write.put_run.Goals as goal

pub loop-rest-preserved : goal.loop-rest-preserved
loop-rest-preserved c = record {
  at = search rules;
  shorter = search rules;
  room = search rules;
  written = put_prefix _ _ _ _ _ c.put_bare-at.ensures.written (bare_at c.loop-rest.rest.now c.in-len1-up.len_at_least (ne_eqb _ 37 c.if-byte-eq37.false)) ∙ c.loop-rest.invariant.written;
}
