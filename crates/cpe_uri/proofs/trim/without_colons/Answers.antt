use Rattle.std.proofs.Common.{sym, ◌∙◌, arith}
use Rattle.cpe_uri.proofs.Trims.{trimmed_one, trimmed_stays}
use Rattle.cpe_uri.proofs.trim.without_colons.Goals as goal

pub loop-end-preserved : goal.loop-end-preserved
loop-end-preserved c = record {
  within = omega arith;
  trimmed = trimmed_one c.args.text.now c.loop-end.end (omega arith) (sym c.loop-end-test.ensures) ∙ c.loop-end.invariant.trimmed;
}

pub returns-clause-trimmed : goal.returns-clause-trimmed
returns-clause-trimmed c = sym (trimmed_stays _ (sym c.loop-end-test.ensures)) ∙ c.loop-end.invariant.trimmed
