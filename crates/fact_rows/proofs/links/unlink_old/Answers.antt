use Rattle.std.proofs.Common.{◌∙◌}
use Rattle.fact_rows.specs.Facts.{facts_of_end, fact_name_id}
use Rattle.fact_rows.proofs.LinkLemmas.{gone_unless, same_again}
use Rattle.fact_rows.proofs.links.unlink_old.Goals as goal

pub loop-id-preserved : goal.loop-id-preserved
loop-id-preserved c =
    let ends = c.args.old_ends.now in
    let i = c.loop-id.id-index in
    let lt = c.loop-id-test.true in
    let first = facts_of_end c.args.facts.now.entries in
    let now = facts_of_end c.loop-id.facts.entries in
    let next = facts_of_end c.unlink_unless.new.facts.entries in
    record {
      others = same_again c.args.fact.0 first now next c.loop-id.invariant.others c.unlink_unless.ensures.others;
      kept = λ e at. c.unlink_unless.ensures.kept e at ∙ c.loop-id.invariant.kept e at;
      tight = λ h. c.unlink_unless.ensures.tight (c.loop-id.invariant.tight h);
      once = λ h. c.unlink_unless.ensures.once (c.loop-id.invariant.once h);
      gone = λ h. gone_unless ends i (fact_name_id 0) lt now next c.args.fact.0 c.args.ends.now (c.loop-id.invariant.gone h) c.unlink_unless.ensures.away (c.unlink_unless.ensures.gone (c.loop-id.invariant.once h));
    }
