use Rattle.fact_rows.specs.Facts.{facts_of_end, fact_name_id}
use Rattle.fact_rows.proofs.LinkLemmas.{elsewhere_next, gone_next, same_again}
use Rattle.fact_rows.proofs.links.unlink.Goals as goal

pub loop-id-preserved : goal.loop-id-preserved
loop-id-preserved c =
    let ends = c.args.ends.now in
    let i = c.loop-id.id-index in
    let lt = c.loop-id-test.true in
    let first = facts_of_end c.args.facts.now.entries in
    let now = facts_of_end c.loop-id.facts.entries in
    let next = facts_of_end c.unlink_end.new.facts.entries in
    record {
      others = same_again c.args.fact.0 first now next c.loop-id.invariant.others c.unlink_end.ensures.others;
      elsewhere = elsewhere_next ends i (fact_name_id 0) lt now next first c.loop-id.invariant.elsewhere c.unlink_end.ensures.elsewhere;
      tight = λ h. c.unlink_end.ensures.tight (c.loop-id.invariant.tight h);
      once = λ h. c.unlink_end.ensures.once (c.loop-id.invariant.once h);
      gone = λ h. gone_next ends i (fact_name_id 0) lt now next c.args.fact.0 (c.loop-id.invariant.gone h) c.unlink_end.ensures.away (c.unlink_end.ensures.gone (c.loop-id.invariant.once h));
    }
