use Rattle.fact_rows.specs.Facts.{facts_of_end, fact_name_id}
use Rattle.fact_rows.proofs.LinkLemmas.{elsewhere_all, elsewhere_next, same_again, under_next}
use Rattle.fact_rows.proofs.links.link.Goals as goal

pub loop-id-preserved : goal.loop-id-preserved
loop-id-preserved c =
    let ends = c.args.ends.now in
    let i = c.loop-id.id-index in
    let lt = c.loop-id-test.true in
    let first = facts_of_end c.args.facts.now.entries in
    let now = facts_of_end c.loop-id.facts.entries in
    let next = facts_of_end c.link_end.new.facts.entries in
    record {
      under = under_next ends i (fact_name_id 0) lt now next c.args.fact.0 c.loop-id.invariant.under c.in_ok-link_end.ensures.links c.in_ok-link_end.ensures.here;
      links = λ e q h. c.in_ok-link_end.ensures.links e q (c.loop-id.invariant.links e q h);
      others = same_again c.args.fact.0 first now next c.loop-id.invariant.others c.in_ok-link_end.ensures.others;
      elsewhere = elsewhere_next ends i (fact_name_id 0) lt now next first c.loop-id.invariant.elsewhere c.in_ok-link_end.ensures.elsewhere;
      tight = λ h. c.in_ok-link_end.ensures.tight (c.loop-id.invariant.tight h);
      once = λ h. c.in_ok-link_end.ensures.once (c.loop-id.invariant.once h);
    }

pub returns-in_err-link_end-clause-elsewhere : goal.returns-in_err-link_end-clause-elsewhere
returns-in_err-link_end-clause-elsewhere c =
    elsewhere_all c.args.ends.now c.loop-id.id-index (fact_name_id 0) c.loop-id-test.true (facts_of_end c.loop-id.facts.entries) (facts_of_end c.link_end.new.facts.entries) (facts_of_end c.args.facts.now.entries) c.loop-id.invariant.elsewhere c.in_err-link_end.ensures.elsewhere
