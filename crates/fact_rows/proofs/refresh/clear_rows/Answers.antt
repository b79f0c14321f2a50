use Rattle.std.proofs.Common.{get_or, refl, arith}
use Rattle.fact_rows.specs.Facts.{fact_name_id}
use Rattle.fact_rows.proofs.ChangeLemmas.{facts_next, marks_first, marks_next}
use Rattle.fact_rows.proofs.refresh.clear_rows.Goals as goal

pub loop-fact-init : goal.loop-fact-init
loop-fact-init c = record { facts = λ q. refl; marks = λ q. marks_first c.args.rows.now.entries q; many = omega arith }

pub loop-fact-preserved : goal.loop-fact-preserved
loop-fact-preserved c =
    let facts = c.args.facts.now in
    let i = c.loop-fact.fact-index in
    let first = c.args.rows.now.entries in
    let now = c.loop-fact.rows.entries in
    let next = c.clear_row.new.rows.entries in
    let e = c.clear_row.ensures in
    record {
      facts = facts_next first now next (get_or facts i (fact_name_id 0)).0 e.here e.others c.loop-fact.invariant.facts;
      marks = marks_next first now next facts i (fact_name_id 0) c.loop-fact-test.true e.unchanged e.others c.loop-fact.invariant.marks;
      many = omega (arith, e.many, c.loop-fact.invariant.many);
    }
