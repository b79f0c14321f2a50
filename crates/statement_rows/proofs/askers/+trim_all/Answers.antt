use Rattle.std.proofs.Common.{List, ap, ◌∙◌}
use Rattle.cpe_rows.specs.declared.test.CheckKey.{CheckKey}
use Rattle.statement_rows.specs.Askers.{asker_list_at, trim_list_if}
use Rattle.statement_rows.specs.Readings.{is_asked}
use Rattle.statement_rows.proofs.AskerLemmas.{all_keys, trimmed_twice, with_child}
use Rattle.statement_rows.proofs.askers.+trim_all.Goals as goal

pub loop-child-preserved : goal.loop-child-preserved
loop-child-preserved t c q =
    with_child trim_list_if trimmed_twice c.as_slice-child-items.result.now c.loop-child.child-index c.child-item.result c.loop-child-test.true c.child-item.is q
    (asker_list_at c.args.askers.now.entries q) (asker_list_at c.loop-child.askers.entries q) (asker_list_at c.trim_all.new.askers.entries q) (c.loop-child.invariant q) (c.trim_all.ensures q)

pub returns-after-loop-child : goal.returns-after-loop-child
returns-after-loop-child t c q =
    c.loop-child.invariant q
    ∙ ap (λ (ks : List CheckKey). trim_list_if (is_asked ks q) (asker_list_at c.args.askers.now.entries q))
    (all_keys c.in-Logic.operator c.in-Logic.negate c.in-Logic.of c.as_slice-child-items.result.now c.loop-child.child-index c.args.test.now c.as_slice-child-items.ensures c.loop-child-test.false c.in-Logic.is)
