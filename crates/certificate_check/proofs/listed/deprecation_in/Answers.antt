use Rattle.std.proofs.Common.{Option, None, map, sym, ap, ◌∙◌}
use Rattle.std.specs.Option.{option_map_or}
use Rattle.cpe_rows.specs.Lent.{entry_lent}
use Rattle.cpe_rows.specs.Rows.{is_named}
use Rattle.cpe_rows.specs.declared.entry.Entry.{Entry}
use Rattle.cpe_rows.specs.declared.entry.Deprecation.{Deprecation}
use Rattle.certificate_check.proofs.Loops.{left_here, left_none, left_next, shown_at, shown_past}
use Rattle.certificate_check.proofs.listed.deprecation_in.Goals as goal

its_deprecation : Option Entry → Option Deprecation
its_deprecation o = option_map_or (λ (e : Entry). e.deprecation) o None

pub returns-then-is_same : goal.returns-then-is_same
unfolding its_deprecation
returns-then-is_same c =
    ap its_deprecation (sym (left_here (is_named c.args.name.now) (map entry_lent c.args.entries.now) c.loop-entry.entry-index (entry_lent c.entry-item.result)
    c.loop-entry.invariant (shown_at entry_lent c.args.entries.now c.loop-entry.entry-index c.entry-item.result c.loop-entry-test.true c.entry-item.is)
    (sym c.is_same.ensures ∙ c.if-is_same.true)))

pub loop-entry-preserved : goal.loop-entry-preserved
loop-entry-preserved c =
    left_next (is_named c.args.name.now) (map entry_lent c.args.entries.now) c.loop-entry.entry-index (entry_lent c.entry-item.result)
    c.loop-entry.invariant (shown_at entry_lent c.args.entries.now c.loop-entry.entry-index c.entry-item.result c.loop-entry-test.true c.entry-item.is)
    (sym c.is_same.ensures ∙ c.if-is_same.false)

pub returns : goal.returns
unfolding its_deprecation
returns c =
    ap its_deprecation (sym (left_none (is_named c.args.name.now) (map entry_lent c.args.entries.now) c.loop-entry.entry-index c.loop-entry.invariant
    (shown_past entry_lent c.args.entries.now c.loop-entry.entry-index c.loop-entry-test.false)))
