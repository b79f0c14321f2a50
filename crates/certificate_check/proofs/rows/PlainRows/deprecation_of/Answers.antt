use Rattle.std.proofs.Common.{Option, None, sym, ap, ◌∙◌}
use Rattle.std.specs.Option.{option_map_or}
use Rattle.cpe_rows.specs.Lent.{entry_lent}
use Rattle.cpe_rows.specs.Rows.{is_named}
use Rattle.cpe_rows.specs.declared.entry.Entry.{Entry}
use Rattle.cpe_rows.specs.declared.entry.Deprecation.{Deprecation}
use Rattle.certificate_check.proofs.Loops.{left_here, left_none, left_next}
use Rattle.certificate_check.proofs.rows.PlainRows.deprecation_of.Goals as goal

abbrev its_deprecation : Option Entry → Option Deprecation
its_deprecation o = option_map_or (λ (e : Entry). e.deprecation) o None

pub returns-then-is_same : goal.returns-then-is_same
returns-then-is_same g c =
    ap its_deprecation (sym (left_here (is_named c.args.name.now) (g.Self.PlainRows.rows c.args.self.now).entries c.loop-k.k
    (entry_lent c.in-Some.entry) c.loop-k.invariant (sym c.in-Some.ensures) (sym c.is_same.ensures ∙ c.if-is_same.true)))

pub returns-in-None : goal.returns-in-None
returns-in-None g c =
    ap its_deprecation (sym (left_none (is_named c.args.name.now) (g.Self.PlainRows.rows c.args.self.now).entries c.loop-k.k c.loop-k.invariant (sym c.in-None.ensures)))

pub loop-k-preserved : goal.loop-k-preserved
loop-k-preserved g c =
    left_next (is_named c.args.name.now) (g.Self.PlainRows.rows c.args.self.now).entries c.loop-k.k (entry_lent c.in-Some.entry)
    c.loop-k.invariant (sym c.in-Some.ensures) (sym c.is_same.ensures ∙ c.if-is_same.false)
