use Rattle.std.proofs.Common.{sym, ◌∙◌}
use Rattle.cpe_rows.specs.Names.{is_same}
use Rattle.certificate_check.proofs.Loops.{any_here, any_none, any_next}
use Rattle.certificate_check.proofs.rows.PlainRows.has_item.Goals as goal

pub returns-then-is_same : goal.returns-then-is_same
returns-then-is_same g c =
    sym (any_here (is_same c.args.name.now) (g.Self.PlainRows.rows c.args.self.now).items c.loop-k.k c.in-Some.item.now c.loop-k.invariant
    (sym c.in-Some.ensures) (sym c.is_same.ensures ∙ c.if-is_same.true))

pub returns-in-None : goal.returns-in-None
returns-in-None g c =
    sym (any_none (is_same c.args.name.now) (g.Self.PlainRows.rows c.args.self.now).items c.loop-k.k c.loop-k.invariant (sym c.in-None.ensures))

pub loop-k-preserved : goal.loop-k-preserved
loop-k-preserved g c =
    any_next (is_same c.args.name.now) (g.Self.PlainRows.rows c.args.self.now).items c.loop-k.k c.in-Some.item.now c.loop-k.invariant
    (sym c.in-Some.ensures) (sym c.is_same.ensures ∙ c.if-is_same.false)
