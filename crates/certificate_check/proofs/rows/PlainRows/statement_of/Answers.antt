use Rattle.std.proofs.Common.{sym, ◌∙◌}
use Rattle.cpe_rows.specs.Rows.{has_id}
use Rattle.certificate_check.proofs.Loops.{left_here, left_none, left_next}
use Rattle.certificate_check.proofs.rows.PlainRows.statement_of.Goals as goal

pub returns-then-eq : goal.returns-then-eq
returns-then-eq g c =
    sym (left_here (has_id c.args.id.now) (g.Self.PlainRows.rows c.args.self.now).statements c.loop-k.k c.in-Some.statement.now
    c.loop-k.invariant (sym c.in-Some.ensures) (sym c.eq.ensures.value ∙ c.if-eq.true))

pub returns-in-None : goal.returns-in-None
returns-in-None g c =
    sym (left_none (has_id c.args.id.now) (g.Self.PlainRows.rows c.args.self.now).statements c.loop-k.k c.loop-k.invariant (sym c.in-None.ensures))

pub loop-k-preserved : goal.loop-k-preserved
loop-k-preserved g c =
    left_next (has_id c.args.id.now) (g.Self.PlainRows.rows c.args.self.now).statements c.loop-k.k c.in-Some.statement.now
    c.loop-k.invariant (sym c.in-Some.ensures) (sym c.eq.ensures.value ∙ c.if-eq.false)
