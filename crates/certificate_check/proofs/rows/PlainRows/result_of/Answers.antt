use Rattle.std.proofs.Common.{Option, sym, ap, ◌∙◌}
use Rattle.std.specs.Option.{option_map_or}
use Rattle.cpe_rows.specs.Rows.{has_key}
use Rattle.cpe_rows.specs.declared.test.CheckKey.{CheckKey}
use Rattle.cpe_rows.specs.declared.truth.Truth.{Truth}
use Rattle.cpe_rows.specs.declared.truth.Truth.TheVariants.{Unknown}
use Rattle.certificate_check.proofs.Loops.{left_here, left_none, left_next}
use Rattle.certificate_check.proofs.rows.PlainRows.result_of.Goals as goal

abbrev result_of : Option (CheckKey × Truth) → Truth
result_of o = option_map_or (λ (c : CheckKey × Truth). c.1) o Unknown

pub returns-then-is_key : goal.returns-then-is_key
returns-then-is_key g c =
    ap result_of (sym (left_here (has_key c.args.key.now) (g.Self.PlainRows.rows c.args.self.now).checks c.loop-k.k (c.in-Some.kept.now, c.in-Some.truth)
    c.loop-k.invariant (sym c.in-Some.ensures) (sym c.is_key.ensures ∙ c.if-is_key.true)))

pub returns-in-None : goal.returns-in-None
returns-in-None g c =
    ap result_of (sym (left_none (has_key c.args.key.now) (g.Self.PlainRows.rows c.args.self.now).checks c.loop-k.k c.loop-k.invariant (sym c.in-None.ensures)))

pub loop-k-preserved : goal.loop-k-preserved
loop-k-preserved g c =
    left_next (has_key c.args.key.now) (g.Self.PlainRows.rows c.args.self.now).checks c.loop-k.k (c.in-Some.kept.now, c.in-Some.truth)
    c.loop-k.invariant (sym c.in-Some.ensures) (sym c.is_key.ensures ∙ c.if-is_key.false)
