use Rattle.std.proofs.Common.{◌≤◌, ℕ, List, length, sym, subst, ◌∙◌}
use Rattle.cpe_values.specs.declared.spelling.Style.TheVariants as style
use Rattle.cpe_values.specs.Spelling.{is_bare}
use Rattle.cpe_values.proofs.SkippingLemmas.{length-skip_while}
use Rattle.cpe_values.proofs.Unspelled.{body_lent}
use Rattle.cpe_values.proofs.unspell.lend_body.Goals as goal

pub slice_bounds-result-count : goal.slice_bounds-result-count
slice_bounds-result-count c = subst (λ (z : List ℕ). length z ≤ length c.args.bytes.now) (sym c.skip_bare-behind.ensures) (length-skip_while (is_bare style.Formatted) c.args.bytes.now)

pub returns-clause-body : goal.returns-clause-body
returns-clause-body c = (body_lent style.Formatted c.args.bytes.now c.skip_bare-behind.result.now c.skip_bare-behind.ensures (sym c.ends_body.ensures ∙ c.if-not-ends_body.false)).0

pub returns-clause-rest : goal.returns-clause-rest
returns-clause-rest c = (body_lent style.Formatted c.args.bytes.now c.skip_bare-behind.result.now c.skip_bare-behind.ensures (sym c.ends_body.ensures ∙ c.if-not-ends_body.false)).1
