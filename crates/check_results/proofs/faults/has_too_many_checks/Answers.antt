use Rattle.std.proofs.Common.{◌≡◌, ◌+◌, length, nat_lt, true, false, cond, ap, sym, ◌∙◌}
use Rattle.std.specs.List.{list_any}
use Rattle.cpe_rows.specs.Rows.{has_key}
use Rattle.check_results.proofs.KeptLemmas.{length-with, at_limit}
use Rattle.check_results.proofs.faults.has_too_many_checks.Goals as goal

pub returns-then-has : goal.returns-then-has
returns-then-has c truth =
    let kept = length c.args.checks.now.list in
    let there : list_any (has_key c.args.key.now) c.args.checks.now.list ≡ true = sym c.has.ensures ∙ c.if-has.true in
    ap (nat_lt 100000) (c.len.ensures ∙ sym (length-with c.args.key.now truth c.args.checks.now.list
    ∙ ap (λ b. cond b kept (kept + 1)) there))

pub returns-else-has : goal.returns-else-has
returns-else-has c truth =
    let kept = length c.args.checks.now.list in
    let there : list_any (has_key c.args.key.now) c.args.checks.now.list ≡ false = sym c.has.ensures ∙ c.if-has.false in
    at_limit 100000 c.len-else-has.result ∙ (ap (λ n. nat_lt 100000 (n + 1)) c.len-else-has.ensures
    ∙ ap (nat_lt 100000) (sym (length-with c.args.key.now truth c.args.checks.now.list ∙ ap (λ b. cond b kept (kept + 1)) there)))
