use Rattle.std.proofs.Common.{◌≡◌, ◌++◌, take}
use Rattle.std.specs.List.{flat_map}
use Rattle.cpe_rows.specs.Lent.{entry_lent}
use Rattle.line_replies.specs.Chains.{step_line}
use Rattle.line_replies.proofs.chain.push_steps.Given as goal

abbrev pub invariant-loop-link : goal.invariant-loop-link
invariant-loop-link l = l.page ≡ l.fn.page ++ flat_map (λ e. step_line (entry_lent e)) (take l.link-index l.links)
