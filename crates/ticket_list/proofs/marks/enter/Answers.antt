use Rattle.std.proofs.Common.{ℕ, List, ap, ◌∙◌}
use Rattle.std.specs.Prelude.{nat_lt}
use Rattle.ticket_list.specs.Rising.{prefix}
use Rattle.ticket_list.proofs.RisingLemmas.{put_at}
use Rattle.ticket_list.proofs.marks.enter.Goals as goal

pub returns : goal.returns
returns c =
    let t = c.args.slot in
    let xs : List ℕ = c.args.marks.now.items in
    let at = c.count_before-place.ensures.count ∙ ap (prefix (λ x. nat_lt x t)) c.deref.ensures.value in
    c.in-Ok.ensures.items ∙ put_at t c.count_before-place.result xs at
