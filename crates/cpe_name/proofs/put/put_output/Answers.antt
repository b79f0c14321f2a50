use Rattle.std.proofs.Common.{ℕ, List, ◌++◌, take, ap, ◌∙◌}
use Rattle.cpe_name.proofs.AnyTail.{put_both, start_and_tail}
use Rattle.cpe_name.proofs.put.put_output.Goals as goal

pub returns-clause-written : goal.returns-clause-written
returns-clause-written g c =
    let two = put_both _ _ _ _ _ c.put_keyed-at.ensures.written c.put_keyed-at-2.ensures.written in
    let three = put_both _ _ _ _ _ two c.put_keyed-at-3.ensures.written in
    let four = put_both _ _ _ _ _ three c.put_keyed-at-4.ensures.written in
    put_both _ _ _ _ _ four c.put_tail.ensures.written ∙ ap (λ (u : List ℕ). take c.args.at c.args.room.now ++ u) (start_and_tail g.P.PutValue.text c.args.written.now)
