use Rattle.std.proofs.Common.{ℕ, List, ◌++◌, take, sym, ap, ◌∙◌}
use Rattle.cpe_name.proofs.AnyTail.{put_both}
use Rattle.cpe_name.proofs.put.put_tail.Goals as goal

pub returns-then-is_any_tail-clause-written : goal.returns-then-is_any_tail-clause-written
returns-then-is_any_tail-clause-written g c =
    c.put.ensures.written ∙ ap (λ (u : List ℕ). take c.args.at c.args.room.now ++ u) (sym (c.is_any_tail.ensures.any c.if-is_any_tail.true))

pub returns-clause-written : goal.returns-clause-written
returns-clause-written g c =
    let two = put_both _ _ _ _ _ c.put_keyed-at.ensures.written c.put_keyed-at-2.ensures.written in
    let three = put_both _ _ _ _ _ two c.put_keyed-at-3.ensures.written in
    let four = put_both _ _ _ _ _ three c.put_keyed-at-4.ensures.written in
    let five = put_both _ _ _ _ _ four c.put_keyed-at-5.ensures.written in
    let six = put_both _ _ _ _ _ five c.put_keyed-at-6.ensures.written in
    let seven = put_both _ _ _ _ _ six c.put_keyed-at-7.ensures.written in
    put_both _ _ _ _ _ seven c.put_byte.ensures.written
