use Rattle.cpe_name.proofs.AnyTail.{put_both}
use Rattle.cpe_fs.proofs.bound.put_string.Goals as goal

pub returns-clause-written : goal.returns-clause-written
returns-clause-written c =
    let two = put_both _ _ _ _ _ c.put_keyed-at.ensures.written c.put_keyed-at-2.ensures.written in
    let three = put_both _ _ _ _ _ two c.put_keyed-at-3.ensures.written in
    let four = put_both _ _ _ _ _ three c.put_keyed-at-4.ensures.written in
    let five = put_both _ _ _ _ _ four c.put_keyed-at-5.ensures.written in
    let six = put_both _ _ _ _ _ five c.put_keyed-at-6.ensures.written in
    let seven = put_both _ _ _ _ _ six c.put_keyed-at-7.ensures.written in
    let eight = put_both _ _ _ _ _ seven c.put_keyed-at-8.ensures.written in
    let nine = put_both _ _ _ _ _ eight c.put_keyed-at-9.ensures.written in
    let ten = put_both _ _ _ _ _ nine c.put_keyed-at-10.ensures.written in
    put_both _ _ _ _ _ ten c.put_keyed.ensures.written
