use Rattle.std.proofs.lemmas.Result.{on_ok_weaker}
use Rattle.names_in_order.proofs.RoomLemmas.{live_product}
use Rattle.names_in_order.proofs.added.reserve_number.Goals as goal

pub returns-clause-ok : goal.returns-clause-ok
returns-clause-ok g c =
    on_ok_weaker c.reserve-2.result
    (λ may. record {
      index = c.in_ok-reserve.ensures.spare;
      list = may.spare;
      reach = may.reach;
      wide = live_product c.args.table.now c.args.id.0 c.reserve.new.self.wide c.requires.live c.in_ok-reserve.ensures.wide;
    })
    c.reserve-2.ensures.ok
