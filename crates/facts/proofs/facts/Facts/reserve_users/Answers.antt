use Rattle.std.proofs.Common.{refl, sym, subst}
use Rattle.cpe_rows.specs.declared.statement.Mode.{Mode}
use Rattle.cpe_rows.specs.declared.statement.Mode.TheVariants.{Plain, Follow}
use Rattle.facts.specs.Facts.{FactsNow}
use Rattle.facts.specs.Room.{RoomForUsers}
use Rattle.facts.proofs.RoomLemmas.{only_follow, only_plain, reserved_facts}
use Rattle.facts.proofs.facts.Facts.reserve_users.Goals as goal

pub returns-in-Plain : goal.returns-in-Plain
returns-in-Plain c =
    let boards = c.self.inside.boards in
    let plain = c.self.inside.plain in
    let follow = c.self.inside.follow in
    let inside : FactsNow = record { boards = boards; plain = plain; follow = follow } in
    let next = c.reserve_users.new.facts in
    let new : FactsNow = record { boards = boards; plain = c.reserve_users.new.facts; follow = follow } in
    let ids = c.args.ids.now in
    let result = c.reserve_users.result in
    let reserved = c.reserve_users.ensures in
    let core : RoomForUsers inside new Plain ids result = record {
      facts = λ names rows tickets rows_before. record { plain = reserved_facts names boards.plain Plain rows tickets plain next reserved.same reserved.truths rows_before.plain; follow = rows_before.follow; settled = rows_before.settled; numbered = rows_before.numbered };
      table = reserved;
      only = only_plain inside new refl refl;
    } in
    subst (λ (f : FactsNow). RoomForUsers f new c.args.mode c.args.ids.now c.reserve_users.result) c.self.view_is (subst (λ (m : Mode). RoomForUsers inside new m c.args.ids.now c.reserve_users.result) (sym c.in-Plain.is) core)

pub returns-in-Follow : goal.returns-in-Follow
returns-in-Follow c =
    let boards = c.self.inside.boards in
    let plain = c.self.inside.plain in
    let follow = c.self.inside.follow in
    let inside : FactsNow = record { boards = boards; plain = plain; follow = follow } in
    let next = c.reserve_users-in-Follow.new.facts in
    let new : FactsNow = record { boards = boards; plain = plain; follow = c.reserve_users-in-Follow.new.facts } in
    let ids = c.args.ids.now in
    let result = c.reserve_users-in-Follow.result in
    let reserved = c.reserve_users-in-Follow.ensures in
    let core : RoomForUsers inside new Follow ids result = record {
      facts = λ names rows tickets rows_before. record { follow = reserved_facts names boards.follow Follow rows tickets follow next reserved.same reserved.truths rows_before.follow; plain = rows_before.plain; settled = rows_before.settled; numbered = rows_before.numbered };
      table = reserved;
      only = only_follow inside new refl refl;
    } in
    subst (λ (f : FactsNow). RoomForUsers f new c.args.mode c.args.ids.now c.reserve_users-in-Follow.result) c.self.view_is (subst (λ (m : Mode). RoomForUsers inside new m c.args.ids.now c.reserve_users-in-Follow.result) (sym c.in-Follow.is) core)
