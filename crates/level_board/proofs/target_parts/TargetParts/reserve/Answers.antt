use Rattle.std.proofs.Common.{refl, arith, ap, length}
use Rattle.level_board.specs.declared.target_parts.TargetParts.{TargetParts}
use Rattle.level_board.proofs.TargetChanges.{same_parts}
use Rattle.level_board.proofs.target_parts.TargetParts.reserve.Goals as goal

pub returns-in_err-reserve-clause-parts : goal.returns-in_err-reserve-clause-parts
returns-in_err-reserve-clause-parts c =
    let b : TargetParts = record { plain = c.args.self.now.plain; loose = c.reserve.new.self; opens = c.args.self.now.opens; room = c.args.self.now.room } in
    same_parts c.args.self.now b c.requires.parts refl c.reserve.ensures.items c.requires.parts.plain_room (omega (arith, c.requires.parts.loose_room, ap length c.reserve.ensures.items, c.reserve.ensures.capacity))

pub returns-in_err-reserve-2-clause-parts : goal.returns-in_err-reserve-2-clause-parts
returns-in_err-reserve-2-clause-parts c =
    let b : TargetParts = record { plain = c.reserve-2.new.self; loose = c.reserve.new.self; opens = c.args.self.now.opens; room = c.args.self.now.room } in
    same_parts c.args.self.now b c.requires.parts c.reserve-2.ensures.held c.reserve.ensures.items (omega (arith, c.requires.parts.plain_room, c.reserve-2.ensures.kept)) (omega (arith, c.requires.parts.loose_room, ap length c.reserve.ensures.items, c.reserve.ensures.capacity))

pub returns-clause-parts : goal.returns-clause-parts
returns-clause-parts c =
    let b : TargetParts = record { plain = c.reserve-2.new.self; loose = c.reserve.new.self; opens = c.args.self.now.opens; room = c.at_least-room.result } in
    same_parts c.args.self.now b c.requires.parts c.reserve-2.ensures.held c.reserve.ensures.items
    (c.at_least-room.ensures.either c.reserve-2.new.self.spare (omega (arith, c.requires.parts.plain_room, c.reserve-2.ensures.kept)) c.in_ok-reserve-2.ensures.spare)
    (omega (arith, c.in_ok-reserve.ensures.ok))
