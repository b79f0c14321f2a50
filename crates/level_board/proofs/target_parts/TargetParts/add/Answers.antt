use Rattle.std.proofs.Common.{◌+◌, ◌-◌, ℕ, Bool, cond, refl, sym, ap, ◌∙◌, arith}
use Rattle.name_index.specs.Table.{kept_at}
use Rattle.level_board.specs.declared.target_parts.TargetParts.{TargetParts}
use Rattle.level_board.specs.Targets.{held}
use Rattle.level_board.specs.TargetParts.{targets_of}
use Rattle.level_board.proofs.TargetChanges.{loose_added, plain_added, pushed, once_more}
use Rattle.level_board.proofs.target_parts.TargetParts.add.Goals as goal

pub returns-then-is_loose : goal.returns-then-is_loose
returns-then-is_loose c =
    let a = c.args.self.now in
    let b : TargetParts = record { plain = a.plain; loose = c.push_reserved.new.self; opens = c.one_more-self.result; room = a.room - 1 } in
    let x : ℕ × ℕ = (c.args.id.0, (kept_at c.args.table.now c.args.id.0).product) in
    let both = loose_added c.args.table.now c.args.id.0 (targets_of a) (targets_of b) c.requires.fits c.requires.live (sym c.is_loose.ensures ∙ c.if-is_loose.true) refl
    (pushed c.args.id.0 c.product-product.result.0 (kept_at c.args.table.now c.args.id.0).product a.loose.items c.push_reserved.new.self.items c.product-product.ensures c.push_reserved.ensures.items) (c.one_more-self.ensures ∙ ap {B = ℕ} (λ (o : Bool). a.opens + cond o 1 0) c.is_open.ensures) in
    record {
      parts = record {
        once = once_more x (held (targets_of a)) (held (targets_of b)) both.0 c.requires.fresh c.requires.parts.once;
        plain_room = omega (arith, c.requires.parts.plain_room);
        loose_room = omega (arith, c.requires.parts.loose_room, c.requires.room, c.push_reserved.ensures.len, c.push_reserved.ensures.capacity);
      };
      added = both.0;
      fits = both.1;
      room = omega (arith, c.requires.room);
      wide = refl;
    }

pub returns : goal.returns
returns c =
    let a = c.args.self.now in
    let b : TargetParts = record { plain = c.add.new.self; loose = a.loose; opens = c.one_more-self.result; room = a.room - 1 } in
    let x : ℕ × ℕ = (c.args.id.0, (kept_at c.args.table.now c.args.id.0).product) in
    let both = plain_added c.args.table.now c.args.id.0 (targets_of a) (targets_of b) c.requires.fits c.requires.live (sym c.is_loose.ensures ∙ c.if-is_loose.false) refl c.add.ensures.added (c.one_more-self.ensures ∙ ap {B = ℕ} (λ (o : Bool). a.opens + cond o 1 0) c.is_open.ensures) in
    record {
      parts = record {
        once = once_more x (held (targets_of a)) (held (targets_of b)) both.0 c.requires.fresh c.requires.parts.once;
        plain_room = omega (arith, c.requires.parts.plain_room, c.requires.room, c.add.ensures.spare);
        loose_room = omega (arith, c.requires.parts.loose_room);
      };
      added = both.0;
      fits = both.1;
      room = omega (arith, c.requires.room);
      wide = c.add.ensures.wide;
    }
