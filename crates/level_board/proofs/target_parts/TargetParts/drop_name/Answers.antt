use Rattle.std.proofs.Common.{◌-◌, ℕ, ◌∷◌, Bool, cond, refl, sym, ap, subst, ◌∙◌, arith}
use Rattle.name_index.specs.Elements.{SameElements}
use Rattle.name_index.specs.Table.{kept_at}
use Rattle.level_board.specs.declared.target_parts.TargetParts.{TargetParts}
use Rattle.level_board.specs.Targets.{held}
use Rattle.level_board.specs.TargetParts.{pairs_of, targets_of}
use Rattle.level_board.proofs.TargetChanges.{loose_dropped, plain_dropped, not_loose, not_plain, held_apart, held_there, its_product, once_less}
use Rattle.level_board.proofs.target_parts.TargetParts.drop_name.Goals as goal

pub take_out-requires : goal.take_out-requires
take_out-requires c = omega (arith, c.requires.held, held_apart c.args.self.now.plain.held (pairs_of c.args.self.now.loose.items) c.args.id.0, not_plain c.args.table.now c.args.id.0 c.args.self.now.plain.held (sym c.is_loose.ensures ∙ c.if-is_loose.true) c.requires.fits.none_loose)

pub returns-then-is_loose : goal.returns-then-is_loose
returns-then-is_loose c =
    let a = c.args.self.now in
    let b : TargetParts = record { plain = a.plain; loose = c.take_out.new.loose; opens = c.one_less-self.result; room = a.room } in
    let x : ℕ × ℕ = (c.args.id.0, (kept_at c.args.table.now c.args.id.0).product) in
    let taken = c.take_out.ensures.taken in
    let both = loose_dropped c.args.table.now c.args.id.0 (targets_of a) (targets_of b) c.requires.fits refl
    (subst (λ (y : ℕ × ℕ). SameElements (pairs_of a.loose.items) (y ∷ pairs_of c.take_out.new.loose.items)) (its_product c.args.table.now c.args.id.0 (pairs_of a.loose.items) taken.0 c.requires.fits.loose taken.1) taken.2) (c.one_less-self.ensures ∙ ap {B = ℕ} (λ (o : Bool). a.opens - cond o 1 0) c.is_open.ensures) in
    record {
      parts = record {
        once = once_less x (held (targets_of a)) (held (targets_of b)) both.0 c.requires.parts.once;
        plain_room = c.requires.parts.plain_room;
        loose_room = omega (arith, c.requires.parts.loose_room, c.take_out.ensures.length, c.take_out.ensures.capacity);
      };
      dropped = both.0;
      fits = both.1;
      room = refl;
      wide = refl;
    }

pub drop_name-requires-clause-held : goal.drop_name-requires-clause-held
drop_name-requires-clause-held c = held_there c.args.table.now c.args.id.0 c.args.self.now.plain.held c.requires.fits.plain (omega (arith, c.requires.held, held_apart c.args.self.now.plain.held (pairs_of c.args.self.now.loose.items) c.args.id.0, not_loose c.args.table.now c.args.id.0 (pairs_of c.args.self.now.loose.items) (sym c.is_loose.ensures ∙ c.if-is_loose.false) c.requires.fits.all_loose))

pub returns : goal.returns
returns c =
    let a = c.args.self.now in
    let b : TargetParts = record { plain = c.drop_name.new.self; loose = a.loose; opens = c.one_less-self.result; room = a.room } in
    let x : ℕ × ℕ = (c.args.id.0, (kept_at c.args.table.now c.args.id.0).product) in
    let both = plain_dropped c.args.table.now c.args.id.0 (targets_of a) (targets_of b) c.requires.fits refl c.drop_name.ensures.dropped (c.one_less-self.ensures ∙ ap {B = ℕ} (λ (o : Bool). a.opens - cond o 1 0) c.is_open.ensures) in
    record {
      parts = record {
        once = once_less x (held (targets_of a)) (held (targets_of b)) both.0 c.requires.parts.once;
        plain_room = omega (arith, c.requires.parts.plain_room, c.drop_name.ensures.spare);
        loose_room = c.requires.parts.loose_room;
      };
      dropped = both.0;
      fits = both.1;
      room = refl;
      wide = c.drop_name.ensures.wide;
    }
