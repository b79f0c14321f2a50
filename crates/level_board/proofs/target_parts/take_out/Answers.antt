use Rattle.std.proofs.Common.{◌≡◌, Some, None, sym, ap, ◌∙◌, arith}
use Rattle.std.specs.Prelude.{nat_eq}
use Rattle.std.specs.List.{position}
use Rattle.level_board.specs.declared.target_parts.Loose.{Loose}
use Rattle.level_board.proofs.TargetChanges.{nowhere, taken_out}
use Rattle.level_board.proofs.target_parts.take_out.Goals as goal

pub unreachable-requires : goal.unreachable-requires
unreachable-requires c =
    let at : position (λ (l : Loose). nat_eq c.args.id l.id) c.args.loose.now.items ≡ None = ap (position (λ (l : Loose). nat_eq c.args.id l.id)) (sym c.deref.ensures.value) ∙ sym c.place_of.ensures ∙ c.in-None.is in
    omega (arith, c.requires, nowhere c.args.id c.args.loose.now.items at)

pub returns-clause-taken : goal.returns-clause-taken
returns-clause-taken c =
    let at : position (λ (l : Loose). nat_eq c.args.id l.id) c.args.loose.now.items ≡ Some c.in-Some.place = ap (position (λ (l : Loose). nat_eq c.args.id l.id)) (sym c.deref.ensures.value) ∙ sym c.place_of.ensures ∙ c.in-Some.is in
    taken_out c.args.id c.in-Some.place c.args.loose.now.items c.swap_remove.new.self.items c.swap_remove.result at c.swap_remove.ensures.value c.swap_remove.ensures.items
