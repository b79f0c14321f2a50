use Rattle.std.proofs.Common.{ℕ, List, length, sym, ap, ◌∙◌}
use Rattle.std.specs.Prelude.{nat_eq}
use Rattle.name_index.proofs.BlockLemmas.{some_left}
use Rattle.name_index.proofs.piece.BlockPiece.is_empty.Goals as goal

pub returns-then-not-is_empty-2 : goal.returns-then-not-is_empty-2
returns-then-not-is_empty-2 c =
    let i = c.self.inside in
    sym (some_left i.here.now i.whole.now i.last.now c.self.invariant (sym c.is_empty-2.ensures ∙ c.if-not-is_empty-2.true)) ∙ ap (λ (u : List ℕ). nat_eq (length u) 0) c.self.view_is
