use Rattle.std.proofs.Common.{List, ℕ, subst}
use Rattle.c_library.specs.CallResults.{FitsBuffer}
use Rattle.c_library.proofs.Saying.{Says-fits}
use Rattle.c_library.proofs.talk.say_line.Goals as goal

pub returns-in-Ok : goal.returns-in-Ok
returns-in-Ok g c =
    Says-fits c.args.talk.now _ c.args.out.now c.give.new.out c.args.piece.now c.give.result
    (subst (λ (text : List ℕ). FitsBuffer text c.args.out.now c.give.new.out c.give.result) c.text.ensures c.give.ensures) c.requires c.in-Ok.ensures
