use Rattle.std.proofs.Common.{List, ℕ, refl, subst}
use Rattle.c_library.specs.CallResults.{FitsBuffer}
use Rattle.c_library.specs.declared.talk.Talk.{Talk}
use Rattle.c_library.specs.declared.talk.Phase.TheVariants.{Ended}
use Rattle.c_library.proofs.Saying.{Ends-fits}
use Rattle.c_library.proofs.talk.end_open.Goals as goal

pub returns-in-Ok : goal.returns-in-Ok
returns-in-Ok g c =
    let new : Talk = record { speaking = c.args.talk.now.speaking; progress = c.fall_silent.new.progress; phase = Ended } in
    Ends-fits c.args.talk.now new c.args.out.now c.give.new.out _ c.give.result
    (subst (λ (text : List ℕ). FitsBuffer text c.args.out.now c.give.new.out c.give.result) c.text.ensures c.give.ensures) refl (c.in-Ok.ending, c.number.ensures, c.in-Ok.ensures)
