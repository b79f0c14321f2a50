use Rattle.std.proofs.Common.{arith, ap, subst, ◌∙◌}
use Rattle.std.proofs.lemmas.Result.{on_ok_weaker}
use Rattle.names_in_order.specs.Room.{SameRoll}
use Rattle.cpe_dictionary.specs.Listed.{EntryList}
use Rattle.cpe_dictionary.proofs.growing.GrowingEntries.reserve.Goals as goal

pub returns-clause-same : goal.returns-clause-same
returns-clause-same c = record {
  names = subst (λ (l : EntryList). SameRoll l.names c.reserve-2.new.self) c.self.view_is c.reserve-2.ensures.same;
  details = c.reserve.ensures.items ∙ ap (λ (l : EntryList). l.details) c.self.view_is;
}

pub returns-clause-ok : goal.returns-clause-ok
returns-clause-ok c =
    let all = c.reserve.new.self in
    on_ok_weaker c.reserve-2.result
    (λ may. record { names = may; spare = omega (arith, c.in_ok-reserve.ensures.ok) })
    c.reserve-2.ensures.ok
