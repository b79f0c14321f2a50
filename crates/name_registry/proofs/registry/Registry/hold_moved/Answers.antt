use Rattle.name_registry.proofs.FitLemmas.{name_held, Stays, stays_held}
use Rattle.name_registry.proofs.registry.Registry.hold_moved.Goals as goal
use Rattle.name_registry.proofs.registry.Registry.hold_moved.Goals.{After-hold_moved}

stays : (c : After-hold_moved) → Stays c.self.inside.table c.hold_moved.new.self c.self.inside.dictionary c.self.inside.items.numbers
stays c =
    let i = c.self.inside in
    stays_held i.table c.hold_moved.new.self i.dictionary i.items.numbers c.args.name c.hold_moved.result c.self.invariant c.orders_stay.ensures c.hold_moved.ensures.held c.hold_moved.ensures.err

pub invariant_of-self : goal.invariant_of-self
invariant_of-self c = (stays (goal.at.invariant_of-self c).After-hold_moved).fitting

pub returns : goal.returns
returns c =
    let i = c.self.inside in
    name_held i.table c.hold_moved.new.self i.dictionary i.items c.args.name c.hold_moved.result c.self.view_is (stays (goal.at.returns c).After-hold_moved) c.hold_moved.ensures.held c.hold_moved.ensures.err
    (λ id. c.tables_are_lists.ensures.held i.table c.hold_moved.new.self id c.args.name)
