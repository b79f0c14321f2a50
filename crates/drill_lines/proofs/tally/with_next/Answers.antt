use Rattle.drill_lines.proofs.Tallies.{first, few-first, tally-next, none-below}
use Rattle.drill_lines.proofs.tally.with_next.Goals as goal

pub with-requires : goal.with-requires
with-requires c =
    (first c.args.engine.now c.args.place, few-first c.args.engine.now c.args.place c.requires.below c.requires.few, c.requires.so_far)

pub returns-in-Some : goal.returns-in-Some
returns-in-Some c =
    tally-next c.args.engine.now c.args.place c.requires.below c.in-Some.truth c.with.result c.in-Some.ensures.verdict
    (c.with.ensures (first c.args.engine.now c.args.place) c.requires.so_far)

-- there is a statement at this place
pub returns-in-None : goal.returns-in-None
returns-in-None c = absurd (none-below c.args.engine.now c.args.place c.requires.below c.in-None.ensures.verdict)
