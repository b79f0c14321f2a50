use Rattle.std.proofs.Common.{◌+◌, length, refl, sym, ◌∙◌}
use Rattle.cpe_relation.proofs.Ranges.{to_within, from_within}
use Rattle.cpe_relation.proofs.standing.occurs_between.Goals as goal

pub returns : goal.returns
returns c =
    let n = c.args.high + length c.args.body.now in (
      λ e. to_within c.args.text.now c.args.body.now c.args.low c.args.high n refl c.requires.within c.find.result c.find.ensures (sym c.is_some.ensures ∙ e),
      λ w. c.is_some.ensures ∙ from_within c.args.text.now c.args.body.now c.args.low c.args.high n refl c.find.result c.find.ensures w,
    )
