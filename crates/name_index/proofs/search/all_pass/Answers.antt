use Rattle.std.proofs.Common.{◌-◌, length, sym, ap, ◌∙◌, arith}
use Rattle.std.proofs.lemmas.Bool.{OnTrue_from}
use Rattle.name_index.specs.Places.{last_passes}
use Rattle.name_index.proofs.BlockLemmas.{all_passing}
use Rattle.name_index.proofs.search.all_pass.Goals as goal

pub returns : goal.returns
returns g c =
    let passes = g.T.Test.passes c.args.test.now in
    OnTrue_from _ _ (λ h.
    all_passing passes c.args.blocks.now (length c.args.blocks.now - 1) (omega (arith, c.requires.some)) c.requires.filled c.requires.parted
    (sym (ap (last_passes passes) c.block_of.ensures) ∙ sym c.last_passes.ensures ∙ h))
