use Rattle.std.proofs.Common.{bit_or, refl, ◌∙◌}
use Rattle.std.proofs.lemmas.Simd.{zip2_of_maps}
use Rattle.cpe_values.proofs.LaneLemmas.{map_of_bytes}
use Rattle.cpe_values.proofs.bare.WordClass.lanes.Goals as goal

pub returns : goal.returns
returns c =
    let xs = c.args.block in
    let prefix = zip2_of_maps bit_or _ _ xs c.letters.ensures c.between.ensures in
    zip2_of_maps bit_or _ _ xs prefix c.between-2.ensures ∙ map_of_bytes _ _ refl xs c.fits-block.1
