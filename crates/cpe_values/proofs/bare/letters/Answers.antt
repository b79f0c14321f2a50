use Rattle.std.proofs.Common.{bit_or, refl, ap, ◌∙◌}
use Rattle.std.proofs.lemmas.Simd.{zip2_splat, map-map}
use Rattle.cpe_values.specs.Lanes.{lanes_where}
use Rattle.cpe_values.proofs.LaneLemmas.{map_of_bytes}
use Rattle.cpe_values.proofs.bare.letters.Goals as goal

pub returns : goal.returns
returns c =
    let xs = c.args.block in
    let folded = zip2_splat bit_or xs 16 32 c.fits-block.0 in
    c.between.ensures ∙ ap (lanes_where _) folded ∙ map-map _ (λ b. bit_or b 32) xs ∙ map_of_bytes _ _ refl xs c.fits-block.1
