use Rattle.std.proofs.Common.{◌-◌, bit_and, bit_or, map, refl, ap, ◌∙◌}
use Rattle.std.proofs.lemmas.Simd.{zip2_of_maps, map-map}
use Rattle.cpe_values.proofs.LaneLemmas.{map_of_bytes}
use Rattle.cpe_values.proofs.bare.BareClass.lanes.Goals as goal

pub returns : goal.returns
returns c =
    let xs = c.args.block in
    let slash = ap (map (λ x. 255 - x)) c.between-2.ensures ∙ map-map (λ x. 255 - x) _ xs in
    let middle = zip2_of_maps bit_and _ _ xs c.between.ensures slash in
    let prefix = zip2_of_maps bit_or _ _ xs c.letters.ensures middle in
    zip2_of_maps bit_or _ _ xs prefix c.between-3.ensures ∙ map_of_bytes _ _ refl xs c.fits-block.1
