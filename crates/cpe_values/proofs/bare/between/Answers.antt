use Rattle.std.proofs.Common.{Bool, List, cond, leb, bit_and, map, replicate, ap, ◌∙◌}
use Rattle.std.specs.Simd.Lanes.{sel_l, top}
use Rattle.std.proofs.lemmas.Simd.{zip2_splat, zip2_splat_left, zip2_of_maps, map-map}
use Rattle.cpe_values.specs.Lanes.{is_between}
use Rattle.cpe_values.proofs.LaneLemmas.{sel_l-map, tops_between}
use Rattle.cpe_values.proofs.bare.between.Goals as goal

pub returns : goal.returns
returns c =
    let xs = c.args.block in
    let long = c.fits-block.0 in
    let above = zip2_splat_left (λ a b. cond (leb a b) 255 0) c.args.first 16 xs long in
    let below = zip2_splat (λ a b. cond (leb a b) 255 0) xs 16 c.args.last long in
    let tested = ap (map (top 7)) (zip2_of_maps bit_and _ _ xs above below) ∙ map-map (top 7) _ xs ∙ tops_between c.args.first c.args.last xs in
    ap (λ (ms : List Bool). sel_l ms (replicate 16 255) (replicate 16 0)) tested ∙ sel_l-map (is_between c.args.first c.args.last) xs 16 long
