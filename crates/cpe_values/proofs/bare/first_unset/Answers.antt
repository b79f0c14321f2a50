use Rattle.std.proofs.Common.{leb, map, ap, ◌∙◌, ◌-◌, ◌^◌, ◌%◌, arith, w8, replicate}
use Rattle.std.proofs.lemmas.List.{length-map}
use Rattle.std.specs.Simd.Lanes.{mask_l}
use Rattle.std.specs.Int.Count.{count_trailing_zeros}
use Rattle.std.proofs.lemmas.Simd.{tops_compared, zip2_splat_left, mask_l-mod}
use Rattle.cpe_values.proofs.LaneLemmas.{trailing_ones_of_mask}
use Rattle.cpe_values.proofs.bare.first_unset.Goals as goal

pub returns : goal.returns
returns c =
    let xs = c.args.lanes in
    let long = c.fits-lanes.0 in
    let tops = tops_compared w8 leb (replicate 16 128) xs ∙ zip2_splat_left leb 128 16 xs long in
    let mask = ap (λ ms. mask_l ms % 2 ^ 64) tops ∙ mask_l-mod (map (leb 128) xs) 64 (omega (arith, length-map xs (leb 128))) in
    c.trailing_ones.ensures ∙ ap (λ m. count_trailing_zeros 64 (2 ^ 64 - 1 - m)) mask ∙ trailing_ones_of_mask (leb 128) 64 xs (omega arith)
