use Rattle.std.proofs.Common.{not, ◌<◌, length, arith}
use Rattle.cpe_rows.specs.cpe_name.Eleven.{Values}
use Rattle.cpe_rows.specs.cpe_name.Lower.{IsLower}
use Rattle.cover_lines.specs.Cover.{is_covered_by_some}
use Rattle.cover_lines.specs.Marks.{stays}
use Rattle.cover_lines.proofs.Among.{all_among}
use Rattle.cover_lines.proofs.StayLemmas.{gathered_more, occurs_among, stays_uncovered}
use Rattle.cover_lines.proofs.rows.find_uncovered.Goals as goal

pub loop-place-preserved : goal.loop-place-preserved
loop-place-preserved c =
    let names = c.args.names.now in
    let shapes = c.args.shapes.now in
    let marks = c.args.marks.now in
    let k = c.loop-place.place in
    let lt : k < length names = omega (arith, c.loop-place-test.true, c.len-place-end.ensures) in
    gathered_more (λ (n : Values). not (is_covered_by_some names n)) names c.loop-place.rows.items c.put_staying.new.rows.items k (stays names shapes marks k) lt c.loop-place.invariant
    (stays_uncovered names shapes marks (all_among IsLower names c.requires.lower) c.requires.shapes c.requires.marks k lt (occurs_among names k lt)) c.in_ok-put_staying.ensures
