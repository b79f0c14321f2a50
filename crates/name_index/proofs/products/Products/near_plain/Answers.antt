use Rattle.std.proofs.Common.{◌-◌, length, take, drop}
use Rattle.name_index.specs.Listed.{live}
use Rattle.name_index.proofs.NearRuns.{plain_same}
use Rattle.name_index.proofs.products.Products.near_plain.Goals as goal

pub returns : goal.returns
returns c =
    let values = c.args.self.now in
    let same = rw c.requires.is at c.same_text-same.ensures in
    let whole = rw c.stem-body.ensures at c.in_runs.ensures in
    let text = c.args.text.now in
    let by_trail = rw c.stem-body.ensures at (c.piece_count-fronts.ensures.enough (λ k. take k text.body)) in
    let by_lead = rw c.stem-body.ensures at (c.piece_count-ends.ensures.enough (λ k. drop (length text.body - k) text.body)) in
    plain_same values (live values) text c.lawful.ensures.lower c.requires.lower c.requires.plain c.args.any c.same_text-same.result c.front_run-both.result c.in_runs.result
    c.piece_count-fronts.result c.piece_count-ends.result c.requires.any same c.front_run-both.ensures by_trail by_lead whole
