use Rattle.std.proofs.Common.{◌≡◌, ◌++◌, subst, arith}
use Rattle.std.specs.List.{sum_by}
use Rattle.std.proofs.lemmas.List.Sums.{sum_by-append}
use Rattle.name_index.specs.Elements.{SameElements}
use Rattle.name_index.specs.Listed.{live, ProductList}
use Rattle.name_index.specs.Walk.{all_runs}
use Rattle.name_index.proofs.NearRuns.{all_same}
use Rattle.name_index.proofs.products.Products.in_runs.Goals as goal

pub returns : goal.returns
returns c f =
    let values = c.self.inside.values in
    let text = c.args.text.now in
    let k = c.args.fronts in
    let m = c.args.ends in
    let order = c.self.inside.fronts.items in
    let head = c.args.first ++ c.args.second ++ c.args.third in
    let listed : SameElements (live values) order = c.self.invariant.front_all in
    let same = all_same values (live values) order text k m listed f in
    subst (λ (vs : ProductList). sum_by f (head ++ all_runs vs (live vs) text k m) ≡ sum_by f (head ++ all_runs values order text k m)) c.self.view_is
    (omega (arith, same, sum_by-append f head (all_runs values (live values) text k m), sum_by-append f head (all_runs values order text k m)))
