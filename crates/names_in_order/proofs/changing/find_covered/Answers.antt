use Rattle.std.proofs.Common.{◌≡◌, List, ap, sym, ◌∙◌}
use Rattle.std.specs.List.{filter, sum_by}
use Rattle.std.proofs.lemmas.Result.{IfOk-weaker}
use Rattle.name_index.specs.Elements.{SameElements}
use Rattle.name_index.proofs.Sums.{filter_same}
use Rattle.name_index.specs.declared.table.NameId.{NameId}
use Rattle.name_index.specs.Index.{ids, is_covered}
use Rattle.names_in_order.specs.Marked.{PutsInOrder}
use Rattle.names_in_order.proofs.changing.find_covered.Goals as goal

pub returns-clause-covered : goal.returns-clause-covered
returns-clause-covered g c =
    let table = c.args.table.now in
    let numbers = c.args.numbers.now.numbers in
    let q = is_covered table c.args.name.now in
    let found : SameElements (filter q numbers) c.deref.result.now = λ f. sym (filter_same q (ids c.args.index.now.held) numbers c.requires.order.same f) ∙ c.in_ok-found.ensures.covered f ∙ ap (λ (xs : List NameId). sum_by f xs) (sym c.deref.ensures.value) in
    IfOk-weaker c.in_order.result
    (λ v. PutsInOrder numbers c.deref.result.now v.items)
    (λ v. v.items ≡ filter q numbers)
    (λ v puts. puts q found)
    c.in_order.ensures
