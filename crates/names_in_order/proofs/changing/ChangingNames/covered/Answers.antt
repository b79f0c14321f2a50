use Rattle.std.proofs.Common.{◌≡◌, ap, subst, sym, ◌∙◌}
use Rattle.std.specs.List.{filter}
use Rattle.std.proofs.lemmas.Result.{IfOk-weaker}
use Rattle.cpe_relation.specs.NameRelation.{covers}
use Rattle.name_index.specs.Index.{is_covered}
use Rattle.names_in_order.specs.InOrder.{AreListedNames, Roll, names_numbered}
use Rattle.names_in_order.proofs.ChangeLemmas.{covered_live, covered_names}
use Rattle.names_in_order.proofs.changing.ChangingNames.covered.Goals as goal

pub returns-clause-live : goal.returns-clause-live
returns-clause-live g c =
    let table = c.args.table.now in
    let name = c.args.name.now in
    let numbers = c.self.inside.numbers.numbers in
    let live = subst (λ (r : Roll). AreListedNames table r.numbers) (sym c.self.view_is) c.requires.order.live in
    IfOk-weaker c.find_covered.result
    (λ v. v.items ≡ filter (is_covered table name) numbers)
    (λ v. AreListedNames table v.items)
    (λ v is. subst (AreListedNames table) (sym is) (covered_live table numbers (is_covered table name) live))
    c.find_covered.ensures.covered

pub returns-clause-covered : goal.returns-clause-covered
returns-clause-covered g c =
    let table = c.args.table.now in
    let name = c.args.name.now in
    let numbers = c.self.inside.numbers.numbers in
    IfOk-weaker c.find_covered.result
    (λ v. v.items ≡ filter (is_covered table name) numbers)
    (λ v. names_numbered table v.items ≡ filter (covers name) (names_numbered table c.args.self.now.numbers))
    (λ v is. ap (names_numbered table) is ∙ covered_names table numbers name ∙ ap (λ (r : Roll). filter (covers name) (names_numbered table r.numbers)) c.self.view_is)
    c.find_covered.ensures.covered
