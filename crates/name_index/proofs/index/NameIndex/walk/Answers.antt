use Rattle.std.proofs.Common.{List, sym, ap, subst, ◌∙◌}
use Rattle.std.specs.List.{sum_by, filter}
use Rattle.list_pool.specs.declared.ListName.{ListName}
use Rattle.name_index.specs.declared.table.NameId.{NameId}
use Rattle.name_index.specs.Table.{kept_at}
use Rattle.name_index.specs.Index.{Held, ids, FitsTable, walk_left}
use Rattle.name_index.specs.Wanted.{walked}
use Rattle.name_index.proofs.NearSums.{passing_sum}
use Rattle.name_index.proofs.index.NameIndex.walk.Goals as goal

pub returns : goal.returns
returns c names test fits w f =
    let i = c.self.inside in
    let here = subst (λ (h : Held). FitsTable h.held names) (sym c.self.view_is) fits in
    ap (λ (h : Held). sum_by f (filter (λ (id : NameId). test (kept_at names id.0).name.product) (ids h.held))) (sym c.self.view_is)
    ∙ passing_sum names test i.pool.lists i.heads.items (walked c.args.products) here w f
    ∙ ap (λ (hs : List ListName). sum_by f (walk_left i.pool.lists hs 0 0 (walked c.args.products))) (sym c.deref.ensures.value)
