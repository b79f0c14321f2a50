use Rattle.std.proofs.Common.{cond, ap, subst, sym, ◌∙◌, eq-eqb, eqb-true}
use Rattle.std.specs.Prelude.{nat_eq}
use Rattle.std.specs.List.{AllByRecursion}
use Rattle.std.proofs.lemmas.Bool.{both_ways}
use Rattle.std.proofs.lemmas.List.Elements.{All-from_recursion, recursion_from_All}
use Rattle.std.proofs.lemmas.List.Filters.{All-dedup, dedup_is}
use Rattle.std.proofs.lemmas.List.Sorted.{All-permutation, IsNonDecreasingBy-from_sort, sum_by-IsPermutation}
use Rattle.name_index.specs.declared.table.NameId.{NameId}
use Rattle.name_index.specs.Table.{IsLive}
use Rattle.fact_laws.specs.Shown.{one_if_some, times_in_list}
use Rattle.fact_laws.proofs.Different.{once_different}
use Rattle.fact_boards.proofs.EachOnce.{once_each, rises}
use Rattle.fact_boards.proofs.once.keep_each_once.Goals as goal

pub returns-clause-once : goal.returns-clause-once
returns-clause-once c id =
    let sorted = c.sort_unstable.new.self.items in
    let is = dedup_is _ sorted _ c.dedup.ensures.filtered in
    ap (times_in_list id) is
    ∙ once_each _ (λ x y e. eqb-true x.0 y.0 e) (λ x y e same. both_ways (nat_eq x.0 y.0) e (eq-eqb x.0 y.0 same)) sorted (rises sorted (IsNonDecreasingBy-from_sort (λ (x : NameId). x.0) sorted c.sort_unstable.ensures.sorted)) id
    ∙ ap one_if_some (sum_by-IsPermutation (λ (x : NameId). cond (nat_eq id x.0) 1 0) c.args.numbers.now.items sorted c.sort_unstable.ensures.permutation)

pub returns-clause-live : goal.returns-clause-live
returns-clause-live c names live =
    let sorted = c.sort_unstable.new.self.items in
    let is = dedup_is _ sorted _ c.dedup.ensures.filtered in
    subst (AllByRecursion (λ (x : NameId). IsLive names x.0)) (sym is)
    (recursion_from_All (λ (x : NameId). IsLive names x.0) _ (All-dedup _ (λ (x : NameId). IsLive names x.0) sorted (All-permutation (λ (x : NameId). IsLive names x.0) c.args.numbers.now.items sorted c.sort_unstable.ensures.permutation (All-from_recursion (λ (x : NameId). IsLive names x.0) c.args.numbers.now.items live))))

pub returns-clause-different : goal.returns-clause-different
returns-clause-different c names are live = once_different names c.args.numbers.now.items c.dedup.new.self.items are live (returns-clause-live c names live) (returns-clause-once c)
