use Rattle.std.proofs.Common.{ℕ, List, sym, subst}
use Rattle.std.specs.Prelude.{IfSome}
use Rattle.std.specs.List.{All}
use Rattle.deprecation_graph.specs.Groups.{IsHead}
use Rattle.deprecation_graph.proofs.groups.are_small.Goals as goal

pub have_few-requires : goal.have_few-requires
have_few-requires c =
    let heads = subst (λ found. IfSome found (λ names. All (IsHead c.args.groups.now) names.items)) c.in-Some.is c.in_ok-names.ensures.heads in
    subst (λ (xs : List ℕ). All (IsHead c.args.groups.now) xs) (sym c.deref.ensures.value) heads
