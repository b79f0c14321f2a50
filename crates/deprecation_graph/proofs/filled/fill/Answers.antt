use Rattle.std.proofs.lemmas.Bool.{iff_false}
use Rattle.deprecation_graph.proofs.ListLemmas.{allowed_fit}
use Rattle.deprecation_graph.proofs.filled.fill.Goals as goal

pub returns-then-not-are_fit-clause-unlawful : goal.returns-then-not-are_fit-clause-unlawful
returns-then-not-are_fit-clause-unlawful c = λ _ allowed. iff_false c.are_fit.ensures c.if-not-are_fit.true (allowed_fit c.args.lists.now allowed)
