use Rattle.std.proofs.Common.{◌∙◌, eqb, sym, refl, arith}
use Rattle.std.proofs.lemmas.Map.Keys.{IsDistinct-from_apart}
use Rattle.deprecation_graph.proofs.FitLemmas.{is_preceded, apart_more}
use Rattle.deprecation_graph.proofs.fit.are_different.Goals as goal

pub returns-then-contains : goal.returns-then-contains
returns-then-contains c = (
  λ t. absurd cc,
  λ d. absurd (is_preceded c.args.next.now c.loop-place.place c.loop-place-test.true (sym c.contains.ensures.value ∙ c.if-contains.true) d),
)

pub loop-place-preserved : goal.loop-place-preserved
loop-place-preserved c = apart_more c.args.next.now c.loop-place.place c.loop-place-test.true c.loop-place.invariant
    (sym c.contains.ensures.value ∙ c.if-contains.false)

pub returns : goal.returns
returns c = (
  λ _. IsDistinct-from_apart eqb c.args.next.now (λ i j d lt below. c.loop-place.invariant i j d lt (omega arith)),
  λ _. refl,
)
