use Rattle.std.proofs.Common.{ap, ◌∙◌, sym, arith, take, drop, ◌≡◌}
use Rattle.std.specs.List.{prefix_len}
use Rattle.std.proofs.lemmas.List.Sums.{prefix_len-le-length}
use Rattle.std.proofs.lemmas.List.{length-take-le}
use Rattle.cpe_values.specs.Skipping.{skip_while}
use Rattle.cpe_values.proofs.SkippingLemmas.{skip_while-prefix, skip_while_within}
use Rattle.cpe_values.proofs.bare.skip.Goals as goal

pub behind-requires : goal.behind-requires
behind-requires g c = omega (arith, c.prefix_length-count.ensures, prefix_len-le-length g.C.Class.contains (take 16 c.loop-rest.rest.now), length-take-le 16 c.loop-rest.rest.now c.loop-rest-test.true)

pub returns-then-count-lt16 : goal.returns-then-count-lt16
returns-then-count-lt16 g c =
    let rest = c.loop-rest.rest.now in
    let stops = skip_while_within g.C.Class.contains 16 rest (omega (arith, c.prefix_length-count.ensures)) c.loop-rest-test.true in
    c.behind.ensures ∙ ap (λ n. drop n rest) c.prefix_length-count.ensures ∙ sym stops ∙ c.loop-rest.invariant

pub loop-rest-preserved : goal.loop-rest-preserved
loop-rest-preserved g c =
    let rest = c.loop-rest.rest.now in
    let whole : 16 ≡ prefix_len g.C.Class.contains (take 16 rest) = omega (arith, c.prefix_length-count.ensures, prefix_len-le-length g.C.Class.contains (take 16 rest), length-take-le 16 rest c.loop-rest-test.true) in
    ap (skip_while g.C.Class.contains) (c.behind-rest.ensures ∙ ap (λ n. drop n rest) whole) ∙ skip_while-prefix g.C.Class.contains 16 rest ∙ c.loop-rest.invariant
