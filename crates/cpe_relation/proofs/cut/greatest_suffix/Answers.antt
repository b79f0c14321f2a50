use Rattle.std.proofs.Common.{◌≡◌, ◌+◌, ◌-◌, length, sym, subst, ◌∙◌, arith}
use Rattle.cpe_relation.specs.Folded.{table_index, IsBefore}
use Rattle.cpe_relation.proofs.Orders.{IsReached-trans, IsReached-irrefl}
use Rattle.memchr.proofs.lemmas.SuffixLemmas.{IsScan, IsScan-start, IsScan-accept, IsScan-skip, IsScan-push, IsScan-block, IsScan-end}
use Rattle.cpe_relation.proofs.cut.greatest_suffix.Goals as goal

pub loop-candidate-init : goal.loop-candidate-init
loop-candidate-init c = IsScan-start (IsBefore c.args.usual) (IsReached-trans c.args.usual) (IsReached-irrefl c.args.usual) _ _ c.requires

pub loop-candidate-preserved-in-Accept : goal.loop-candidate-preserved-in-Accept
loop-candidate-preserved-in-Accept c =
    let s = c.loop-candidate in
    let won = c.compared.ensures.accept c.in-Accept.is in
    let x = table_index c.args.body.now in
    IsScan-accept (IsBefore c.args.usual) (IsReached-trans c.args.usual) (IsReached-irrefl c.args.usual) x _ s.invariant c.loop-candidate-test.true
    (subst (λ v. IsBefore c.args.usual v (x (s.candidate + s.offset))) c.byte_at-current.ensures (subst (IsBefore c.args.usual c.byte_at-current.result) c.byte_at-other.ensures won))

pub loop-candidate-preserved-in-Skip : goal.loop-candidate-preserved-in-Skip
loop-candidate-preserved-in-Skip c =
    let s = c.loop-candidate in
    let lost = c.compared.ensures.skip c.in-Skip.is in
    let x = table_index c.args.body.now in
    let m = length c.args.body.now in
    let moved : s.candidate + s.offset + 1 ≡ s.candidate + (s.offset + 1) = omega arith in
    subst (λ k. IsScan (IsBefore c.args.usual) x m s.start (k - s.start) k 0) moved
    (IsScan-skip (IsBefore c.args.usual) (IsReached-trans c.args.usual) (IsReached-irrefl c.args.usual) x m s.invariant c.loop-candidate-test.true
    (subst (λ v. IsBefore c.args.usual v (x (s.start + s.offset))) c.byte_at-other.ensures (subst (IsBefore c.args.usual c.byte_at-other.result) c.byte_at-current.ensures lost)))

pub loop-candidate-preserved-then-offset-period : goal.loop-candidate-preserved-then-offset-period
loop-candidate-preserved-then-offset-period c =
    let s = c.loop-candidate in
    let eq = sym c.byte_at-current.ensures ∙ c.compared.ensures.push c.in-Push.is ∙ c.byte_at-other.ensures in
    IsScan-block (IsBefore c.args.usual) (IsReached-trans c.args.usual) (IsReached-irrefl c.args.usual) _ _ s.invariant c.loop-candidate-test.true eq c.if-offset-period.true

pub loop-candidate-preserved : goal.loop-candidate-preserved
loop-candidate-preserved c =
    let s = c.loop-candidate in
    let short = s.invariant.short in
    let differs = c.if-offset-period.false in
    let eq = sym c.byte_at-current.ensures ∙ c.compared.ensures.push c.in-Push.is ∙ c.byte_at-other.ensures in
    IsScan-push (IsBefore c.args.usual) (IsReached-trans c.args.usual) (IsReached-irrefl c.args.usual) _ _ s.invariant c.loop-candidate-test.true eq (omega arith)

pub returns : goal.returns
returns c =
    let s = c.loop-candidate in
    let within = s.invariant.within in
    let ended = c.loop-candidate-test.false in
    IsScan-end (IsBefore c.args.usual) (IsReached-trans c.args.usual) (IsReached-irrefl c.args.usual) _ _ s.invariant (omega arith)
