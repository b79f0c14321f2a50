use Rattle.std.proofs.Common.{sym, subst, length, refl}
use Rattle.std.proofs.lemmas.Bool.{false≢true}
use Rattle.memchr.specs.TwoWay.{IsCut}
use Rattle.memchr.proofs.lemmas.CriticalLemmas.{IsCut-wide, IsCut-long, IsCut-small}
use Rattle.memchr.specs.declared.arch.all.twoway.Shift.TheVariants.{Large}
use Rattle.cpe_relation.specs.Folded.{table_index}
use Rattle.cpe_relation.proofs.cut.cut_at.Goals as goal

pub returns-then-critical-m : goal.returns-then-critical-m
returns-then-critical-m c =
    let x = table_index c.args.body.now in
    let m = length c.args.body.now in
    subst (λ s. IsCut x m c.args.critical (Large s)) (sym c.max-large.ensures) (IsCut-wide x m c.args.critical c.args.period c.requires c.if-critical-m.true)

pub returns-then-not-repeats_before : goal.returns-then-not-repeats_before
returns-then-not-repeats_before c =
    let x = table_index c.args.body.now in
    let m = length c.args.body.now in
    subst (λ s. IsCut x m c.args.critical (Large s)) (sym c.max-large.ensures)
    (IsCut-long x m c.args.critical c.args.period c.requires (λ all. false≢true (c.if-not-repeats_before.ensures.1 all)))

pub returns : goal.returns
returns c = IsCut-small _ _ _ _ c.requires (c.if-not-repeats_before.ensures.0 refl)
