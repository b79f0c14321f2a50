use Rattle.std.proofs.Common.{rules, ℕ, refl, ◌≡◌, ◌+◌, ◌≤◌, ◌<◌, length, sym, arith, ⊎_elim}
use Rattle.std.proofs.lemmas.Bool.{cases_lt, cases_Bool, false≢true}
use Rattle.memchr.proofs.lemmas.FindLemmas.{Nowhere-then}
use Rattle.memchr.proofs.lemmas.SearchLemmas.{Nowhere-right, Nowhere-left, Nowhere-end, known-next}
use Rattle.cpe_relation.specs.Folded.{table_index}
use Rattle.cpe_relation.proofs.Shifts.{promises}
use Rattle.cpe_relation.proofs.search.find.Goals as goal

pub loop-pos-preserved-then-i-m : goal.loop-pos-preserved-then-i-m
loop-pos-preserved-then-i-m c =
    let x = table_index c.args.body.now in
    let m = length c.args.body.now in
    let h = table_index c.args.text.now in
    let n = c.args.n in
    let old = c.loop-pos.invariant in
    let pos = c.loop-pos.pos in
    let first = old.0 in
    let critical = c.args.cut.critical in
    let ends = c.matched_to-i.ensures in
    let start = c.max.result in
    let start_is = c.max.ensures in
    let i = c.matched_to-i.result in
    let below = c.if-i-m.true in
    let low : critical ≤ i = omega (arith, ends.low) in
    let same : (k : ℕ) → critical ≤ k → k < i → x k ≡ h (pos + k) = λ k a b.
    ⊎_elim (λ inside. old.4 k (omega arith)) (λ outside. ends.same k outside b) (cases_lt k start) in
    let here = Nowhere-right x m h n critical c.requires.cut.critical pos i low below same (ends.differs below) in
    (omega arith, omega (arith, ends.high), Nowhere-then old.2 here, c.requires.some, λ k l. absurd (omega arith))

pub overflow_add-pos-in-loop-pos : goal.overflow_add-pos-in-loop-pos
overflow_add-pos-in-loop-pos c =
    let p = promises _ _ _ _ _ c.requires.cut.shifts in
    let fits = c.ranges.n.fits in
    let le = p.fits in
    search rules

pub kept-known-requires : goal.kept-known-requires
kept-known-requires c = (promises _ _ _ _ _ c.requires.cut.shifts).fits

pub loop-pos-smaller : goal.loop-pos-smaller
loop-pos-smaller c =
    let p = promises _ _ _ _ _ c.requires.cut.shifts in
    let some = p.some in
    let le = p.fits in
    omega arith

pub loop-pos-preserved : goal.loop-pos-preserved
loop-pos-preserved c =
    let x = table_index c.args.body.now in
    let m = length c.args.body.now in
    let h = table_index c.args.text.now in
    let n = c.args.n in
    let old = c.loop-pos.invariant in
    let pos = c.loop-pos.pos in
    let first = old.0 in
    let critical = c.args.cut.critical in
    let s = c.args.cut.shift in
    let p = promises x m critical c.args.cut.repeats s c.requires.cut.shifts in
    let some = p.some in
    let le = p.fits in
    let ends = c.matched_to-i.ensures in
    let start = c.max.result in
    let start_is = c.max.ensures in
    let full : m ≤ c.matched_to-i.result = omega (arith, c.if-i-m.false) in
    let right : (k : ℕ) → critical ≤ k → k < m → x k ≡ h (pos + k) = λ k a b.
    ⊎_elim (λ near. old.4 k (omega arith)) (λ far. ends.same k far (omega arith)) (cases_lt k start) in
    let here = Nowhere-left x m h n critical s c.requires.cut.critical p.short pos right
    (λ occurs. false≢true (c.if-matches_between.ensures.1 (λ k a b. sym (occurs.reads k (omega arith))))) in
    let kept = c.kept-known.ensures in
    let known = c.kept-known.result in
    let less : known < m = ⊎_elim (λ yes. omega (arith, kept.some yes)) (λ none. omega (arith, kept.none none, c.requires.some)) (cases_Bool c.args.cut.repeats) in
    let front : (k : ℕ) → k < known → x k ≡ h (pos + s + k) = λ k l.
    ⊎_elim
    (λ yes. known-next x m h n critical s (p.periodic yes) (p.above yes) pos right k (omega (arith, kept.some yes)))
    (λ none. absurd (omega (arith, kept.none none)))
    (cases_Bool c.args.cut.repeats) in
    (omega arith, omega arith, Nowhere-then old.2 here, less, front)

pub returns : goal.returns
returns c =
    let old = c.loop-pos.invariant in
    Nowhere-then old.2 (Nowhere-end (table_index c.args.body.now) (length c.args.body.now) (table_index c.args.text.now) c.args.n c.loop-pos.pos c.loop-pos-test.false)

pub returns-then-matches_between : goal.returns-then-matches_between
returns-then-matches_between c =
    let x = table_index c.args.body.now in
    let m = length c.args.body.now in
    let h = table_index c.args.text.now in
    let old = c.loop-pos.invariant in
    let pos = c.loop-pos.pos in
    let first = old.0 in
    let critical = c.args.cut.critical in
    let ends = c.matched_to-i.ensures in
    let start = c.max.result in
    let start_is = c.max.ensures in
    let full : m ≤ c.matched_to-i.result = omega (arith, c.if-i-m.false) in
    let left = c.if-matches_between.ensures.0 refl in (
      record { low = omega arith; high = omega arith; before = old.2 },
      record {
        fits = omega arith;
        reads = λ j l. sym (⊎_elim
            (λ early. old.4 j early)
            (λ late. ⊎_elim
            (λ inside. left j late inside)
            (λ outside. ⊎_elim (λ near. old.4 j (omega arith)) (λ far. ends.same j far (omega arith)) (cases_lt j start))
            (cases_lt j critical))
            (cases_lt j c.loop-pos.known));
      },
    )
