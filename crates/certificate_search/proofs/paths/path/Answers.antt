use Rattle.std.proofs.Common.{◌≡◌, IfOk, List, [], refl, sym, ◌∙◌, subst, arith}
use Rattle.std.proofs.lemmas.List.{nil_from_length}
use Rattle.cpe_rows.specs.cpe_name.Eleven.{Values}
use Rattle.certificate_search.proofs.LentSteps.{started, failed, arrived, turned_back, less_turned, went_on, less_on}
use Rattle.certificate_search.proofs.paths.path.Goals as goal

pub loop-step-init : goal.loop-step-init
loop-step-init g c =
    started (g.R.PlainRows.rows c.args.rows.now) c.args.to.now c.args.from.now c.new-steps.result.items c.push_step.new.steps.items c.new-seen.result
    c.new-steps.ensures.items c.in_ok-push_step.ensures c.new-seen.ensures

pub returns-then-is_end_at : goal.returns-then-is_end_at
returns-then-is_end_at g c =
    subst (λ (w : List Values). IfOk c.names_of.result (λ names. names ≡ w))
    (arrived (g.R.PlainRows.rows c.args.rows.now) c.args.to.now c.args.from.now c.lawful.ensures c.loop-step.steps.items c.pop.new.self.items c.in-Some.step
    c.loop-step.seen c.in-Some.ensures.items c.loop-step.invariant c.deref.result.now c.deref.ensures.value (sym c.is_end_at.ensures ∙ c.if-is_end_at.true)) c.names_of.ensures

pub loop-step-smaller-then-step-lt1 : goal.loop-step-smaller-then-step-lt1
loop-step-smaller-then-step-lt1 g c =
    less_turned (g.R.PlainRows.rows c.args.rows.now) c.args.to.now c.args.from.now c.lawful.ensures c.loop-step.steps.items c.pop.new.self.items c.in-Some.step
    c.loop-step.seen c.in-Some.ensures.items c.loop-step.invariant

pub loop-step-preserved-then-step-lt1 : goal.loop-step-preserved-then-step-lt1
loop-step-preserved-then-step-lt1 g c =
    turned_back (g.R.PlainRows.rows c.args.rows.now) c.args.to.now c.args.from.now c.lawful.ensures c.loop-step.steps.items c.pop.new.self.items c.in-Some.step
    c.loop-step.seen c.in-Some.ensures.items c.loop-step.invariant c.in-empty.len_below (sym c.is_end_at.ensures ∙ c.if-is_end_at.false)

pub loop-step-smaller : goal.loop-step-smaller
loop-step-smaller g c =
    less_on (g.R.PlainRows.rows c.args.rows.now) c.args.to.now c.args.from.now c.lawful.ensures c.loop-step.steps.items c.pop.new.self.items c.in-Some.step
    c.loop-step.seen c.in-Some.ensures.items c.loop-step.invariant c.next-item.result c.in-len1-up.len_at_least c.next-item.is c.push.new.self.items
    c.try_name.new.steps.items _ c.in_ok-push-in-len1-up.ensures.items refl c.try_name.new.seen c.in_ok-try_name-in-len1-up.ensures.steps
    c.in_ok-try_name-in-len1-up.ensures.seen

pub loop-step-preserved : goal.loop-step-preserved
loop-step-preserved g c =
    went_on (g.R.PlainRows.rows c.args.rows.now) c.args.to.now c.args.from.now c.lawful.ensures c.loop-step.steps.items c.pop.new.self.items c.in-Some.step
    c.loop-step.seen c.in-Some.ensures.items c.loop-step.invariant c.next-item.result c.in-len1-up.len_at_least c.next-item.is c.push.new.self.items
    c.try_name.new.steps.items _ c.in_ok-push-in-len1-up.ensures.items refl c.try_name.new.seen c.in_ok-try_name-in-len1-up.ensures.steps
    c.in_ok-try_name-in-len1-up.ensures.seen

pub returns : goal.returns
returns g c =
    let none : c.loop-step.steps.items ≡ [] = nil_from_length c.loop-step.steps.items (let e = c.in_default.ensures.cases.0 in omega arith) in
    subst (λ (w : List Values). IfOk c.alone.result (λ names. names ≡ w))
    (failed (g.R.PlainRows.rows c.args.rows.now) c.args.to.now c.args.from.now c.lawful.ensures c.loop-step.steps.items c.loop-step.seen none
    c.loop-step.invariant) c.alone.ensures
