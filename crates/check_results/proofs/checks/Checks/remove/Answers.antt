use Rattle.std.proofs.Common.{◌≡◌, ap, is_some, subst, sym, ◌∙◌, List, map}
use Rattle.std.specs.List.{list_any}
use Rattle.std.specs.Map.{lookup}
use Rattle.cpe_rows.specs.Rows.{has_key, same_key}
use Rattle.cpe_rows.specs.After.{without_first}
use Rattle.check_results.specs.Results.{AreLawfulResults, ChecksNow, seen}
use Rattle.check_results.specs.declared.kept.ResultRow.{ResultRow}
use Rattle.check_results.proofs.ResultLemmas.{AreKept-left, has_by_key, left_by_ticket, left_whole}
use Rattle.check_results.proofs.checks.Checks.remove.Goals as goal
use Rattle.check_results.proofs.checks.Checks.remove.Goals.{After-forget}

pub invariant_of-self : goal.invariant_of-self
invariant_of-self c =
    let s = c.self.inside in
    let key = c.args.key.now in
    let entries = c.forget.new.by_key.entries in
    subst (λ (rs : List ResultRow). AreLawfulResults rs entries s.next) (sym c.take_out.ensures.results)
    (AreKept-left key s.results.items s.by_key.entries entries s.next c.self.invariant c.forget.ensures.left c.in-Some.ticket c.take_out.ensures.rising (sym c.in-Some.ensures.ticket))

-- a ticket is kept for the key exactly if a result is kept for the key
is_kept : (c : After-forget) → is_some (lookup (same_key c.args.key.now) c.self.inside.by_key.entries) ≡ list_any (has_key c.args.key.now) c.args.self.now.list
is_kept c =
    has_by_key c.self.inside.results.items c.self.inside.by_key.entries c.self.inside.next c.self.invariant c.args.key.now ∙ ap (λ (s : ChecksNow). list_any (has_key c.args.key.now) s.list) c.self.view_is

pub returns-in-Some-clause-found : goal.returns-in-Some-clause-found
returns-in-Some-clause-found c = ap is_some c.in-Some.ensures.ticket ∙ is_kept (goal.at.returns-in-Some-clause-found c).After-forget

pub returns-in-Some-clause-results : goal.returns-in-Some-clause-results
returns-in-Some-clause-results c =
    let s = c.self.inside in
    let key = c.args.key.now in
    ap (λ (rs : List ResultRow). map seen rs) c.take_out.ensures.results
    ∙ (left_by_ticket s.results.items s.by_key.entries s.next c.self.invariant key c.in-Some.ticket c.take_out.ensures.rising (sym c.in-Some.ensures.ticket)
    ∙ ap (λ (s : ChecksNow). without_first (has_key key) s.list) c.self.view_is)

pub returns-in-None-clause-found : goal.returns-in-None-clause-found
returns-in-None-clause-found c = ap is_some c.in-None.ensures.ticket ∙ is_kept (goal.at.returns-in-None-clause-found c).After-forget

pub returns-in-None-clause-results : goal.returns-in-None-clause-results
returns-in-None-clause-results c =
    let s = c.self.inside in
    left_whole s.results.items s.by_key.entries s.next c.self.invariant c.args.key.now (sym c.in-None.ensures.ticket) ∙ ap (λ (s : ChecksNow). without_first (has_key c.args.key.now) s.list) c.self.view_is
