use Rattle.std.proofs.Common.{ap, sym, ◌∙◌, List, map}
use Rattle.std.specs.HashMap.{spare}
use Rattle.check_results.specs.Results.{ChecksNow, has_result_room, seen}
use Rattle.check_results.specs.declared.kept.ResultRow.{ResultRow}
use Rattle.check_results.proofs.ResultLemmas.{AreKept-same, ready_by, ready_known}
use Rattle.check_results.proofs.checks.Checks.reserve.Goals as goal

pub returns-then-has-clause-ok : goal.returns-then-has-clause-ok
returns-then-has-clause-ok c = ready_known c.args.self.now c.args.key (sym c.has.ensures ∙ c.if-has.true)

pub invariant_of-self : goal.invariant_of-self
invariant_of-self c =
    let s = c.self.inside in
    AreKept-same s.results.items c.ready_new.new.results.items s.by_key.entries c.ready_new.new.by_key.entries s.next c.self.invariant c.ready_new.ensures.results c.ready_new.ensures.tickets

pub returns-else-has-clause-list : goal.returns-else-has-clause-list
returns-else-has-clause-list c = ap (λ (rs : List ResultRow). map seen rs) c.ready_new.ensures.results ∙ ap (λ (a : ChecksNow). a.list) c.self.view_is

pub returns-else-has-clause-ok : goal.returns-else-has-clause-ok
returns-else-has-clause-ok c =
    let results = c.ready_new.new.results in
    let now : ChecksNow = record { list = map seen results.items; ready = has_result_room results.ready (spare c.ready_new.new.by_key) c.self.inside.next } in
    ready_by now c.args.key c.ready_new.result c.ready_new.ensures.key c.ready_new.ensures.copy c.ready_new.ensures.room
