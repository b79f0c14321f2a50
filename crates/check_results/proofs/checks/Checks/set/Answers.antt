use Rattle.std.proofs.Common.{ap, subst, sym, ◌∙◌, List, map}
use Rattle.std.specs.HashMap.{spare}
use Rattle.cpe_rows.specs.After.{with_check}
use Rattle.cpe_rows.specs.declared.test.CheckKey.{CheckKey}
use Rattle.check_results.specs.Results.{AreLawfulResults, ChecksNow, has_result_room, seen}
use Rattle.check_results.specs.declared.kept.ResultRow.{ResultRow}
use Rattle.check_results.proofs.ResultLemmas.{AreKept-changed, copied, roomy, set_by_ticket, set_last}
use Rattle.check_results.proofs.checks.Checks.set.Goals as goal

pub invariant_of-self : goal.invariant_of-self
invariant_of-self c =
    let s = c.self.inside in
    subst (λ (rs : List ResultRow). AreLawfulResults rs s.by_key.entries s.next) (sym c.change_truth.ensures.results)
    (AreKept-changed c.args.truth c.in-Some.ticket s.results.items s.by_key.entries s.next c.self.invariant)

pub returns-in-Some : goal.returns-in-Some
returns-in-Some c k is =
    let s = c.self.inside in
    let key = c.args.ready.key in
    let truth = c.args.truth in
    ap (λ (rs : List ResultRow). map seen rs) c.change_truth.ensures.results
    ∙ (set_by_ticket s.results.items s.by_key.entries s.next c.self.invariant key truth c.in-Some.ticket c.change_truth.ensures.rising (sym c.in-Some.ensures)
    ∙ (ap (λ (a : ChecksNow). with_check key truth a.list) c.self.view_is ∙ ap (λ (q : CheckKey). with_check q truth c.args.self.now.list) is.key))

pub put_new-requires-clause-copy : goal.put_new-requires-clause-copy
put_new-requires-clause-copy c =
    let s = c.self.inside in
    let view = c.self.view_is in
    copied s.results.items s.by_key.entries s.next c.self.invariant (has_result_room s.results.ready (spare s.by_key) s.next) c.args.self.now (ap (λ (a : ChecksNow). a.list) view) (ap (λ (a : ChecksNow). a.ready) view)
    c.requires.0 c.args.ready c.requires.1 (sym c.in-None.ensures)

pub put_new-requires-clause-room : goal.put_new-requires-clause-room
put_new-requires-clause-room c =
    let s = c.self.inside in
    let view = c.self.view_is in
    roomy s.results.items s.by_key.entries s.next c.self.invariant (has_result_room s.results.ready (spare s.by_key) s.next) c.args.self.now (ap (λ (a : ChecksNow). a.list) view) (ap (λ (a : ChecksNow). a.ready) view)
    c.requires.0 c.args.ready c.requires.1 (sym c.in-None.ensures)

pub returns-in-None : goal.returns-in-None
returns-in-None c k is =
    let s = c.self.inside in
    let key = c.args.ready.key in
    let truth = c.args.truth in
    c.put_new.ensures.results
    ∙ (set_last s.results.items s.by_key.entries s.next c.self.invariant key truth (sym c.in-None.ensures)
    ∙ (ap (λ (a : ChecksNow). with_check key truth a.list) c.self.view_is ∙ ap (λ (q : CheckKey). with_check q truth c.args.self.now.list) is.key))
