use Rattle.std.proofs.Common.{◌≡◌, ◌≤◌, ◌<◌, ℕ, List, true, false, sym, subst}
use Rattle.std.specs.List.{AllByRecursion}
use Rattle.name_index.specs.declared.table.NameId.{NameId}
use Rattle.facts.specs.fact_laws.Shown.{times_in_list}
use Rattle.fact_boards.specs.Kept.{AreFactNames, AreSound}
use Rattle.facts.specs.fact_rows.Facts.{has_end_of_fact, is_fact}
use Rattle.facts.specs.Facts.{AreUsedBut, table_of}
use Rattle.statement_rows.specs.Askers.{AreAskers}
use Rattle.statement_rows.specs.State.{SameRows}
use Rattle.verdicts.specs.Addition.{AreFresh, AreNeededBut, AreReady, FreshBeside}
use Rattle.verdicts.specs.Verdicts.{AreNeeded, VerdictsNow}
use Rattle.verdicts.specs.declared.addition.Addition.{Addition}
use Rattle.verdicts.proofs.AdditionLemmas.{same_verdicts}
use Rattle.verdicts.proofs.FreshLemmas.{fresh_none, fresh_once, fresh_whole}
use Rattle.verdicts.proofs.ReadyLemmas.{is_addition, no_users, not_changed, used_but}
use Rattle.verdicts.proofs.verdicts.Verdicts.ready_statement.Goals as goal

pub ready_rest-requires-clause-live : goal.ready_rest-requires-clause-live
ready_rest-requires-clause-live c = subst (AreFactNames c.args.registry.now.table) (sym c.deref.ensures.value) (c.in_ok-fresh.ensures.live c.args.registry.now.table c.requires.live)

pub ready_rest-requires-clause-once : goal.ready_rest-requires-clause-once
ready_rest-requires-clause-once c q =
    subst (λ (ns : List NameId). times_in_list q ns ≤ 1) (sym c.deref.ensures.value) (fresh_once (table_of c.self.inside.facts c.args.statement.mode) c.args.ids.now c.in_ok-fresh.fresh.items c.in_ok-fresh.ensures.fresh q)

pub ready_rest-requires-clause-unused : goal.ready_rest-requires-clause-unused
ready_rest-requires-clause-unused c q at =
    let v = c.args.self.now in
    let mode = c.args.statement.mode in
    let fresh = c.in_ok-fresh.fresh.items in
    let each = subst (λ (w : VerdictsNow). AreFresh (table_of w.facts mode) c.args.ids.now fresh) c.self.view_is c.in_ok-fresh.ensures.fresh in
    fresh_none (table_of v.facts mode) c.args.ids.now fresh each (c.requires.rows_before.2.needed.facts mode) q (subst (λ (ns : List NameId). has_end_of_fact ns q ≡ true) c.deref.ensures.value at)

pub ready_rest-requires-clause-whole : goal.ready_rest-requires-clause-whole
ready_rest-requires-clause-whole c q at apart =
    let v = c.args.self.now in
    let mode = c.args.statement.mode in
    let fresh = c.in_ok-fresh.fresh.items in
    let each = subst (λ (w : VerdictsNow). AreFresh (table_of w.facts mode) c.args.ids.now fresh) c.self.view_is c.in_ok-fresh.ensures.fresh in
    fresh_whole (table_of v.facts mode) c.args.ids.now fresh each q at (subst (λ (ns : List NameId). has_end_of_fact ns q ≡ false) c.deref.ensures.value apart)

pub remove_unused-requires-clause-users : goal.remove_unused-requires-clause-users
remove_unused-requires-clause-users c q at =
    let v = c.args.self.now in
    let mode = c.args.statement.mode in
    let table = c.args.registry.now.table in
    let fresh = c.in_ok-fresh.fresh.items in
    let mid = c.self-2.inside.facts in
    let each = subst (λ (w : VerdictsNow). AreFresh (table_of w.facts mode) c.args.ids.now fresh) c.self.view_is c.in_ok-fresh.ensures.fresh in
    let beside = subst (λ (ns : List NameId). FreshBeside v.facts mid table mode ns) c.deref.ensures.value (subst (λ (w : VerdictsNow). FreshBeside v.facts w.facts table mode c.deref.result.now) (sym c.self-2.view_is) c.ready_rest.ensures.beside) in
    no_users v.facts mid table mode c.args.ids.now fresh each beside q (subst (λ (ns : List NameId). has_end_of_fact ns q ≡ true) c.deref-in-Err.ensures.value at)

pub remove_unused-requires-clause-unchanged : goal.remove_unused-requires-clause-unchanged
remove_unused-requires-clause-unchanged c q at =
    let v = c.args.self.now in
    let mode = c.args.statement.mode in
    let table = c.args.registry.now.table in
    let fresh = c.in_ok-fresh.fresh.items in
    let mid = c.self-2.inside.facts in
    let each = subst (λ (w : VerdictsNow). AreFresh (table_of w.facts mode) c.args.ids.now fresh) c.self.view_is c.in_ok-fresh.ensures.fresh in
    let listed = subst (λ (w : VerdictsNow). (p : ℕ) → has_end_of_fact (table_of w.facts mode).changed p ≡ true → is_fact (table_of w.facts mode) p ≡ true) c.self.view_is c.changed-changed.ensures.facts in
    let beside = subst (λ (ns : List NameId). FreshBeside v.facts mid table mode ns) c.deref.ensures.value (subst (λ (w : VerdictsNow). FreshBeside v.facts w.facts table mode c.deref.result.now) (sym c.self-2.view_is) c.ready_rest.ensures.beside) in
    not_changed v.facts mid table mode c.args.ids.now fresh each beside c.requires.rows_before.2.needed.facts listed q (subst (λ (ns : List NameId). has_end_of_fact ns q ≡ true) c.deref-in-Err.ensures.value at)

pub returns-in-Ok-clause-ready : goal.returns-in-Ok-clause-ready
returns-in-Ok-clause-ready c =
    let v = c.args.self.now in
    let s = c.args.statement in
    let mode = s.mode in
    let ids = c.args.ids.now in
    let table = c.args.registry.now.table in
    let entries = c.args.registry.now.entries in
    let fresh = c.in_ok-fresh.fresh.items in
    let new = c.ready_rest.new.self in
    let a : Addition = record { statement = c.in-Ok.statement; fresh = c.in_ok-fresh.fresh; asked = c.in-Ok.asked } in
    let each = subst (λ (w : VerdictsNow). AreFresh (table_of w.facts mode) ids fresh) c.self.view_is c.in_ok-fresh.ensures.fresh in
    let listed = subst (λ (w : VerdictsNow). (p : ℕ) → has_end_of_fact (table_of w.facts mode).changed p ≡ true → is_fact (table_of w.facts mode) p ≡ true) c.self.view_is c.changed-changed.ensures.facts in
    let below = subst (λ (w : VerdictsNow). AllByRecursion (λ j. j.ticket < w.statements.next) w.statements.rows) c.self.view_is c.lawful-2.ensures.below in
    let beside = subst (λ (ns : List NameId). FreshBeside v.facts new.facts table mode ns) c.deref.ensures.value c.ready_rest.ensures.beside in
    let ready = subst (λ (ns : List NameId). AreReady new.facts table entries mode ids ns c.in-Ok.asked.items) c.deref.ensures.value c.in-Ok.ensures.facts in
    is_addition table c.lawful.ensures v new c.requires.rows_before.0 c.requires.rows_before.2 entries s ids a c.requires.live c.requires.named each (c.in_ok-fresh.ensures.live table c.requires.live) beside ready c.ready_rest.ensures.same c.in-Ok.ensures.row below listed

pub returns-in-Ok-clause-verdicts : goal.returns-in-Ok-clause-verdicts
returns-in-Ok-clause-verdicts c rows h =
    let v = c.args.self.now in
    let s = c.args.statement in
    let mode = s.mode in
    let ids = c.args.ids.now in
    let table = c.args.registry.now.table in
    let fresh = c.in_ok-fresh.fresh.items in
    let new = c.ready_rest.new.self in
    let each = subst (λ (w : VerdictsNow). AreFresh (table_of w.facts mode) ids fresh) c.self.view_is c.in_ok-fresh.ensures.fresh in
    let beside = subst (λ (ns : List NameId). FreshBeside v.facts new.facts table mode ns) c.deref.ensures.value c.ready_rest.ensures.beside in
    let sound = subst (λ (w : VerdictsNow). AreSound w.facts.boards) c.self-2.view_is c.lawful-in-Ok.ensures in
    same_verdicts c.same_truths_judge_the_same.ensures (AreNeeded v) (AreNeededBut new s fresh) table v new rows h beside.facts c.ready_rest.ensures.same sound
    (record { facts = used_but v.facts new.facts table mode ids fresh each beside h.needed.facts; askers = c.in-Ok.ensures.asked h.needed.askers })

pub returns-in-Err-clause-err : goal.returns-in-Err-clause-err
returns-in-Err-clause-err c rows h =
    let v = c.args.self.now in
    let s = c.args.statement in
    let mode = s.mode in
    let ids = c.args.ids.now in
    let table = c.args.registry.now.table in
    let fresh = c.in_ok-fresh.fresh.items in
    let mid = c.self-2.inside.facts in
    let new : VerdictsNow = record { facts = c.remove_unused.new.self; statements = c.self-2.inside.statements } in
    let each = subst (λ (w : VerdictsNow). AreFresh (table_of w.facts mode) ids fresh) c.self.view_is c.in_ok-fresh.ensures.fresh in
    let beside = subst (λ (ns : List NameId). FreshBeside v.facts mid table mode ns) c.deref.ensures.value (subst (λ (w : VerdictsNow). FreshBeside v.facts w.facts table mode c.deref.result.now) (sym c.self-2.view_is) c.ready_rest.ensures.beside) in
    let same = subst (λ (w : VerdictsNow). SameRows v.statements w.statements) (sym c.self-2.view_is) c.ready_rest.ensures.same in
    let left = subst (λ (w : VerdictsNow). AreAskers w.statements.askers) (sym c.self-2.view_is) (c.in-Err.ensures.left h.needed.askers) in
    let used = subst (λ (ns : List NameId). AreUsedBut mid mode ns) (sym c.deref-in-Err.ensures.value) (used_but v.facts mid table mode ids fresh each beside h.needed.facts) in
    same_verdicts c.same_truths_judge_the_same.ensures (AreNeeded v) (AreNeeded new) table v new rows h (λ rows tickets f. c.remove_unused.ensures.facts table rows tickets (beside.facts rows tickets f)) same c.lawful-in-Err.ensures
    (record { facts = c.remove_unused.ensures.used used; askers = left })
