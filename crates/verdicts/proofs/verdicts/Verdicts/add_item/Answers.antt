use Rattle.std.proofs.Common.{length, refl, sym, ap, subst, ◌∙◌}
use Rattle.cpe_rows.specs.After.{after}
use Rattle.cpe_rows.specs.Rows.{Rows}
use Rattle.cpe_rows.specs.declared.edit.Edit.TheVariants as edit
use Rattle.facts.specs.fact_laws.Shown.{name_at}
use Rattle.facts.proofs.PutLemmas.{both_changed}
use Rattle.verdicts.specs.Items.{HasRoomForItem}
use Rattle.verdicts.specs.Verdicts.{checks_in, HasVerdicts, known_in, statements_in, tickets_in, VerdictsNow}
use Rattle.verdicts.proofs.JudgeLemmas.{refreshed, same_statements, users_of_all}
use Rattle.verdicts.proofs.verdicts.Verdicts.add_item.Goals as goal

pub add_item-requires : goal.add_item-requires
add_item-requires g c =
    let table = c.args.table.now in
    let rows_before = c.requires.rows_before in
    let rows = rows_before.0 in
    let h = subst (λ (w : VerdictsNow). HasVerdicts table w rows) (sym c.self.view_is) rows_before.2 in
    let room = subst (λ (w : VerdictsNow). HasRoomForItem w.facts table (length c.args.ends.now)) (sym c.self.view_is) c.requires.room in
    record {
      live = c.requires.live;
      wide = room.wide;
      wide_follow = room.wide_follow;
      room = room.room;
      room_follow = room.room_follow;
      rows_before = (rows, tickets_in c.self.inside.statements.rows, rows_before.1, h.facts, rows_before.3);
    }

pub returns-clause-verdicts : goal.returns-clause-verdicts
returns-clause-verdicts g c rows rows_before leads =
    let v : VerdictsNow = record { facts = c.self.inside.facts; statements = c.self.inside.statements } in
    let table = c.args.table.now in
    let h = subst (λ (w : VerdictsNow). HasVerdicts table w rows) (sym c.self.view_is) rows_before in
    let next : Rows = after rows (edit.Item (name_at table c.args.item)) in
    let new = c.add_item.new.self in
    let moved = c.add_item.ensures in
    refreshed c.same_truths_judge_the_same.ensures c.refreshes_judge.ensures table v new c.refresh.new.statements rows next h (moved.facts rows (tickets_in v.statements.rows) h.facts leads) (moved.used h.needed.facts) c.lawful.ensures c.refresh.ensures.room.askers refl refl
    (both_changed v.facts new moved.changed moved.changed_follow) c.refresh.ensures.rows c.refresh.ensures.checks

pub returns-clause-same : goal.returns-clause-same
returns-clause-same g c =
    let v : VerdictsNow = record { facts = c.self.inside.facts; statements = c.self.inside.statements } in
    let same = same_statements v c.add_item.new.self c.refresh.new.statements (users_of_all c.add_item.new.self) c.refresh.ensures.rows in
    record { statements = same.0 ∙ ap statements_in c.self.view_is; checks = c.refresh.ensures.checks ∙ ap checks_in c.self.view_is; known = same.1 ∙ ap known_in c.self.view_is }

pub returns-clause-steps : goal.returns-clause-steps
returns-clause-steps g c rows rows_before leads =
    let table = c.args.table.now in
    let h = subst (λ (w : VerdictsNow). HasVerdicts table w rows) (sym c.self.view_is) rows_before in
    c.add_item.ensures.steps rows (tickets_in c.self.inside.statements.rows) h.facts leads
