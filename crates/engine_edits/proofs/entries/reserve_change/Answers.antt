use Rattle.std.proofs.Common.{◌≡◌, List, [], Some, refl, sym, ap, subst}
use Rattle.std.specs.Prelude.{position}
use Rattle.cpe_rows.specs.After.{after}
use Rattle.cpe_rows.specs.Rows.{is_named, Rows}
use Rattle.cpe_rows.specs.declared.entry.Entry.{Entry}
use Rattle.cpe_dictionary.specs.Plans.{IsAllowed}
use Rattle.name_index.specs.Table.{IsLive, Names}
use Rattle.verdicts.specs.Leads.{IsReadyLead}
use Rattle.verdicts.specs.Verdicts.{HasVerdicts}
use Rattle.verdicts.specs.name_registry.Registered.{name_in}
use Rattle.engine_edits.specs.Numbered.{given, note_of, turned_entry}
use Rattle.engine_edits.specs.Parts.{rows_in}
use Rattle.engine_edits.specs.declared.parts.EngineParts.{EngineParts}
use Rattle.engine_edits.proofs.ChangeLemmas.{by_plan}
use Rattle.engine_edits.proofs.ReadyLemmas.{are_still, same_parts}
use Rattle.engine_edits.proofs.TurnedLemmas.{after_turned}
use Rattle.engine_edits.proofs.entries.reserve_change.Goals as goal

pub ready_lead-requires : goal.ready_lead-requires
ready_lead-requires c =
    let p = c.args.parts.now in
    let same = c.in_ok-note.ensures.same in
    let id = c.args.change.now.id in
    let plan = c.requires.plan in
    record {
      live = subst (λ (t : Names). IsLive t id.0) (sym same.table) c.requires.live;
      number = subst (λ (t : Names). position (is_named (name_in t id)) c.reserve_change.new.self.entries ≡ Some c.args.plan.now.number) (sym same.table)
          (subst (λ (es : List Entry). position (is_named (name_in p.registry.table id)) es ≡ Some c.args.plan.now.number) (sym same.entries) plan.place);
      allowed = subst (λ (es : List Entry). IsAllowed es c.args.plan.now.number c.args.plan.now.next) (sym same.entries) plan.allowed;
      rows_before = (
        rows_in p,
        record {
          lawful = c.requires.lawful;
          verdicts = subst (λ (t : Names). HasVerdicts t p.verdicts (rows_in p)) (sym same.table) c.requires.are.verdicts;
          entries = sym same.entries;
          items = sym same.items;
        },
      );
    }

pub returns-clause-lead : goal.returns-clause-lead
returns-clause-lead c =
    let p = c.args.parts.now in
    let rows = rows_in p in
    let r = c.reserve_change.new.self in
    let same = c.in_ok-note.ensures.same in
    let change = c.args.change.now in
    let n = name_in p.registry.table change.id in
    let e = turned_entry n change.turn change.date change.comment in
    let left = by_plan rows.entries c.edits_by_number.ensures.writes n (given change.turn) (Some (note_of change.turn change.date change.comment)) c.args.plan.now (after rows e).entries c.requires.plan
    (ap (λ (x : Rows). x.entries) (after_turned rows n change.date change.comment change.turn)) in
    let present = subst (λ (t : Names). HasVerdicts t p.verdicts rows) (sym same.table) c.requires.are.verdicts in
    subst (λ (t : Names). IsReadyLead c.ready_lead.new.self r.table rows (after rows e).entries (name_in t change.id) c.in_ok-lead.lead) same.table
    (c.in_ok-lead.ensures.lead rows (after rows e).entries (record { lawful = c.requires.lawful; verdicts = present; entries = sym same.entries; items = sym same.items }) left)

pub returns-clause-are : goal.returns-clause-are
returns-clause-are c =
    let p = c.args.parts.now in
    let rows = rows_in p in
    let same = c.in_ok-note.ensures.same in
    let present = subst (λ (t : Names). HasVerdicts t p.verdicts rows) (sym same.table) c.requires.are.verdicts in
    are_still p.registry c.reserve_change.new.self p.verdicts c.ready_lead.new.self rows [] same (c.in_ok-lead.ensures.verdicts p.registry.table rows c.requires.are.verdicts) c.requires.are

pub returns-clause-same : goal.returns-clause-same
returns-clause-same c =
    let p = c.args.parts.now in
    let q : EngineParts = record p { registry = c.reserve_change.new.self; verdicts = c.ready_lead.new.self } in
    same_parts p q c.in_ok-note.ensures.same c.in_ok-lead.ensures.same refl

pub returns-in_err-lead-clause-are : goal.returns-in_err-lead-clause-are
returns-in_err-lead-clause-are c =
    let p = c.args.parts.now in
    let rows = rows_in p in
    are_still p.registry c.reserve_change.new.self p.verdicts c.ready_lead.new.self rows [] c.in_ok-note.ensures.same (c.in_err-lead.ensures.verdicts p.registry.table rows c.requires.are.verdicts) c.requires.are
