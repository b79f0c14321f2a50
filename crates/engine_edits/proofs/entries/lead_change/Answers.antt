use Rattle.std.proofs.Common.{◌≡◌, ℕ, List, [], Some, sym, subst, ◌∙◌}
use Rattle.cpe_rows.specs.cpe_name.Eleven.{Values}
use Rattle.cpe_rows.specs.After.{after}
use Rattle.cpe_rows.specs.Lawful.{IsDictionary}
use Rattle.cpe_rows.specs.Touching.{deprecation_changed}
use Rattle.name_index.specs.step_count.Within.{StepsWithin}
use Rattle.cpe_dictionary.specs.Kept.{rewritten, written}
use Rattle.cpe_dictionary.proofs.DictionaryLemmas.{written_changed}
use Rattle.name_index.specs.Table.{Names}
use Rattle.fact_laws.specs.Shown.{holds_in, Shows}
use Rattle.verdicts.specs.name_registry.Registered.{name_in}
use Rattle.verdicts.specs.Leads.{IsReadyLead}
use Rattle.verdicts.specs.Verdicts.{HasVerdicts}
use Rattle.engine_edits.specs.Numbered.{given, note_of}
use Rattle.engine_edits.specs.Parts.{edit_in, rows_in}
use Rattle.engine_edits.specs.declared.numbered.NumberedEdit.TheVariants as numbered
use Rattle.engine_edits.proofs.TurnedLemmas.{changed_turned, looks_turned, written_turned}
use Rattle.engine_edits.proofs.PartsLemmas.{by_lists}
use Rattle.engine_edits.proofs.entries.lead_change.Given.{Over}
use Rattle.engine_edits.proofs.entries.lead_change.Goals as goal
use Rattle.engine_edits.proofs.entries.lead_change.Goals.{After-into_parts-deprecation, After-table}

-- the entries that are written are the entries after the edit
left : (g : Over) (c : After-into_parts-deprecation g)
    → written (rewritten c.into_parts-deprecation.result.0 (Some c.into_parts-deprecation.result.1)) c.args.plan.now.number (rows_in c.args.parts.now).entries
    ≡ (after (rows_in c.args.parts.now) (edit_in c.args.parts.now (numbered.Change c.args.change))).entries
left g c =
    let rows = rows_in c.args.parts.now in
    let change = c.args.change in
    let n = name_in c.args.parts.now.registry.table change.id in
    let k = c.args.plan.now.number in
    let parts = c.into_parts-deprecation in
    written_turned rows n change.date change.comment change.turn k parts.result.0 parts.result.1 parts.ensures.deprecation parts.ensures.note
    (written_changed rows.entries n k (given change.turn) (Some (note_of change.turn change.date change.comment)) c.edits_by_number.ensures.writes c.requires.plan.place)

-- what the verdicts require, for the names that the registry lends
module _ (g : Over) (c : After-table g) where
  touches : deprecation_changed (edit_in c.args.parts.now (numbered.Change c.args.change)) ≡ Some (name_in c.args.parts.now.registry.table c.args.change.id)
  touches =
      let change = c.args.change in
      changed_turned (rows_in c.args.parts.now) (name_in c.args.parts.now.registry.table change.id) change.date change.comment change.turn

  rows_before : HasVerdicts c.table.result.now c.args.parts.now.verdicts (rows_in c.args.parts.now)
  rows_before = subst (λ (t : Names). HasVerdicts t c.args.parts.now.verdicts (rows_in c.args.parts.now)) (sym (c.table.ensures ∙ c.change.ensures.table)) c.requires.are.verdicts

  lead : IsReadyLead c.args.parts.now.verdicts c.table.result.now (rows_in c.args.parts.now) (after (rows_in c.args.parts.now) (edit_in c.args.parts.now (numbered.Change c.args.change))).entries
      (name_in c.args.parts.now.registry.table c.args.change.id) c.args.lead
  lead =
      let p = c.args.parts.now in
      let next = after (rows_in p) (edit_in p (numbered.Change c.args.change)) in
      subst (λ (t : Names). IsReadyLead p.verdicts t (rows_in p) next.entries (name_in p.registry.table c.args.change.id) c.args.lead) (sym (c.table.ensures ∙ c.change.ensures.table)) c.requires.lead

pub change-requires-clause-lawful : goal.change-requires-clause-lawful
change-requires-clause-lawful g c = subst IsDictionary (sym (left g (goal.at.change-requires-clause-lawful g c).After-into_parts-deprecation)) c.requires.left.dictionary

pub lead-requires : goal.lead-requires
lead-requires g c =
    let p = c.args.parts.now in
    let at = (goal.at.lead-requires g c).After-table in
    (rows_in p, edit_in p (numbered.Change c.args.change), name_in p.registry.table c.args.change.id, touches g at, c.requires.lawful, rows_before g at, lead g at)

pub returns-clause-are : goal.returns-clause-are
returns-clause-are g c =
    let p = c.args.parts.now in
    let rows = rows_in p in
    let n = name_in p.registry.table c.args.change.id in
    let e = edit_in p (numbered.Change c.args.change) in
    let next = after rows e in
    let ready = (goal.at.returns-clause-are g c).After-into_parts-deprecation in
    let at = (goal.at.returns-clause-are g c).After-table in
    by_lists p.registry c.change.new.self c.lead.new.self next [] c.change.ensures.table (c.change.ensures.entries ∙ left g ready) (c.change.ensures.items ∙ sym (c.deprecations_touch.ensures.items rows e n (touches g at)))
    (subst (λ (ns : List Values). Shows p.registry.table (holds_in p.registry.table) ns) (sym (c.deprecations_lead_elsewhere.ensures.kept rows e n (touches g at))) c.requires.are.held)
    (subst (λ (t : Names). HasVerdicts t c.lead.new.self next) (c.table.ensures ∙ c.change.ensures.table) (c.lead.ensures.verdicts rows e n (touches g at) (rows_before g at) (lead g at).lists))

pub returns-clause-steps : goal.returns-clause-steps
returns-clause-steps g c =
    let p = c.args.parts.now in
    let change = c.args.change in
    let n = name_in p.registry.table change.id in
    let at = (goal.at.returns-clause-steps g c).After-table in
    subst (λ (k : ℕ). StepsWithin c.args.steps.now c.lead.new.steps k) (sym (looks_turned (rows_in p) n change.date change.comment change.turn))
    (c.lead.ensures.steps (rows_in p) (edit_in p (numbered.Change change)) n (touches g at) (rows_before g at) (lead g at).lists)
