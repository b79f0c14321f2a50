use Rattle.std.proofs.Common.{sym, ap, ◌∙◌}
use Rattle.cpe_rows.specs.After.{after}
use Rattle.cpe_rows.specs.Rows.{Rows}
use Rattle.verdicts.specs.name_registry.Registered.{name_in}
use Rattle.engine_edits.specs.Numbered.{turned_entry}
use Rattle.engine_edits.specs.Parts.{rows_in}
use Rattle.engine_edits.proofs.TurnedLemmas.{after_turned, changes_turned}
use Rattle.engine_edits.proofs.MadeLemmas.{reported}
use Rattle.engine_edits.proofs.entries.make_change.Goals as goal

pub lead_change-requires-clause-left : goal.lead_change-requires-clause-left
lead_change-requires-clause-left g c =
    let p = c.args.parts.now in
    let rows = rows_in p in
    let change = c.args.change.change in
    let e = turned_entry (name_in p.registry.table change.id) change.turn change.date change.comment in
    c.rows_stay_lawful.ensures.kept rows (after rows e) e c.requires.accepted

pub returns-clause-changes : goal.returns-clause-changes
returns-clause-changes g c =
    let p = c.args.parts.now in
    let rows = rows_in p in
    let change = c.args.change.change in
    let n = name_in p.registry.table change.id in
    let next = after rows (turned_entry n change.turn change.date change.comment) in
    let new = c.lead_change.new.parts in
    reported rows next new.verdicts c.changes.result (c.changes.ensures new.registry.table next c.lead_change.ensures.are.verdicts) (c.lead_change.ensures.known ∙ c.requires.known)
    (ap (λ (r : Rows). r.statements) (after_turned rows n change.date change.comment change.turn))
    ∙ sym (changes_turned rows n change.date change.comment change.turn)
