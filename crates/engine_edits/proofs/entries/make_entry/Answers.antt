use Rattle.std.proofs.Common.{◌∷◌, [], sym, ◌∙◌}
use Rattle.cpe_rows.specs.After.{after}
use Rattle.cpe_rows.specs.declared.edit.Edit.TheVariants as edit
use Rattle.cpe_dictionary.specs.Kept.{new_entry}
use Rattle.fact_laws.specs.Shown.{holds_in}
use Rattle.fact_laws.specs.Asked.{names_of_rows}
use Rattle.verdicts.specs.name_registry.Registered.{name_in}
use Rattle.engine_edits.specs.Parts.{rows_in}
use Rattle.engine_edits.proofs.PartsLemmas.{by_lists}
use Rattle.engine_edits.proofs.entries.make_entry.Goals as goal

pub add_entry-requires-clause-lawful : goal.add_entry-requires-clause-lawful
add_entry-requires-clause-lawful c =
    let p = c.args.parts.now in
    let rows = rows_in p in
    let e = edit.Entry (new_entry (name_in p.registry.table c.args.id) c.args.title c.args.provenance) in
    (c.rows_stay_lawful.ensures.kept rows (after rows e) e c.requires.accepted).dictionary

pub returns-clause-are : goal.returns-clause-are
returns-clause-are c =
    let p = c.args.parts.now in
    let rows = rows_in p in
    let entry = new_entry (name_in p.registry.table c.args.id) c.args.title c.args.provenance in
    let next = after rows (edit.Entry entry) in
    let are = c.requires.all.are in
    let add = c.add_entry.ensures in
    by_lists p.registry c.add_entry.new.self p.verdicts next [] add.table add.entries add.items
    (c.lists_are_shown.ensures.order p.registry.table (holds_in p.registry.table) (entry.name ∷ names_of_rows rows) (names_of_rows next) (c.entries_lead_to_themselves.ensures.kept rows next entry c.requires.accepted) are.held)
    (c.new_entries_change_no_verdict.ensures p.registry.table p.verdicts rows next entry c.requires.accepted are.verdicts)

pub returns-clause-changes : goal.returns-clause-changes
returns-clause-changes c =
    let p = c.args.parts.now in
    let rows = rows_in p in
    let entry = new_entry (name_in p.registry.table c.args.id) c.args.title c.args.provenance in
    c.into_list.ensures ∙ c.requires.empty ∙ sym (c.entries_change_nothing.ensures.changes rows (after rows (edit.Entry entry)) entry c.requires.accepted)
