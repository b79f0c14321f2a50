use Rattle.std.proofs.Common.{◌∷◌, List, [], length, refl, sym, subst, ◌∙◌}
use Rattle.cpe_rows.specs.After.{after}
use Rattle.cpe_rows.specs.declared.edit.Edit.TheVariants as edit
use Rattle.cpe_rows.specs.declared.statement.Mode.TheVariants.{Follow}
use Rattle.name_index.specs.Table.{Names}
use Rattle.name_index.specs.step_count.Within.{StepsWithin}
use Rattle.name_index.specs.declared.table.NameId.{NameId}
use Rattle.fact_laws.specs.Shown.{holds_in, name_at}
use Rattle.fact_laws.specs.Asked.{names_of_rows}
use Rattle.verdicts.specs.Items.{HasRoomForItem}
use Rattle.verdicts.specs.Verdicts.{HasVerdicts}
use Rattle.verdicts.specs.name_registry.Registered.{name_in}
use Rattle.verdicts.specs.facts.Facts.{LeadsTo}
use Rattle.verdicts.specs.facts.Looks.{item_looks}
use Rattle.engine_edits.specs.Parts.{rows_in}
use Rattle.engine_edits.proofs.MadeLemmas.{reported}
use Rattle.engine_edits.proofs.PartsLemmas.{by_lists}
use Rattle.engine_edits.proofs.items.make_item.Given.{Over}
use Rattle.engine_edits.proofs.items.make_item.Goals as goal
use Rattle.engine_edits.proofs.items.make_item.Goals.{After-deref}

-- what the verdicts require, for the names that the registry lends
module _ (g : Over) (c : After-deref g) where
  there : LeadsTo c.table.result.now (rows_in c.args.parts.now).entries Follow c.args.id.0 c.deref.result.now
  there =
      let p = c.args.parts.now in
      subst (λ (t : Names). LeadsTo t (rows_in p).entries Follow c.args.id.0 c.deref.result.now) (sym (c.table.ensures ∙ c.add_item.ensures.table))
      (subst (LeadsTo p.registry.table (rows_in p).entries Follow c.args.id.0) (sym c.deref.ensures.value) c.requires.all.ends)

  rows_before : HasVerdicts c.table.result.now c.args.parts.now.verdicts (rows_in c.args.parts.now)
  rows_before =
      let p = c.args.parts.now in
      subst (λ (t : Names). HasVerdicts t p.verdicts (rows_in p)) (sym (c.table.ensures ∙ c.add_item.ensures.table)) c.requires.all.are.verdicts

pub add_item-requires-2-clause-room : goal.add_item-requires-2-clause-room
add_item-requires-2-clause-room g c =
    let p = c.args.parts.now in
    subst (λ (t : Names). HasRoomForItem p.verdicts.facts t (length c.deref.result.now)) (sym (c.table.ensures ∙ c.add_item.ensures.table))
    (subst (λ (xs : List NameId). HasRoomForItem p.verdicts.facts p.registry.table (length xs)) (sym c.deref.ensures.value) c.requires.all.boards)

pub add_item-requires-2-clause-rows_before : goal.add_item-requires-2-clause-rows_before
add_item-requires-2-clause-rows_before g c =
    let at = (goal.at.add_item-requires-2-clause-rows_before g c).After-deref in
    (rows_in c.args.parts.now, c.requires.lawful, rows_before g at, there g at)

pub returns-clause-are : goal.returns-clause-are
returns-clause-are g c =
    let p = c.args.parts.now in
    let rows = rows_in p in
    let old = p.registry.table in
    let id = c.args.id in
    let n = name_in old id in
    let next = after rows (edit.Item n) in
    let add = c.add_item.ensures in
    let at = (goal.at.returns-clause-are g c).After-deref in
    by_lists p.registry c.add_item.new.self c.add_item-2.new.self next [] add.table add.entries add.items
    (c.lists_are_shown.ensures.order old (holds_in old) (n ∷ names_of_rows rows) (names_of_rows next) (c.items_arrive.ensures.kept rows n) c.requires.all.are.held)
    (subst (λ (t : Names). HasVerdicts t c.add_item-2.new.self (after rows (edit.Item (name_at t id)))) (c.table.ensures ∙ add.table) (c.add_item-2.ensures.verdicts rows (rows_before g at) (there g at)))

pub returns-clause-changes : goal.returns-clause-changes
returns-clause-changes g c =
    let p = c.args.parts.now in
    let rows = rows_in p in
    let id = c.args.id in
    let next = after rows (edit.Item (name_in p.registry.table id)) in
    let at = (goal.at.returns-clause-changes g c).After-deref in
    let w = c.add_item-2.new.self in
    let present = subst (λ (t : Names). HasVerdicts t w (after rows (edit.Item (name_at t id)))) (c.table.ensures ∙ c.add_item.ensures.table) (c.add_item-2.ensures.verdicts rows (rows_before g at) (there g at)) in
    reported rows next w c.changes.result (c.changes.ensures p.registry.table next present) (c.add_item-2.ensures.same.known ∙ c.requires.known) refl

pub returns-clause-steps : goal.returns-clause-steps
returns-clause-steps g c =
    let rows = rows_in c.args.parts.now in
    let at = (goal.at.returns-clause-steps g c).After-deref in
    subst (λ (t : Names). StepsWithin c.args.steps.now c.add_item-2.new.steps (item_looks rows (name_at t c.args.id))) (c.table.ensures ∙ c.add_item.ensures.table)
    (c.add_item-2.ensures.steps rows (rows_before g at) (there g at))
