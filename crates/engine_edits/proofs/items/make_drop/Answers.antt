use Rattle.std.proofs.Common.{true, ◌≡◌, ◌∷◌, [], refl, sym, subst, ◌∙◌}
use Rattle.std.specs.List.{list_any}
use Rattle.cpe_rows.specs.After.{after}
use Rattle.cpe_rows.specs.Names.{is_same}
use Rattle.cpe_rows.specs.declared.edit.Edit.TheVariants as edit
use Rattle.cpe_rows.specs.declared.statement.Mode.TheVariants.{Follow}
use Rattle.name_index.specs.Table.{Names}
use Rattle.name_index.specs.step_count.Within.{StepsWithin}
use Rattle.fact_laws.specs.Shown.{holds_in, name_at}
use Rattle.fact_laws.specs.Asked.{names_of_rows}
use Rattle.verdicts.specs.Verdicts.{HasVerdicts}
use Rattle.verdicts.specs.name_registry.Registered.{name_in}
use Rattle.verdicts.specs.facts.Facts.{LeadsTo}
use Rattle.verdicts.specs.facts.Looks.{item_looks}
use Rattle.engine_edits.specs.Parts.{AreOf, rows_in}
use Rattle.engine_edits.proofs.MadeLemmas.{is_there, item_dropped, reported}
use Rattle.engine_edits.proofs.items.make_drop.Given.{Over}
use Rattle.engine_edits.proofs.items.make_drop.Goals as goal
use Rattle.engine_edits.proofs.items.make_drop.Goals.{After-drop_item}

-- what the verdicts require, for the names that the registry lends
module _ (g : Over) (c : After-drop_item g) where
  there : LeadsTo c.table.result.now (rows_in c.args.parts.now).entries Follow c.args.id.0 c.deref.result.now
  there =
      let p = c.args.parts.now in
      subst (λ (t : Names). LeadsTo t (rows_in p).entries Follow c.args.id.0 c.deref.result.now) (sym c.table.ensures)
      (subst (LeadsTo p.registry.table (rows_in p).entries Follow c.args.id.0) (sym c.deref.ensures.value) c.requires.all.ends)

  rows_before : HasVerdicts c.table.result.now c.args.parts.now.verdicts (rows_in c.args.parts.now)
  rows_before = subst (λ (t : Names). HasVerdicts t c.args.parts.now.verdicts (rows_in c.args.parts.now)) (sym c.table.ensures) c.requires.all.are.verdicts

  has : list_any (is_same (name_in c.args.parts.now.registry.table c.args.id)) (rows_in c.args.parts.now).items ≡ true
  has = is_there (list_any (is_same (name_in c.args.parts.now.registry.table c.args.id)) (rows_in c.args.parts.now).items) c.requires.none

  gone : HasVerdicts c.args.parts.now.registry.table c.remove_item.new.self (after (rows_in c.args.parts.now) (edit.DropItem (name_in c.args.parts.now.registry.table c.args.id)))
  gone =
      let rows = rows_in c.args.parts.now in
      let at = subst (λ (t : Names). list_any (is_same (name_at t c.args.id)) rows.items ≡ true) (sym c.table.ensures) has in
      subst (λ (t : Names). HasVerdicts t c.remove_item.new.self (after rows (edit.DropItem (name_at t c.args.id)))) c.table.ensures (c.remove_item.ensures.verdicts rows rows_before there at)

  -- the rows without the item; its name is still held
  dropped : AreOf c.drop_item.new.self c.remove_item.new.self (after (rows_in c.args.parts.now) (edit.DropItem (name_in c.args.parts.now.registry.table c.args.id))) (name_in c.drop_item.new.self.table c.args.id ∷ [])
  dropped =
      let rows = rows_in c.args.parts.now in
      let old = c.args.parts.now.registry.table in
      let n = name_in old c.args.id in
      item_dropped c.args.parts.now.registry c.drop_item.new.self c.remove_item.new.self rows c.args.id old c.drop_item.ensures.table c.drop_item.ensures.entries c.drop_item.ensures.items
      (c.lists_are_shown.ensures.order old (holds_in old) (names_of_rows rows) (n ∷ names_of_rows (after rows (edit.DropItem n))) (c.items_arrive.ensures.kept_without rows n has) c.requires.all.are.held) refl gone

pub remove_item-requires-clause-rows_before : goal.remove_item-requires-clause-rows_before
remove_item-requires-clause-rows_before g c =
    let p = c.args.parts.now in
    let rows = rows_in p in
    let has = is_there (list_any (is_same (name_in p.registry.table c.args.id)) rows.items) c.requires.none in (
      rows,
      subst (λ (t : Names). HasVerdicts t p.verdicts rows) (sym c.table.ensures) c.requires.all.are.verdicts,
      subst (λ (t : Names). LeadsTo t rows.entries Follow c.args.id.0 c.deref.result.now) (sym c.table.ensures) (subst (LeadsTo p.registry.table rows.entries Follow c.args.id.0) (sym c.deref.ensures.value) c.requires.all.ends),
      subst (λ (t : Names). list_any (is_same (name_at t c.args.id)) rows.items ≡ true) (sym c.table.ensures) has,
    )

pub release_all-requires-clause-are : goal.release_all-requires-clause-are
release_all-requires-clause-are g c =
    let p = c.args.parts.now in
    (c.remove_item.new.self, after (rows_in p) (edit.DropItem (name_in p.registry.table c.args.id)), [], dropped g (goal.at.release_all-requires-clause-are g c).After-drop_item)

pub returns-clause-are : goal.returns-clause-are
returns-clause-are g c =
    let p = c.args.parts.now in
    c.release_all.ensures c.remove_item.new.self (after (rows_in p) (edit.DropItem (name_in p.registry.table c.args.id))) [] (dropped g (goal.at.returns-clause-are g c).After-drop_item)

pub returns-clause-changes : goal.returns-clause-changes
returns-clause-changes g c =
    let p = c.args.parts.now in
    let rows = rows_in p in
    let next = after rows (edit.DropItem (name_in p.registry.table c.args.id)) in
    let w = c.remove_item.new.self in
    reported rows next w c.changes.result (c.changes.ensures p.registry.table next (gone g (goal.at.returns-clause-changes g c).After-drop_item)) (c.remove_item.ensures.same.known ∙ c.requires.known) refl

pub returns-clause-steps : goal.returns-clause-steps
returns-clause-steps g c =
    let rows = rows_in c.args.parts.now in
    let at = (goal.at.returns-clause-steps g c).After-drop_item in
    subst (λ (t : Names). StepsWithin c.args.steps.now c.remove_item.new.steps (item_looks rows (name_at t c.args.id))) c.table.ensures (c.remove_item.ensures.steps rows (rows_before g at) (there g at))
