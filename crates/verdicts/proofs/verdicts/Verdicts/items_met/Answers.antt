use Rattle.std.proofs.Common.{◌∙◌, count_by, sym, subst}
use Rattle.name_index.specs.step_count.Within.{StepsWithin}
use Rattle.cpe_rows.specs.cpe_relation.Maybe.{maybe}
use Rattle.cpe_rows.specs.cpe_relation.NameRelation.{covers}
use Rattle.name_index.specs.declared.products.Side.TheVariants as side
use Rattle.name_index.specs.Index.{ids}
use Rattle.name_index.specs.declared.table.NameId.{NameId}
use Rattle.name_index.specs.Table.{kept_at}
use Rattle.facts.specs.level_board.Targets.{is_met}
use Rattle.facts.specs.level_board.Board.{FitsBoard, target_ids}
use Rattle.cpe_rows.specs.Rows.{Rows}
use Rattle.cpe_rows.specs.declared.statement.Mode.TheVariants.{Plain}
use Rattle.facts.specs.fact_laws.Asked.{target_names}
use Rattle.facts.specs.fact_laws.Shown.{near_names}
use Rattle.fact_boards.specs.Kept.{AreFactNames, Boards}
use Rattle.verdicts.specs.Rows.{AreOfRows}
use Rattle.verdicts.specs.Verdicts.{HasVerdicts, VerdictsNow}
use Rattle.verdicts.proofs.ItemsTo.{found_live, items_near, items_ordered, items_passing, passing_there}
use Rattle.verdicts.proofs.verdicts.Verdicts.items_met.Given.{Over}
use Rattle.verdicts.proofs.verdicts.Verdicts.items_met.Goals as goal
use Rattle.verdicts.proofs.verdicts.Verdicts.items_met.Goals.{After-met}

pub met-requires-clause-fits : goal.met-requires-clause-fits
met-requires-clause-fits g c =
    let table = c.args.registry.now.table in
    let h = subst (λ (v : VerdictsNow). HasVerdicts table v c.requires.rows_before.0) (sym c.self.view_is) c.requires.rows_before.1.verdicts in
    subst (λ (b : Boards). FitsBoard b.plain c.table-table.result.now) (sym c.boards.ensures) (subst (FitsBoard c.self.inside.facts.boards.plain) (sym c.table-table.ensures) h.facts.plain.fits)

module _ (g : Over) (c : After-met g) (rows : Rows) (are : AreOfRows c.args.registry.now c.args.self.now rows) where
  shown : HasVerdicts c.args.registry.now.table (record { facts = c.self.inside.facts; statements = c.self.inside.statements }) rows
  shown = subst (λ (v : VerdictsNow). HasVerdicts c.args.registry.now.table v rows) (sym c.self.view_is) are.verdicts

  within : StepsWithin c.args.steps.now c.met.new.steps (near_names side.Source c.args.name.now.product rows.items)
  within =
      let table = c.args.registry.now.table in
      let board = c.self.inside.facts.boards.plain in
      let asked = c.args.name.now.product in
      subst (StepsWithin c.args.steps.now c.met.new.steps)
      ((λ i. count_by (is_met (c.table-table.ensures i) asked) (ids (target_ids (c.boards.ensures i).plain)))
      ∙ items_near table board rows c.lawful.ensures (c.lawful-2.ensures.on Plain) shown.facts.plain.shows.there are.lawful.items_differ asked)
      c.met.ensures.steps

pub returns-in_err-found-clause-steps : goal.returns-in_err-found-clause-steps
returns-in_err-found-clause-steps g c rows are = within g (goal.at.returns-in_err-found-clause-steps g c).After-met rows are

pub items_in_order-requires : goal.items_in_order-requires
items_in_order-requires g c =
    let table = c.args.registry.now.table in
    let boards = c.self.inside.facts.boards in
    let n = c.args.name.now in
    let rows = c.requires.rows_before.0 in
    let h = shown g (goal.at.items_in_order-requires g c).After-met rows c.requires.rows_before.1 in
    let found = c.in_ok-found.found.covered.items in
    subst (AreFactNames table) (sym c.deref.ensures.value)
    (found_live table boards.plain (target_names rows Plain) (λ (id : NameId). covers n (kept_at table id.0).name) found (c.lawful-2.ensures.on Plain) h.facts.plain.shows.there
    (passing_there c.table-table.result.now table c.boards.result.now boards Plain (covers n) found c.table-table.ensures c.boards.ensures c.in_ok-found.ensures.covered))

pub returns-in_err-covered-clause-steps : goal.returns-in_err-covered-clause-steps
returns-in_err-covered-clause-steps g c rows are = within g (goal.at.returns-in_err-covered-clause-steps g c).After-met rows are

pub items_in_order-requires-2 : goal.items_in_order-requires-2
items_in_order-requires-2 g c =
    let table = c.args.registry.now.table in
    let boards = c.self.inside.facts.boards in
    let n = c.args.name.now in
    let rows = c.requires.rows_before.0 in
    let h = shown g (goal.at.items_in_order-requires-2 g c).After-met rows c.requires.rows_before.1 in
    let found = c.in_ok-found.found.maybe.items in
    subst (AreFactNames table) (sym c.deref-2.ensures.value)
    (found_live table boards.plain (target_names rows Plain) (λ (id : NameId). maybe n (kept_at table id.0).name) found (c.lawful-2.ensures.on Plain) h.facts.plain.shows.there
    (passing_there c.table-table.result.now table c.boards.result.now boards Plain (maybe n) found c.table-table.ensures c.boards.ensures c.in_ok-found.ensures.maybe))

pub returns-in_err-maybes-clause-steps : goal.returns-in_err-maybes-clause-steps
returns-in_err-maybes-clause-steps g c rows are = within g (goal.at.returns-in_err-maybes-clause-steps g c).After-met rows are

pub returns-clause-covered : goal.returns-clause-covered
returns-clause-covered g c rows are =
    let r = c.args.registry.now in
    let boards = c.self.inside.facts.boards in
    let n = c.args.name.now in
    let h = shown g (goal.at.returns-clause-covered g c).After-met rows are in
    let found = c.in_ok-found.found.covered.items in
    let passing = items_passing r.table boards.plain rows c.lawful.ensures (c.lawful-2.ensures.on Plain) h.facts.plain.shows.there are.lawful.items_differ (covers n) found
    (passing_there c.table-table.result.now r.table c.boards.result.now boards Plain (covers n) found c.table-table.ensures c.boards.ensures c.in_ok-found.ensures.covered) in
    items_ordered r rows (covers n) found c.deref.result.now c.in_ok-covered.covered are.items c.deref.ensures.value passing c.in_ok-covered.ensures

pub returns-clause-maybe : goal.returns-clause-maybe
returns-clause-maybe g c rows are =
    let r = c.args.registry.now in
    let boards = c.self.inside.facts.boards in
    let n = c.args.name.now in
    let h = shown g (goal.at.returns-clause-maybe g c).After-met rows are in
    let found = c.in_ok-found.found.maybe.items in
    let passing = items_passing r.table boards.plain rows c.lawful.ensures (c.lawful-2.ensures.on Plain) h.facts.plain.shows.there are.lawful.items_differ (maybe n) found
    (passing_there c.table-table.result.now r.table c.boards.result.now boards Plain (maybe n) found c.table-table.ensures c.boards.ensures c.in_ok-found.ensures.maybe) in
    items_ordered r rows (maybe n) found c.deref-2.result.now c.in_ok-maybes.maybes are.items c.deref-2.ensures.value passing c.in_ok-maybes.ensures

pub returns-clause-steps : goal.returns-clause-steps
returns-clause-steps g c rows are = within g (goal.at.returns-clause-steps g c).After-met rows are
