use Rattle.std.proofs.Common.{◌++◌, ◌∷◌, List, [], Some, None, length, refl, sym, subst, ◌∙◌}
use Rattle.cpe_rows.specs.cpe_name.Eleven.{Values}
use Rattle.cpe_rows.specs.After.{after}
use Rattle.cpe_rows.specs.Changes.{change}
use Rattle.cpe_rows.specs.declared.edit.Edit.TheVariants as edit
use Rattle.name_index.specs.Elements.{SameElements}
use Rattle.name_index.specs.Table.{Names}
use Rattle.fact_laws.specs.Shown.{holds_in, names_at}
use Rattle.fact_laws.specs.Asked.{names_of_rows}
use Rattle.verdicts.specs.Addition.{HasVerdictsBeside, IsAddition}
use Rattle.verdicts.specs.Verdicts.{HasVerdicts}
use Rattle.engine_edits.specs.Parts.{rows_in}
use Rattle.engine_edits.specs.Ready.{added}
use Rattle.engine_edits.proofs.StatementLemmas.{put_reported}
use Rattle.engine_edits.proofs.statements.make_statement.Given.{Over}
use Rattle.engine_edits.proofs.statements.make_statement.Goals as goal
use Rattle.engine_edits.proofs.statements.make_statement.Goals.{After-add_statement}

pub add_statement-requires : goal.add_statement-requires
add_statement-requires g c =
    let p = c.args.parts.now in
    let rows = rows_in p in
    let a = c.args.addition in
    let all = c.requires.all in (
      rows,
      added a,
      c.args.ids.items,
      c.requires.lawful,
      subst (λ (t : Names). HasVerdictsBeside t p.verdicts rows (added a) a) (sym c.table-table.ensures) all.verdicts,
      subst (λ (t : Names). IsAddition p.verdicts t rows.entries (added a) c.args.ids.items a) (sym c.table-table.ensures) all.addition,
    )

-- what an added statement leaves, over the table that the registry lends
module _ (g : Over) (c : After-add_statement g) where
  ready : IsAddition c.args.parts.now.verdicts c.table-table.result.now (rows_in c.args.parts.now).entries (added c.args.addition) c.args.ids.items c.args.addition
  ready = subst (λ (t : Names). IsAddition c.args.parts.now.verdicts t (rows_in c.args.parts.now).entries (added c.args.addition) c.args.ids.items c.args.addition) (sym c.table-table.ensures) c.requires.all.addition

  beside : HasVerdictsBeside c.table-table.result.now c.args.parts.now.verdicts (rows_in c.args.parts.now) (added c.args.addition) c.args.addition
  beside = subst (λ (t : Names). HasVerdictsBeside t c.args.parts.now.verdicts (rows_in c.args.parts.now) (added c.args.addition) c.args.addition) (sym c.table-table.ensures) c.requires.all.verdicts

  present : HasVerdicts c.args.parts.now.registry.table c.add_statement.new.self (after (rows_in c.args.parts.now) (edit.PutStatement (added c.args.addition)))
  present =
      let rows = rows_in c.args.parts.now in
      subst (λ (t : Names). HasVerdicts t c.add_statement.new.self (after rows (edit.PutStatement (added c.args.addition)))) c.table-table.ensures
      ((c.add_statement.ensures (added c.args.addition) c.args.ids.items rows.entries ready).verdicts rows refl beside)

pub returns-clause-are : goal.returns-clause-are
returns-clause-are g c =
    let p = c.args.parts.now in
    let rows = rows_in p in
    let table = p.registry.table in
    let s = added c.args.addition in
    let all = c.requires.all in
    let next = after rows (edit.PutStatement s) in
    record {
      entries = refl;
      items = refl;
      held = c.lists_are_shown.ensures.order table (holds_in table) (names_at table c.args.ids.items ++ names_of_rows rows) (names_of_rows next)
          (subst (λ (ns : List Values). SameElements (ns ++ names_of_rows rows) (names_of_rows next)) (sym all.numbered.names) (c.statements_ask.ensures.kept rows s)) all.held;
      verdicts = present g (goal.at.returns-clause-are g c).After-add_statement;
    }

pub returns-clause-changes : goal.returns-clause-changes
returns-clause-changes g c =
    let rows = rows_in c.args.parts.now in
    let s = added c.args.addition in
    let next = after rows (edit.PutStatement s) in
    let truth = c.truth_at.ensures c.args.parts.now.registry.table next (present g (goal.at.returns-clause-changes g c).After-add_statement) in
    c.put_change.ensures
    ∙ put_reported rows next s c.len-place.result c.truth_at.result c.len-place.ensures refl truth
    ∙ (λ k. change (length rows.statements) None (Some (c.statements_are_independent.ensures.put rows s s k)) ∷ [])
    ∙ sym (c.statements_are_independent.ensures.put_changes rows s)

pub returns-clause-steps : goal.returns-clause-steps
returns-clause-steps g c =
    let rows = rows_in c.args.parts.now in
    let at = (goal.at.returns-clause-steps g c).After-add_statement in
    (c.add_statement.ensures (added c.args.addition) c.args.ids.items rows.entries (ready g at)).steps rows refl (beside g at)
