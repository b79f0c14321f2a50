use Rattle.std.proofs.Common.{◌≡◌, ◌++◌, List, [], refl, sym, subst}
use Rattle.cpe_rows.specs.cpe_name.Eleven.{Values}
use Rattle.cpe_rows.specs.After.{after}
use Rattle.cpe_rows.specs.FactNames.{fact_names}
use Rattle.cpe_rows.specs.Rows.{has_id}
use Rattle.cpe_rows.specs.declared.edit.Edit.TheVariants as edit
use Rattle.name_index.specs.Elements.{SameElements}
use Rattle.name_index.specs.Table.{Names}
use Rattle.fact_laws.specs.Shown.{holds_in, names_at}
use Rattle.fact_laws.specs.Asked.{names_of_rows}
use Rattle.verdicts.specs.Verdicts.{HasVerdicts}
use Rattle.engine_edits.specs.Parts.{AreOf, rows_in}
use Rattle.engine_edits.proofs.PartsLemmas.{no_others}
use Rattle.engine_edits.proofs.MadeLemmas.{found_some}
use Rattle.engine_edits.proofs.statements.take_statement.Given.{Over}
use Rattle.engine_edits.proofs.statements.take_statement.Goals as goal
use Rattle.engine_edits.proofs.statements.take_statement.Goals.{After-deref}

-- the rows without the statement; the names of its facts are still held
held : (g : Over) (c : After-deref g) → AreOf c.args.parts.now.registry c.remove_statement-ids.new.self (after (rows_in c.args.parts.now) (edit.DropStatement c.args.id.now)) (names_at c.args.parts.now.registry.table c.deref.result.now ++ [])
held g c =
    let p = c.args.parts.now in
    let rows = rows_in p in
    let table = p.registry.table in
    let id = c.args.id.now in
    let are = c.requires.are in
    let next = after rows (edit.DropStatement id) in
    let found = found_some (has_id id) rows.statements c.requires.has in
    let at = c.table-table.ensures in
    let rows_before = subst (λ (t : Names). HasVerdicts t p.verdicts rows) (sym at) are.verdicts in
    let w = c.remove_statement-ids.new.self in
    let names = subst (λ (t : Names). names_at t c.remove_statement-ids.result.items ≡ fact_names found.0.test) at (c.remove_statement-ids.ensures.named found.0 found.1) in
    let here : AreOf p.registry w next (names_at table c.remove_statement-ids.result.items) = record {
      entries = refl;
      items = refl;
      held = c.lists_are_shown.ensures.order table (holds_in table) (names_of_rows rows) (names_at table c.remove_statement-ids.result.items ++ names_of_rows next)
          (subst (λ (ns : List Values). SameElements (names_of_rows rows) (ns ++ names_of_rows next)) (sym names) (c.statements_ask.ensures.kept_without rows id found.0 found.1)) are.held;
      verdicts = subst (λ (t : Names). HasVerdicts t w next) at (c.remove_statement-ids.ensures.verdicts rows rows_before);
    } in
    no_others p.registry w next c.remove_statement-ids.result.items c.deref.result.now c.deref.ensures.value here

pub release_all-requires-clause-are : goal.release_all-requires-clause-are
release_all-requires-clause-are g c = (c.remove_statement-ids.new.self, after (rows_in c.args.parts.now) (edit.DropStatement c.args.id.now), [], held g (goal.at.release_all-requires-clause-are g c).After-deref)

pub returns-clause-are : goal.returns-clause-are
returns-clause-are g c = c.release_all.ensures c.remove_statement-ids.new.self (after (rows_in c.args.parts.now) (edit.DropStatement c.args.id.now)) [] (held g (goal.at.returns-clause-are g c).After-deref)
