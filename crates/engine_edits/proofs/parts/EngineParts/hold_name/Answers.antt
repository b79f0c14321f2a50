use Rattle.fact_laws.specs.Shown.{holds_in}
use Rattle.fact_laws.specs.Asked.{names_of_rows}
use Rattle.engine_edits.specs.Parts.{rows_in}
use Rattle.engine_edits.proofs.PartsLemmas.{by_hold, few_holds}
use Rattle.engine_edits.proofs.parts.EngineParts.hold_name.Goals as goal

pub hold_moved-requires-clause-few : goal.hold_moved-requires-clause-few
hold_moved-requires-clause-few c id has =
    let table = c.args.self.now.registry.table in
    let rows = rows_in c.args.self.now in
    few_holds table rows (c.lawful_rows_ask_few.ensures.kept rows c.requires.kept.lawful) (λ k. c.lists_are_shown.ensures.few table (holds_in table) (names_of_rows rows) k c.requires.kept.are.held) id

pub returns-clause-are : goal.returns-clause-are
returns-clause-are c =
    let p = c.args.self.now in
    let rows = rows_in p in
    let r = c.hold_moved.new.self in
    let h = c.in_ok-id.ensures in
    let id = c.in_ok-id.id in
    let are = c.requires.kept.are in
    by_hold p.registry r p.verdicts rows id c.args.name h.named h.entries h.items (c.tables_are_lists.ensures.held p.registry.table r.table id.0 c.args.name (names_of_rows rows) h.held are.held)
    (c.held_names_keep_verdicts.ensures p.registry.table r.table id.0 c.args.name p.verdicts rows h.held are.verdicts) are
