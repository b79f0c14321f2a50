use Rattle.std.proofs.Common.{arith, ◌++◌, List, [], sym, subst}
use Rattle.std.proofs.lemmas.List.{append-nil}
use Rattle.cpe_rows.specs.cpe_name.Eleven.{Values}
use Rattle.name_index.specs.declared.table.NameId.{NameId}
use Rattle.fact_laws.specs.Shown.{names_at}
use Rattle.fact_laws.specs.Asked.{names_of_rows}
use Rattle.engine_edits.specs.Parts.{AreOf, rows_in}
use Rattle.engine_edits.proofs.PartsLemmas.{no_others, rows_are}
use Rattle.engine_edits.proofs.NumberLemmas.{few_facts}
use Rattle.engine_edits.proofs.parts.EngineParts.hold_statement.Goals as goal
use Rattle.engine_edits.proofs.parts.EngineParts.hold_statement.Goals.{After-deref, After-hold_facts}

-- the names that are held by then, besides the names of the rows
held : (c : After-hold_facts) → AreOf c.hold_facts.new.registry c.args.self.now.verdicts (rows_in c.args.self.now) (names_at c.hold_facts.new.registry.table c.hold_facts.new.ids.items)
held c =
    let p = c.args.self.now in
    let rows = rows_in p in
    let r = c.hold_facts.new.registry in
    let none = subst (λ (ids : List NameId). AreOf p.registry p.verdicts rows (names_at p.registry.table ids ++ [])) (sym c.new-ids.ensures.items) c.requires.kept.are in
    subst (λ (ns : List Values). AreOf r p.verdicts rows ns) (append-nil (names_at r.table c.hold_facts.new.ids.items)) (c.hold_facts.ensures.grows.are p.verdicts rows [] none)

-- the names of the numbers that are lent, besides the names of the rows
lent : (c : After-deref) → AreOf c.hold_facts.new.registry c.args.self.now.verdicts (rows_in c.args.self.now) (names_at c.hold_facts.new.registry.table c.hold_facts.new.ids.items)
    → AreOf c.hold_facts.new.registry c.args.self.now.verdicts (rows_in c.args.self.now) (names_at c.hold_facts.new.registry.table c.deref.result.now ++ [])
lent c = no_others c.hold_facts.new.registry c.args.self.now.verdicts (rows_in c.args.self.now) c.hold_facts.new.ids.items c.deref.result.now c.deref.ensures.value

pub hold_facts-requires-clause-few : goal.hold_facts-requires-clause-few
hold_facts-requires-clause-few c =
    let rows = rows_in c.args.self.now in
    let kept = c.requires.kept in
    (names_of_rows rows, kept.are.held, omega (arith, c.lawful_rows_ask_few.ensures.kept rows kept.lawful, few_facts rows.statements c.args.statement c.requires.none))

pub release_all-requires-clause-are : goal.release_all-requires-clause-are
release_all-requires-clause-are c =
    let at = goal.at.release_all-requires-clause-are c in
    (c.args.self.now.verdicts, rows_in c.args.self.now, [], lent at.After-deref (held at.After-hold_facts))

pub returns-in-Ok-clause-are : goal.returns-in-Ok-clause-are
returns-in-Ok-clause-are c = held (goal.at.returns-in-Ok-clause-are c).After-hold_facts

pub returns-in-Err-clause-rows : goal.returns-in-Err-clause-rows
returns-in-Err-clause-rows c =
    let p = c.args.self.now in
    let rows = rows_in p in
    let at = goal.at.returns-in-Err-clause-rows c in
    rows_are (record { registry = c.release_all.new.registry; verdicts = p.verdicts; weight = p.weight }) rows [] (c.release_all.ensures p.verdicts rows [] (lent at.After-deref (held at.After-hold_facts)))

pub returns-in-Err-clause-left : goal.returns-in-Err-clause-left
returns-in-Err-clause-left c =
    let at = goal.at.returns-in-Err-clause-left c in
    c.release_all.ensures c.args.self.now.verdicts (rows_in c.args.self.now) [] (lent at.After-deref (held at.After-hold_facts))
