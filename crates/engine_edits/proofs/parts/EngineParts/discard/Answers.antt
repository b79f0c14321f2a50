use Rattle.std.proofs.Common.{◌++◌, [], refl, sym, subst}
use Rattle.fact_laws.specs.Shown.{names_at}
use Rattle.verdicts.specs.name_registry.Registered.{AreRegistryNames}
use Rattle.engine_edits.specs.Numbered.{coming, numbers_held}
use Rattle.engine_edits.specs.Parts.{AreOf, rows_in}
use Rattle.engine_edits.proofs.NumberedLemmas.{coming_live}
use Rattle.engine_edits.proofs.PartsLemmas.{no_others, rows_are, stay_kept}
use Rattle.engine_edits.proofs.parts.EngineParts.discard.Goals as goal
use Rattle.engine_edits.proofs.parts.EngineParts.discard.Goals.{After-into_coming}

-- the names that are held besides the rows are the new names of the edit
held : (c : After-into_coming) → AreOf c.args.self.now.registry c.args.self.now.verdicts (rows_in c.args.self.now) (names_at c.args.self.now.registry.table (numbers_held c.into_coming.result) ++ [])
held c =
    let p = c.args.self.now in
    no_others p.registry p.verdicts (rows_in p) (coming c.args.numbered) (numbers_held c.into_coming.result) c.into_coming.ensures c.requires.are

pub release_coming-requires-clause-live : goal.release_coming-requires-clause-live
release_coming-requires-clause-live c =
    let table = c.args.self.now.registry.table in
    subst (AreRegistryNames table) (sym c.into_coming.ensures) (coming_live table c.args.numbered c.requires.found)

pub release_coming-requires-clause-are : goal.release_coming-requires-clause-are
release_coming-requires-clause-are c = (c.args.self.now.verdicts, rows_in c.args.self.now, [], held (goal.at.release_coming-requires-clause-are c).After-into_coming)

pub returns-clause-rows : goal.returns-clause-rows
returns-clause-rows c =
    let p = c.args.self.now in
    let rows = rows_in p in
    rows_are (record { registry = c.release_coming.new.registry; verdicts = p.verdicts; weight = p.weight }) rows [] (c.release_coming.ensures p.verdicts rows [] (held (goal.at.returns-clause-rows c).After-into_coming))

pub returns-clause-kept : goal.returns-clause-kept
returns-clause-kept c =
    let p = c.args.self.now in
    let rows = rows_in p in
    stay_kept _ rows p.weight c.requires.lawful refl c.requires.weight (c.release_coming.ensures p.verdicts rows [] (held (goal.at.returns-clause-kept c).After-into_coming))
