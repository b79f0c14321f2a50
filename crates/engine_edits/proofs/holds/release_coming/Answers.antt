use Rattle.std.proofs.Common.{◌++◌, List, sym, subst}
use Rattle.name_index.specs.declared.table.NameId.{NameId}
use Rattle.fact_laws.specs.Shown.{names_at}
use Rattle.engine_edits.specs.Numbered.{numbers_held}
use Rattle.engine_edits.specs.Parts.{AreOf}
use Rattle.engine_edits.specs.declared.numbered.Coming.{Coming}
use Rattle.engine_edits.proofs.holds.release_coming.Goals as goal

pub returns-in-One : goal.returns-in-One
returns-in-One c =
    let r = c.args.registry.now in
    λ v rows others are. c.release_all.ensures v rows others (subst (λ (x : Coming). AreOf r v rows (names_at r.table (numbers_held x) ++ others)) c.in-One.is are)

pub returns-in-Many : goal.returns-in-Many
returns-in-Many c =
    let r = c.args.registry.now in
    λ v rows others are. c.release_all-in-Many.ensures v rows others (subst (λ (xs : List NameId). AreOf r v rows (names_at r.table xs ++ others)) (sym c.deref.ensures.value)
    (subst (λ (x : Coming). AreOf r v rows (names_at r.table (numbers_held x) ++ others)) c.in-Many.is are))
