use Rattle.std.proofs.Common.{◌∷◌, ◌++◌, ◌+◌, List, drop, get_or, subst}
use Rattle.std.proofs.lemmas.List.{drop_all}
use Rattle.name_index.specs.declared.table.NameId.{NameId}
use Rattle.name_index.specs.Index.{name_id}
use Rattle.fact_laws.specs.Shown.{names_at}
use Rattle.verdicts.specs.name_registry.Registered.{AreRegistryNames}
use Rattle.engine_edits.specs.Parts.{AreOf}
use Rattle.engine_edits.proofs.HoldLemmas.{first_there}
use Rattle.engine_edits.proofs.holds.release_all.Goals as goal

pub release_one-requires-clause-are : goal.release_one-requires-clause-are
release_one-requires-clause-are c =
    let ids = c.args.ids.now in
    let i = c.loop-id.id-index in
    let r = c.loop-id.registry in
    let a = c.requires.are in
    let here = first_there ids i (name_id 0) c.loop-id-test.true in
    (a.0, a.1, names_at r.table (drop (i + 1) ids) ++ a.2, subst (λ (xs : List NameId). AreOf r a.0 a.1 (names_at r.table xs ++ a.2)) here (c.loop-id.invariant.are a.0 a.1 a.2 a.3))

pub loop-id-preserved : goal.loop-id-preserved
loop-id-preserved c =
    let ids = c.args.ids.now in
    let i = c.loop-id.id-index in
    let r = c.loop-id.registry in
    let a = c.requires.are in
    let here = first_there ids i (name_id 0) c.loop-id-test.true in
    let rest = drop (i + 1) ids in
    let live : AreRegistryNames r.table (get_or ids i (name_id 0) ∷ rest) = subst (AreRegistryNames r.table) here c.loop-id.invariant.live in
    record {
      live = (c.release_one.ensures a.0 a.1 a.2 rest live.1 (subst (λ (xs : List NameId). AreOf r a.0 a.1 (names_at r.table xs ++ a.2)) here (c.loop-id.invariant.are a.0 a.1 a.2 a.3))).0;
      are = λ v rows others are. (c.release_one.ensures v rows others rest live.1 (subst (λ (xs : List NameId). AreOf r v rows (names_at r.table xs ++ others)) here (c.loop-id.invariant.are v rows others are))).1;
    }

pub returns : goal.returns
returns c =
    let ids = c.args.ids.now in
    let r = c.loop-id.registry in
    λ v rows others are. subst (λ (xs : List NameId). AreOf r v rows (names_at r.table xs ++ others)) (drop_all c.loop-id.id-index ids c.loop-id-test.false) (c.loop-id.invariant.are v rows others are)
