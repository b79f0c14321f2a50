use Rattle.fact_laws.specs.Shown.{holds_in}
use Rattle.verdicts.specs.name_registry.Registered.{name_in}
use Rattle.verdicts.proofs.name_registry.FitLemmas.{own_name}
use Rattle.engine_edits.proofs.HoldLemmas.{are_held, left}
use Rattle.engine_edits.proofs.holds.release_one.Goals as goal

pub release-requires-clause-held : goal.release-requires-clause-held
release-requires-clause-held c =
    let r = c.args.registry.now in
    let a = c.requires.are in
    are_held r a.0 a.1 (name_in r.table c.args.id) a.2 (λ l o same s. c.lists_are_shown.ensures.order r.table (holds_in r.table) l o same s) a.3

pub returns : goal.returns
returns c =
    let old = c.args.registry.now in
    let new = c.release.new.self in
    let id = c.args.id in
    let name = name_in old.table id in
    let gone = c.release.ensures.released in
    left old new id c.lawful.ensures c.requires.live gone c.release.ensures.entries c.release.ensures.items
    (λ l s. c.tables_are_lists.ensures.released old.table new.table id.0 name l c.lawful.ensures (own_name old.table id.0 c.requires.live) gone s)
    (λ v rows known s. c.released_names_keep_verdicts.ensures old.table new.table id.0 v rows c.lawful.ensures gone known s)
