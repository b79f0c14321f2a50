use Rattle.std.proofs.Common.{◌≡◌, List, ap, ◌∙◌}
use Rattle.std.specs.List.{filter}
use Rattle.std.proofs.lemmas.Result.{IfOk-weaker}
use Rattle.cpe_rows.specs.cpe_name.Eleven.{Values}
use Rattle.cpe_relation.specs.NameRelation.{covers}
use Rattle.name_index.specs.declared.table.NameId.{NameId}
use Rattle.check_results.specs.Slots.{names_in_slots}
use Rattle.check_results.proofs.SlotLemmas.{kept_numbered}
use Rattle.advise_ranges.proofs.view.ItemView.covered.Goals as goal

pub returns-clause-found : goal.returns-clause-found
returns-clause-found g c =
    let table = c.self.inside.table.now in
    let name = c.args.name.now in
    IfOk-weaker c.names_of.result
    (λ (found : List Values). found ≡ names_in_slots table c.deref.result.now)
    (λ (found : List Values). found ≡ filter (covers name) c.args.self.now)
    (λ (found : List Values) is.
    is
    ∙ ap (λ (ids : List NameId). names_in_slots table ids) c.deref.ensures.value
    ∙ kept_numbered table c.in_ok-ids.ids.items c.in_ok-ids.ensures.live
    ∙ c.in_ok-ids.ensures.covered
    ∙ ap (filter (covers name)) c.self.view_is)
    c.names_of.ensures
