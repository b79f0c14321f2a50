use Rattle.std.proofs.Common.{◌≡◌, Some, ◌∙◌}
use Rattle.std.specs.List.{swap_remove}
use Rattle.std.proofs.lemmas.Option.{slice_get-get_or, MatchOption-at_some}
use Rattle.cpe_name.specs.Eleven.{Values}
use Rattle.cpe_name.specs.Names.{any_values}
use Rattle.name_index.specs.Rows.{name_in_place}
use Rattle.name_index.proofs.table.take_name.Goals as goal

pub returns-clause-keys : goal.returns-clause-keys
returns-clause-keys c =
    let old = c.args.names.now.keys in
    let place = c.args.place in
    let taken : c.swap_remove_index.result ≡ Some (name_in_place old place) = c.swap_remove_index.ensures.key ∙ slice_get-get_or old place any_values c.requires in
    MatchOption-at_some _ (λ (k : Values). c.swap_remove_index.new.self.keys ≡ swap_remove old place k) (name_in_place old place) taken c.swap_remove_index.ensures.keys
