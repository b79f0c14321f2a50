use Rattle.std.proofs.Common.{List, ap, sym, ◌∙◌}
use Rattle.std.specs.List.{list_any}
use Rattle.cpe_rows.specs.cpe_name.Eleven.{Values}
use Rattle.cpe_rows.specs.Names.{is_same}
use Rattle.check_results.proofs.SlotLemmas.{any_name}
use Rattle.advise_ranges.proofs.view.ItemView.has.Goals as goal

pub returns : goal.returns
returns c =
    let name = c.args.name.now in
    c.is_some.ensures ∙ c.find.ensures.any ∙ sym (any_name name _) ∙ ap (λ (ns : List Values). list_any (is_same name) ns) c.self.view_is
