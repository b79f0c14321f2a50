use Rattle.std.proofs.Common.{List, sym, ap, ◌∙◌}
use Rattle.std.specs.Borrow.{Bor}
use Rattle.std.specs.List.{list_any}
use Rattle.cpe_rows.specs.cpe_name.Eleven.{Values}
use Rattle.certificate_check.specs.Relates.{related}
use Rattle.certificate_check.proofs.Elements.{any_map}
use Rattle.certificate_check.proofs.name_set.NameSet.has_met.Goals as goal

pub returns : goal.returns
returns c =
    let others : List Values = c.args.others.now in
    let now : Bor Values → Values = λ k. k.now in
    c.some_met.ensures
    ∙ (ap (list_any (λ (k : Bor Values). list_any (related c.args.relates k.now) others)) c.as_slice.ensures.keys
    ∙ (sym (any_map now (λ n. list_any (related c.args.relates n) others) c.self.inside.names.keys)
    ∙ ap (list_any (λ n. list_any (related c.args.relates n) others)) c.self.view_is))
