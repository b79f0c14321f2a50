use Rattle.std.proofs.Common.{sym, ap, ◌∙◌}
use Rattle.std.specs.Borrow.{Bor}
use Rattle.std.specs.List.{list_any}
use Rattle.cpe_rows.specs.cpe_name.Eleven.{Values}
use Rattle.certificate_check.specs.Relates.{related}
use Rattle.certificate_check.proofs.Elements.{any_map}
use Rattle.certificate_check.proofs.name_set.NameSet.has_related.Goals as goal

pub returns : goal.returns
returns c =
    let n = c.args.name.now in
    let now : Bor Values → Values = λ k. k.now in
    c.some_related.ensures
    ∙ (ap (list_any (λ (k : Bor Values). related c.args.relates n k.now)) c.as_slice.ensures.keys
    ∙ (sym (any_map now (related c.args.relates n) c.self.inside.names.keys)
    ∙ ap (list_any (related c.args.relates n)) c.self.view_is))
