use Rattle.std.proofs.Common.{◌≡◌, Bool, List, map, ap, sym, ◌∙◌}
use Rattle.std.specs.Borrow.{Bor}
use Rattle.std.specs.List.{list_any}
use Rattle.cpe_rows.specs.cpe_name.Eleven.{Values}
use Rattle.cpe_rows.specs.Chains.{ends}
use Rattle.certificate_search.specs.certificate_check.Relates.{related}
use Rattle.certificate_search.proofs.certificate_check.Elements.{any_map}
use Rattle.cpe_engine.proofs.leading.is_met.Goals as goal

pub returns : goal.returns
returns c =
    let now = λ (n : Bor Values). n.now in
    let item_ends : List Values = ends c.args.registry.now.entries c.args.item.now in
    let are : map now c.deref.result.now ≡ item_ends = ap (map now) c.deref.ensures.value ∙ c.in_ok-item_ends.ensures in
    let each : (n : Bor Values) → list_any (λ (other : Bor Values). related c.args.relates n.now other.now) c.deref.result.now ≡ list_any (related c.args.relates n.now) item_ends
    = λ n. sym (any_map now (related c.args.relates n.now) c.deref.result.now) ∙ ap (list_any (related c.args.relates n.now)) are in
    c.one_relates.ensures
    ∙ (ap (λ (p : Bor Values → Bool). list_any p c.args.fact_ends.now) (λ j n. each n j)
    ∙ sym (any_map now (λ (f : Values). list_any (related c.args.relates f) item_ends) c.args.fact_ends.now))
