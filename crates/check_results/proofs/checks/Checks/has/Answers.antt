use Rattle.std.proofs.Common.{◌∙◌, ap}
use Rattle.std.specs.List.{list_any}
use Rattle.cpe_rows.specs.Rows.{has_key}
use Rattle.check_results.specs.Results.{ChecksNow}
use Rattle.check_results.proofs.ResultLemmas.{has_by_key}
use Rattle.check_results.proofs.checks.Checks.has.Goals as goal

pub returns : goal.returns
returns c =
    let s = c.self.inside in
    let key = c.args.key.now in
    c.contains_key.ensures ∙ (has_by_key s.results.items s.by_key.entries s.next c.self.invariant key ∙ ap (λ (s : ChecksNow). list_any (has_key key) s.list) c.self.view_is)
