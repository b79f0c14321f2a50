use Rattle.std.proofs.Common.{◌∙◌}
use Rattle.name_index.specs.Listed.{live}
use Rattle.name_index.proofs.NearRuns.{na_asked, any_run, special_asked}
use Rattle.name_index.proofs.products.Products.near_sources.Goals as goal

pub returns-in-Na : goal.returns-in-Na
returns-in-Na c =
    let values = c.args.self.now in
    na_asked values (live values) c.args.asked.now c.front_run-any.result c.front_run.result c.in_runs-in-Na.result c.in-Na.is c.front_run-any.ensures c.front_run.ensures (rw c.none-in-Na.ensures at c.in_runs-in-Na.ensures)

pub returns-in_default : goal.returns-in_default
returns-in_default c =
    let values = c.args.self.now in
    let ns = live values in
    any_run values ns c.args.asked.now c.front_run-any.result c.in_runs-in_default.result
    (special_asked values ns c.args.asked.now c.in-Text.text c.in-Text.is (λ e. c.in_default.not-Plain (c.text_shape.ensures ∙ e)))
    c.front_run-any.ensures (rw (c.none-in_default.ensures, c.none-in_default-2.ensures) at c.in_runs-in_default.ensures)
