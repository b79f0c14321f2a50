use Rattle.std.proofs.Common.{◌+◌, List, drop, sym, ap, ◌∙◌}
use Rattle.std.proofs.lemmas.List.{at_drop_more}
use Rattle.cpe_rows.specs.cpe_name.Eleven.{Values}
use Rattle.cpe_rows.specs.cpe_name.declared.attribute.Attribute.{Attribute}
use Rattle.cpe_rows.specs.cpe_name.declared.attribute.Attribute.TheVariants.{Part}
use Rattle.cpe_rows.specs.cpe_name.Names.{attributes}
use Rattle.cover_lines.specs.Shapes.{widened_from}
use Rattle.cover_lines.proofs.shapes.widen.Goals as goal

pub loop-which-init : goal.loop-which-init
loop-which-init c = ap (λ (n : Values). widened_from c.args.shape.now n attributes) c.in_ok-wide.ensures

pub loop-which-preserved : goal.loop-which-preserved
loop-which-preserved c =
    let shape = c.args.shape.now in
    let i = c.loop-which.which-index in
    ap (λ (n : Values). widened_from shape n (drop (i + 1) attributes)) c.widen_at.ensures
    ∙ sym (at_drop_more (λ (ws : List Attribute). widened_from shape c.loop-which.wide ws) attributes i Part c.loop-which-test.true)
    ∙ c.loop-which.invariant
