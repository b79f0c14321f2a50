use Rattle.std.proofs.Common.{[], ◌∷◌, false, ◌||◌, ap, ◌∙◌}
use Rattle.std.specs.List.{list_any}
use Rattle.std.proofs.lemmas.Bool.{or_left, or_right}
use Rattle.std.proofs.lemmas.List.Folds.{list_any-append}
use Rattle.cpe_rows.specs.cpe_name.Eleven.{Values}
use Rattle.cover_lines.specs.Shapes.{same_shape}
use Rattle.cover_lines.proofs.ShapeLemmas.{same_shape_itself}
use Rattle.cover_lines.proofs.shapes.put_shape.Goals as goal

pub returns-clause-new : goal.returns-clause-new
returns-clause-new c = λ plain.
    let name = c.args.name.now in
    let old = c.args.shapes.now.items in
    ap (list_any (same_shape name)) c.in_ok-push.ensures.items
    ∙ list_any-append (same_shape name) old (c.in_ok-copied.copied ∷ [])
    ∙ or_right (list_any (same_shape name) old) (list_any (same_shape name) (c.in_ok-copied.copied ∷ [])) (ap (λ (x : Values). same_shape name x || false) c.in_ok-copied.ensures ∙ or_left (same_shape name name) false (same_shape_itself name))
