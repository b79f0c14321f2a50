use Rattle.std.proofs.Common.{List, ℕ, [], refl, ap, ◌∙◌}
use Rattle.std.specs.Prelude.{Option}
use Rattle.std.specs.Option.{option_map_or}
use Rattle.advise_ranges.proofs.GroupLemmas.{emptied}
use Rattle.advise_ranges.proofs.groups.drop_empty.Goals as goal

pub returns-then-is_empty : goal.returns-then-is_empty
returns-then-is_empty c v =
    ap (λ (o : Option (List (List ℕ))). option_map_or (λ ids. ids) o []) (c.swap_remove.ensures.updates.0 v) ∙ emptied c.args.product.now v c.args.ids_by_product.now.entries (c.if-is_empty.ensures refl)
