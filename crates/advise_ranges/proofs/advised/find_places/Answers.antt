use Rattle.std.proofs.Common.{◌≡◌, ℕ, List, ◌++◌, length, sym, ap, subst, ◌∙◌}
use Rattle.std.specs.List.{flat_map}
use Rattle.std.specs.Map.{keys_of}
use Rattle.cpe_rows.specs.cpe_values.declared.value.Value.TheVariants as value
use Rattle.name_index.specs.Elements.{SameElements}
use Rattle.names_in_order.proofs.Rising.{sorted_filter}
use Rattle.advise_ranges.specs.Found.{is_beside, own_group, passes_at, advice_place_in, places_where}
use Rattle.advise_ranges.specs.Groups.{group}
use Rattle.advise_ranges.proofs.PlaceLemmas.{found_beside}
use Rattle.advise_ranges.proofs.advised.find_places.Goals as goal

pub returns : goal.returns
returns c =
    let es = c.args.by_id.now.entries in
    let gs = c.args.groups.now in
    let v = c.args.product.now in
    let places : List (List ℕ) → List ℕ = flat_map (advice_place_in (keys_of es)) in
    let found : c.push_own_places.new.places.items ≡ places (group gs value.Any) ++ places (own_group gs v) =
    c.in_ok-push_own_places.ensures
    ∙ ap (λ (xs : List ℕ). xs ++ places (own_group gs v)) (c.in_ok-push_places.ensures ∙ ap (λ (xs : List ℕ). xs ++ places c.of.result.now) c.new-places.ensures.items ∙ ap places c.of.ensures) in
    sorted_filter (passes_at (is_beside v) es) (length es) c.push_own_places.new.places.items c.sort_unstable.new.self.items
    (subst (SameElements (places_where (is_beside v) es)) (sym found) (found_beside v es gs c.requires c.len-count.ensures.unique))
    c.sort_unstable.ensures.permutation c.sort_unstable.ensures.sorted
