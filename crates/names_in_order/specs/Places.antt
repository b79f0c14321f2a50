-- The places of names in a list, how many names are near a name, and how many a search looks at.
use Rattle.std.specs.Prelude.{ℕ, List, [], ◌∷◌, length, get_or, filter, count_by, slice_get}
use Rattle.std.specs.List.{cons_option, range_with_len}
use Rattle.name_index.specs.cpe_name.Eleven.{Values}
use Rattle.name_index.specs.cpe_name.Names.{any_values}
use Rattle.cpe_relation.specs.NameRelation.{covers}
use Rattle.cpe_relation.specs.Near.{near}
use Rattle.name_index.specs.Near.{covers_product}

-- the name at a place, from 0
abbrev pub name_of_place : List Values → ℕ → Values
name_of_place names place = get_or names place any_values

-- the places of the names that a name covers, rising
abbrev pub places_covered : Values → List Values → List ℕ
places_covered name names = filter (λ k. covers name (name_of_place names k)) (range_with_len 0 (length names))

-- how many names have a product to which the given name's product is near
abbrev pub near_count : Values → List Values → ℕ
near_count name names = count_by (λ n. near name.product n.product) names

-- how many names have a product that the given name's product covers
abbrev pub looked_count : Values → List Values → ℕ
looked_count name names = count_by (λ n. covers_product name.product n.product) names

-- the elements at these places of a list
abbrev pub rows_at : {A : Type 0} → List A → List ℕ → List A
rows_at rows [] = []
rows_at rows (k ∷ ks) = cons_option (slice_get rows k) (rows_at rows ks)
