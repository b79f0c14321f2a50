-- An index of names by product as contracts see it: the held numbers, each with the number of its product.
use Rattle.std.specs.Prelude.{◌≡◌, ℕ, ◌+◌, ◌-◌, ◌<◌, ◌≤◌, Bool, nat_eq, List, [], ◌∷◌, length, ◌++◌, map, filter, Option, Some, None, count_by, slice_get, drop}
use Rattle.std.specs.List.{All, flat_map}
use Rattle.cpe_values.specs.declared.value.Value.{Value}
use Rattle.cpe_name.specs.Eleven.{Values}
use Rattle.cpe_relation.specs.NameRelation.{covers}
use Rattle.list_pool.specs.Pool.{Row as CellRow, list_at, IsLiveList, cell_at}
use Rattle.list_pool.specs.declared.ListName.{ListName}
use Rattle.name_index.specs.declared.products.Side.{Side}
use Rattle.name_index.specs.Elements.{SameElements}
use Rattle.name_index.specs.Listed.{ProductList, product_at, product_value_at, numbers_to, live}
use Rattle.name_index.specs.Near.{near_on, covers_product}
use Rattle.name_index.specs.declared.table.NameId.{NameId}
use Rattle.name_index.specs.Table.{Names, Kept, find_kept, kept_at}

-- `held`: pairs of a number and its product number, in any order. `spare`: how many numbers more can be added without
-- taking memory. `wide`: each product number has to be below this number.
pub record Held : Type 0 where
  pub held : List (ℕ × ℕ)
  pub spare : ℕ
  pub wide : ℕ

-- The index holds a number more, with its product number.
pub record AddsName (old new : Held) (id product : ℕ) : Type 0 where
  -- The new pair is added to the held pairs.
  pub added : SameElements ((id, product) ∷ old.held) new.held
  -- There is room for one number less.
  pub spare : new.spare + 1 ≡ old.spare
  -- The bound of product numbers is unchanged.
  pub wide : new.wide ≡ old.wide

abbrev pub name_id : ℕ → NameId
name_id number = record { 0 = number }

abbrev pub ids : List (ℕ × ℕ) → List NameId
ids held = map (λ (x : ℕ × ℕ). name_id x.0) held

-- how often a number is held; in an index at most once
abbrev pub times_held : List (ℕ × ℕ) → ℕ → ℕ
times_held held id = count_by (λ (x : ℕ × ℕ). nat_eq id x.0) held

-- Each held number is live, and the table keeps the same product number for it.
abbrev pub FitsTable : List (ℕ × ℕ) → Names → Type 0
FitsTable held names = All (λ (x : ℕ × ℕ). (k : Kept) × (find_kept names x.0 ≡ Some k) × (k.product ≡ x.1)) held

-- whether the product of the number's name is near `asked`, which is the source or the target, by `side`
abbrev pub is_near : Names → Side → Value → NameId → Bool
is_near names side asked id = near_on side asked (kept_at names id.0).name.product

-- whether the asked product covers the product of the number's name
abbrev pub is_product_covered : Names → Value → NameId → Bool
is_product_covered names asked id = covers_product asked (kept_at names id.0).name.product

abbrev pub is_covered : Names → Values → NameId → Bool
is_covered names name id = covers name (kept_at names id.0).name

-- ---- how an index is kept in a pool: a list for each product number

abbrev pub cell_values : List CellRow → List ℕ
cell_values rows = map (λ (x : CellRow). x.1) rows

abbrev pub posting_of : List (Option (List CellRow)) → Option ListName → List ℕ
posting_of lists None = []
posting_of lists (Some h) = cell_values (list_at lists h.0)

-- the held numbers with this product number
abbrev pub posting : List (Option (List CellRow)) → List ListName → ℕ → List ℕ
posting lists heads product = posting_of lists (slice_get heads product)

abbrev pub pairs_at : List (Option (List CellRow)) → List ListName → ℕ → List (ℕ × ℕ)
pairs_at lists heads product = map (λ (v : ℕ). (v, product)) (posting lists heads product)

abbrev pub pairs : List (Option (List CellRow)) → List ListName → List (ℕ × ℕ)
pairs lists heads = flat_map (pairs_at lists heads) (numbers_to (length heads))

-- Each product has a live list of its own, and no number is held twice.
pub record IsIndex (lists : List (Option (List CellRow))) (heads : List ListName) : Type 0 where
  pub live : (p : ℕ) (h : ListName) → slice_get heads p ≡ Some h → IsLiveList lists h.0
  pub apart : (p q : ℕ) (h g : ListName) → slice_get heads p ≡ Some h → slice_get heads q ≡ Some g → h.0 ≡ g.0 → p ≡ q
  pub once : (id : ℕ) → times_held (pairs lists heads) id ≤ 1

-- ---- the products that pass a test, by their numbers in a table

pub record WalksProducts (names : Names) (test : Value → Bool) (walk : List ℕ) : Type 0 where
  pub products : ProductList
  pub of : (id : ℕ) (k : Kept) → find_kept names id ≡ Some k → product_at products k.product ≡ Some k.name.product
  pub walks : SameElements (filter (λ n. test (product_value_at products n)) (live products)) walk

-- ---- a walk over the lists of products

-- the last `left` values of a list
abbrev pub last_values : List (Option (List CellRow)) → ℕ → ℕ → List ℕ
last_values lists name left = cell_values (drop (length (list_at lists name) - left) (list_at lists name))

-- A walk is at the cell `cell` of a list, and `left` values of this list are left.
pub record IsWalkAt (lists : List (Option (List CellRow))) (heads : List ListName) (name left cell : ℕ) : Type 0 where
  pub live : (p : ℕ) (h : ListName) → slice_get heads p ≡ Some h → IsLiveList lists h.0
  pub within : left ≤ length (list_at lists name)
  pub at : 0 < left → cell_at lists name (length (list_at lists name) - left) ≡ Some cell

-- the numbers that a walk has left: from the list that it reads now, and from the lists of the other products
abbrev pub walk_left : List (Option (List CellRow)) → List ListName → ℕ → ℕ → List ℕ → List NameId
walk_left lists heads name left products = map name_id (last_values lists name left ++ flat_map (posting lists heads) products)
