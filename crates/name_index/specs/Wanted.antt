-- The products that a walk visits: all near products, or only those that a product covers.
use Rattle.std.specs.Prelude.{ℕ, Bool, true, List, if◌then◌else◌}
use Rattle.std.specs.List.{filter}
use Rattle.name_index.specs.Listed.{product_value_at}
use Rattle.name_index.specs.Near.{covers_product}
use Rattle.name_index.specs.declared.wanted.WantedProducts.{WantedProducts}
use Rattle.name_index.specs.declared.wanted.ProductWalk.{ProductWalk}

abbrev pub is_wanted_name : WantedProducts → ℕ → Bool
is_wanted_name w n = if w.covered then covers_product w.asked.now (product_value_at w.all.now n) else true

-- those of the numbers whose products are wanted
abbrev pub wanted_of : WantedProducts → List ℕ → List ℕ
wanted_of w numbers = filter (is_wanted_name w) numbers

-- the numbers of the products that a walk visits
abbrev pub walked : ProductWalk → List ℕ
walked w = wanted_of w.wanted w.near
