-- Comparing products: first by their shapes, then by their bodies, from the front or from the back.
use Rattle.std.specs.Prelude.{◌≡◌, ℕ, Bool, false, ◌&&◌, nat_eq, if◌then◌else◌, List, [], ◌∷◌, reverse}
use Rattle.std.specs.List.{AllByRecursion, starts_with, ends_with}
use Rattle.std.specs.Ordering.{nat_cmp, is_lt}
use Rattle.std.proofs.Common.{Ordering}
use Rattle.std.specs.Cmp.Lexicographic.{slice_cmp}
use lib.Pointwise.{pointwise}
use Rattle.cpe_values.specs.declared.value.Value.{Value}
use Rattle.cpe_values.specs.declared.value.Value.TheVariants as value
use Rattle.cpe_values.specs.Parts.{is_nothing}
use Rattle.name_index.specs.declared.keys.End.{End}
use Rattle.name_index.specs.declared.keys.End.TheVariants as end
use Rattle.name_index.specs.declared.keys.Shape.{Shape}
use Rattle.name_index.specs.declared.keys.Shape.TheVariants as shape
use Rattle.name_index.specs.Listed.{ProductList, product_value_at}

-- the shape of a text, by whether it has no lead and no trail
abbrev pub shape_by : Bool → Bool → Shape
shape_by no_lead no_trail =
    if no_lead then (if no_trail then shape.Plain else shape.WithTrail) else (if no_trail then shape.WithLead else shape.WithBoth)

abbrev pub shape_of : Value → Shape
shape_of value.Any = shape.Any
shape_of value.Na = shape.Na
shape_of (value.Text t) = shape_by (is_nothing t.lead) (is_nothing t.trail)

-- the rank of a shape in the order of the shapes
abbrev pub shape_rank : Shape → ℕ
shape_rank shape.Any = 0
shape_rank shape.Na = 1
shape_rank shape.Plain = 2
shape_rank shape.WithTrail = 3
shape_rank shape.WithLead = 4
shape_rank shape.WithBoth = 5

abbrev pub body_of : Value → List ℕ
body_of value.Any = []
body_of value.Na = []
body_of (value.Text t) = t.body

-- the body as it is compared from an end: reversed if that end is the back
abbrev pub turned_body : End → List ℕ → List ℕ
turned_body end.Front body = body
turned_body end.Back body = reverse body

abbrev pub text_order : List ℕ → List ℕ → Ordering
text_order = slice_cmp nat_cmp

abbrev pub product_key : End → Value → List ℕ
product_key e v = shape_rank (shape_of v) ∷ turned_body e (body_of v)

-- whether a text has `body` at this end
abbrev pub body_touches : End → List ℕ → List ℕ → Bool
body_touches end.Front body text = starts_with nat_eq text body
body_touches end.Back body text = ends_with nat_eq text body

-- whether a text equals `body` (if `whole`), or has `body` at this end
abbrev pub has_by : Bool → End → List ℕ → List ℕ → Bool
has_by whole e body text = if whole then pointwise nat_eq body text else body_touches e body text

-- whether a product has this shape, and a body that equals `body` or has it at this end
abbrev pub in_run : End → Shape → List ℕ → Bool → Value → Bool
in_run e s body whole v = nat_eq (shape_rank s) (shape_rank (shape_of v)) && has_by whole e body (body_of v)

-- whether a product is before all products of such a run
abbrev pub is_below : End → Shape → List ℕ → Value → Bool
is_below e s body v = is_lt (text_order (product_key e v) (shape_rank s ∷ turned_body e body))

-- Each element is in the relation `R` to all elements after it.
abbrev pub Ordered : {X : Type 0} → (X → X → Type 0) → List X → Type 0
Ordered R [] = Unit {0}
Ordered R (x ∷ xs) = AllByRecursion (λ y. R x y) xs × Ordered R xs

abbrev pub NotAbove : End → ProductList → ℕ → ℕ → Type 0
NotAbove e values m n = is_lt (text_order (product_key e (product_value_at values n)) (product_key e (product_value_at values m))) ≡ false

-- The numbers are in the order of their products. Products with the same body can be in any order.
abbrev pub Rises : End → ProductList → List ℕ → Type 0
Rises e values order = Ordered (NotAbove e values) order
