use Rattle.std.proofs.Common.{◌≡◌, ◌≤◌, length, ◌∷◌, ◌++◌, [], ℕ, List, Some, sym, subst}
use Rattle.std.specs.List.{IsDistinct}
use Rattle.cpe_values.specs.declared.value.Value.{Value}
use Rattle.cpe_values.specs.Same.{same_value}
use Rattle.name_index.specs.Listed.{ProductList, product_at, AddsProduct}
use Rattle.name_index.specs.Placed.{by_number, ArePlacedProducts}
use Rattle.name_index.proofs.Placed.{not_there, pushed, added, few_number}
use Rattle.name_index.proofs.numbered.NumberedProducts.add.Goals as goal

pub invariant_of-self-2 : goal.invariant_of-self-2
invariant_of-self-2 c =
    let i = c.self.inside in
    let v = c.args.value in
    let none = not_there i.values.keys i.numbers.items i.places.items c.self.invariant v (λ n h. c.requires.fresh n (subst (λ (l : ProductList). product_at l n ≡ Some v) c.self.view_is h)) in
    let is = pushed i.values.keys v c.insert.new.self.keys none c.in_ok-insert.ensures.keys in
    let grown = rw (c.in_ok-reserve_number.ensures.numbers, c.in_ok-reserve_number.ensures.places) at c.free_number.ensures.grown in
    subst (λ (vs : List Value). ArePlacedProducts vs c.free_number.new.numbers.items c.free_number.new.places.items) (sym is)
    (added i.values.keys i.numbers.items i.places.items v c.len-place.result c.free_number.new.numbers.items c.free_number.new.places.items c.self.invariant c.len-place.ensures.len
    (subst (λ (vs : List Value). IsDistinct same_value vs) is c.in_ok-insert.ensures.unique) grown).placed

pub returns-clause-added : goal.returns-clause-added
returns-clause-added c =
    let i = c.self.inside in
    let v = c.args.value in
    let none = not_there i.values.keys i.numbers.items i.places.items c.self.invariant v (λ n h. c.requires.fresh n (subst (λ (l : ProductList). product_at l n ≡ Some v) c.self.view_is h)) in
    let is = pushed i.values.keys v c.insert.new.self.keys none c.in_ok-insert.ensures.keys in
    let grown = rw (c.in_ok-reserve_number.ensures.numbers, c.in_ok-reserve_number.ensures.places) at c.free_number.ensures.grown in
    let new = c.free_number.new.places.items in
    subst (λ (l : ProductList). AddsProduct l (by_number c.insert.new.self.keys new) c.free_number.result v) c.self.view_is
    (subst (λ (vs : List Value). AddsProduct (by_number i.values.keys i.places.items) (by_number vs new) c.free_number.result v) (sym is)
    (subst (λ (n : ℕ). AddsProduct (by_number i.values.keys i.places.items) (by_number (i.values.keys ++ v ∷ []) new) n v) (sym c.free_number.ensures.number)
    (added i.values.keys i.numbers.items i.places.items v c.len-place.result c.free_number.new.numbers.items new c.self.invariant c.len-place.ensures.len
    (subst (λ (vs : List Value). IsDistinct same_value vs) is c.in_ok-insert.ensures.unique) grown).adds))

pub returns-clause-few : goal.returns-clause-few
returns-clause-few c =
    let i = c.self.inside in
    let grown = rw (c.in_ok-reserve_number.ensures.numbers, c.in_ok-reserve_number.ensures.places) at c.free_number.ensures.grown in
    subst (λ (l : ProductList). c.free_number.result ≤ length l) c.self.view_is
    (subst (λ (n : ℕ). n ≤ length (by_number i.values.keys i.places.items)) (sym c.free_number.ensures.number)
    (few_number i.values.keys i.numbers.items i.places.items c.len-place.result c.free_number.new.numbers.items c.free_number.new.places.items c.self.invariant grown))
