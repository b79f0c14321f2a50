-- Lemmas: the items of an array in an object are less deep than the object.
use Rattle.std.proofs.Common.{◌≡◌, ℕ, ◌<◌, ◌≤◌, zero, suc, List, map, length, get_or, Ordering, Less, Equal, Greater, refl, sym, ap, ◌∙◌, subst, arith}
use Rattle.std.proofs.Math.ListN.{get_or-map}
use Rattle.std.proofs.lemmas.List.{length-map}
use Rattle.std.specs.Prelude.{Option, Some, None, option_and_then, option_map}
use Rattle.std.specs.Ordering.{nat_cmp, match_ordering}
use Rattle.std.specs.Cmp.Lexicographic.{slice_cmp}
use Rattle.serde_json.specs.Data.{Data, null, boolean, number, string, array, object, Items, no_items, item, Members, no_members, member, depth, items_depth, members_depth}
use Rattle.serde_json.specs.Find.{get, get_member, as_array}
use Rattle.cpe_records.specs.Forms.{list_of_items}

item_depth : (its : Items) (i : ℕ) (x : Data) → i < length (list_of_items its) → depth (get_or (list_of_items its) i x) ≤ items_depth its
item_depth no_items i x h = absurd (omega arith)
item_depth (item d ds) zero x h = omega arith
item_depth (item d ds) (suc i) x h = omega (arith, item_depth ds i x (omega arith))

array_depth : (e : Data) (ds : List Data) (i : ℕ) (x : Data) → i < length ds → Some ds ≡ option_map list_of_items (as_array e) → depth (get_or ds i x) < depth e
array_depth null ds i x h e = let no_way : ⊥ = cc in absurd no_way
array_depth (boolean b) ds i x h e = let no_way : ⊥ = cc in absurd no_way
array_depth (number n) ds i x h e = let no_way : ⊥ = cc in absurd no_way
array_depth (string s) ds i x h e = let no_way : ⊥ = cc in absurd no_way
array_depth (array its) ds i x h e =
    let same : ds ≡ list_of_items its = cc in
    let below : i < length (list_of_items its) = subst (λ zs. i < length zs) same h in
    let at_most : depth (get_or ds i x) ≤ items_depth its = subst (λ zs. depth (get_or zs i x) ≤ items_depth its) (sym same) (item_depth its i x below) in
    omega arith
array_depth (object ms) ds i x h e = let no_way : ⊥ = cc in absurd no_way

picked : (o : Ordering) (e d : Data) (r : Option Data) (n : ℕ) → depth e ≤ n → ((f : Data) → r ≡ Some f → depth f ≤ n) → match_ordering o r (Some e) r ≡ Some d → depth d ≤ n
picked Less e d r n h k p = k d p
picked Equal e d r n h k p = let same : e ≡ d = cc in subst (λ z. depth z ≤ n) same h
picked Greater e d r n h k p = k d p

member_depth : (k : List ℕ) (ms : Members) (d : Data) → get_member k ms ≡ Some d → depth d ≤ members_depth ms
member_depth k no_members d h = let no_way : ⊥ = cc in absurd no_way
member_depth k (member l e ms) d h =
    picked (slice_cmp nat_cmp k l) e d (get_member k ms) (members_depth (member l e ms)) (omega arith) (λ f p. omega (arith, member_depth k ms f p)) h

found : (k : List ℕ) (ms : Members) (o : Option Data) (ds : List Data) (i : ℕ) (x : Data) → get_member k ms ≡ o → i < length ds → Some ds ≡ option_map list_of_items (option_and_then as_array o) → depth (get_or ds i x) < suc (members_depth ms)
found k ms None ds i x p h e = let no_way : ⊥ = cc in absurd no_way
found k ms (Some d) ds i x p h e = omega (arith, member_depth k ms d p, array_depth d ds i x h e)

below_depth : (k : List ℕ) (d : Data) (ds : List Data) (i : ℕ) (x : Data) → i < length ds → Some ds ≡ option_map list_of_items (option_and_then as_array (get k d)) → depth (get_or ds i x) < depth d
below_depth k null ds i x h e = let no_way : ⊥ = cc in absurd no_way
below_depth k (boolean b) ds i x h e = let no_way : ⊥ = cc in absurd no_way
below_depth k (number n) ds i x h e = let no_way : ⊥ = cc in absurd no_way
below_depth k (string s) ds i x h e = let no_way : ⊥ = cc in absurd no_way
below_depth k (array its) ds i x h e = let no_way : ⊥ = cc in absurd no_way
below_depth k (object ms) ds i x h e = found k ms (get_member k ms) ds i x refl h e

-- lemma: an item is less deep than the object, if it is the view of an element of the list
pub item_falls : {X : Type 0} (view : X → Data) (k : List ℕ) (d : Data) (xs : List X) (i : ℕ) (x : X) → i < length xs → x ≡ get_or xs i x
    → Some (map view xs) ≡ option_map list_of_items (option_and_then as_array (get k d)) → depth (view x) < depth d
item_falls view k d xs i x within is there =
    let here : i < length (map view xs) = omega (arith, length-map xs view, within) in
    let same : get_or (map view xs) i (view x) ≡ view x = get_or-map view xs i x ∙ ap view (sym is) in
    subst (λ z. depth z < depth d) same (below_depth k d (map view xs) i (view x) here there)
