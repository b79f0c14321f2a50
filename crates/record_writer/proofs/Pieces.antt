-- Lemmas about tokens that are appended piece by piece.
use Rattle.std.proofs.Common.{◌≡◌, ℕ, ◌≤◌, List, [], ◌∷◌, ◌++◌, Bool, true, false, length, map, take, take_all, refl, ap, sym, ◌∙◌, if◌then◌else◌}
use Rattle.std.specs.List.{flat_map}
use Rattle.std.proofs.lemmas.List.{append_assoc}
use Rattle.std.proofs.lemmas.List.Folds.{flat_map-map}
use Rattle.json.specs.Token.{Token, key, end_array, end_object}
use Rattle.json.specs.Json.{Json, Members, member}
use Rattle.json.specs.Json as json
use Rattle.json.specs.Tree.{json_tokens, items_tokens, members_tokens}
use Rattle.cpe_rows.specs.cpe_name.Names.{value_of}
use Rattle.cpe_rows.specs.cpe_name.Text.{attribute_name}
use Rattle.cpe_rows.specs.cpe_name.declared.attribute.Attribute.{Attribute}
use Rattle.cpe_rows.specs.cpe_name.Eleven.{Values}
use Rattle.cpe_records.specs.cpe_uri.Canon.{is_any_component}
use Rattle.cpe_fs.specs.Grammar.{fs_component}
use Rattle.record_writer.specs.Written.{items_by}
use Rattle.record_writer.specs.NameObject.{with_values, value_tokens}

-- lemma: two pieces were appended
pub two : {A : Type 0} (o a b t u : List A) → t ≡ o ++ a → u ≡ t ++ b → u ≡ o ++ (a ++ b)
two o a b t u h k = k ∙ (ap (λ z. z ++ b) h ∙ append_assoc o a b)

-- lemma: the tokens of the items, and the token at the array's end
pub closed : {A : Type 0} (f : A → Json) (xs : List A) (rest : List Token) → items_tokens (items_by f xs) ++ rest ≡ flat_map (λ x. json_tokens (f x)) xs ++ end_array ∷ rest
closed f [] rest = refl
closed f (x ∷ xs) rest =
    append_assoc (json_tokens (f x)) (items_tokens (items_by f xs)) rest
    ∙ (ap (λ (z : List Token). json_tokens (f x) ++ z) (closed f xs rest) ∙ sym (append_assoc (json_tokens (f x)) (flat_map (λ x. json_tokens (f x)) xs) (end_array ∷ rest)))

-- lemma: three pieces were appended
pub three : {A : Type 0} (o a b c t u v : List A) → t ≡ o ++ a → u ≡ t ++ b → v ≡ u ++ c → v ≡ o ++ (a ++ (b ++ c))
three o a b c t u v h k l = two o a (b ++ c) t v h (two t b c u v k l)

-- lemma: a piece, the items of an array, and the token at its end were appended
pub listed : {A : Type 0} (f : A → Json) (xs : List A) (rest o a t u v : List Token)
    → t ≡ o ++ a → u ≡ t ++ flat_map (λ x. json_tokens (f x)) xs → v ≡ u ++ end_array ∷ rest → v ≡ o ++ (a ++ (items_tokens (items_by f xs) ++ rest))
listed f xs rest o a t u v h k l =
    three o a (flat_map (λ x. json_tokens (f x)) xs) (end_array ∷ rest) t u v h k l ∙ ap (λ (z : List Token). o ++ (a ++ z)) (sym (closed f xs rest))

-- lemma: a piece, the items of an array, and its end were appended, if a loop made the items from another list
pub looped : {A B : Type 0} (f : B → Json) (g : A → B) (of xs : List A) (i : ℕ) → length xs ≤ i → xs ≡ of → (rest o a t u v : List Token)
    → t ≡ o ++ a → u ≡ t ++ flat_map (λ x. json_tokens (f (g x))) (take i xs) → v ≡ u ++ end_array ∷ rest → v ≡ o ++ (a ++ (items_tokens (items_by f (map g of)) ++ rest))
looped f g of xs i past is rest o a t u v h k l =
    let all = k ∙ ap (λ ys. t ++ flat_map (λ x. json_tokens (f (g x))) ys) (take_all i xs past ∙ is) ∙ ap (λ (z : List Token). t ++ z) (sym (flat_map-map (λ y. json_tokens (f y)) g of)) in
    listed f (map g of) rest o a t u v h all l

one_value : (b : Bool) (k s : List ℕ) (rest : Members) → members_tokens (if b then rest else member k (json.string s) rest) ≡ (if b then [] else key k ∷ Token.string s ∷ []) ++ members_tokens rest
one_value true k s rest = refl
one_value false k s rest = refl

-- lemma: the tokens of attributes, and the token at the object's end
pub closed_values : (n : Values) (which : List Attribute) → members_tokens (with_values n which) ≡ flat_map (value_tokens n) which ++ end_object ∷ []
closed_values n [] = refl
closed_values n (a ∷ more) =
    one_value (is_any_component (value_of n a)) (attribute_name a) (fs_component (value_of n a)) (with_values n more)
    ∙ (ap (λ (z : List Token). value_tokens n a ++ z) (closed_values n more) ∙ sym (append_assoc (value_tokens n a) (flat_map (value_tokens n) more) (end_object ∷ [])))

-- lemma: a name with the tokens around it was appended, and then two pieces
pub around : {A : Type 0} (o f n m p r t u v : List A) → t ≡ o ++ (f ++ (n ++ m)) → u ≡ t ++ p → v ≡ u ++ r → v ≡ o ++ (f ++ (n ++ (m ++ (p ++ r))))
around o f n m p r t u v h k l =
    three o (f ++ (n ++ m)) p r t u v h k l ∙ ap (λ z. o ++ z) (append_assoc f (n ++ m) (p ++ r) ∙ ap (λ z. f ++ z) (append_assoc n m (p ++ r)))
