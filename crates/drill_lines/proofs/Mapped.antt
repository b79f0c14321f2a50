-- The values of a function at the first elements of a list.
use Rattle.std.proofs.Common.{◌≡◌, ℕ, ◌+◌, ◌<◌, zero, suc, List, [], ◌∷◌, ◌++◌, length, map, take, slice_get, Some, refl, sym, ap, ◌∙◌, arith}

-- one more element adds its value at the end
map_next : {A B : Type 0} (f : A → B) (value : B) (xs : List A) (k : ℕ) → k < length xs → ((x : A) → slice_get xs k ≡ Some x → value ≡ f x)
    → map f (take (suc k) xs) ≡ map f (take k xs) ++ value ∷ []
map_next f value [] k below is = absurd (omega arith)
map_next f value (x ∷ xs) zero below is = ap (λ v. v ∷ []) (sym (is x refl))
map_next f value (x ∷ xs) (suc k) below is = ap (λ vs. f x ∷ vs) (map_next f value xs k (omega arith) is)

pub map_more : {A B : Type 0} (f : A → B) (value : B) (xs : List A) (k : ℕ) → k < length xs → ((x : A) → slice_get xs k ≡ Some x → value ≡ f x)
    → map f (take (k + 1) xs) ≡ map f (take k xs) ++ value ∷ []
map_more f value xs k below is =
    let next : k + 1 ≡ suc k = omega arith in
    ap (λ n. map f (take n xs)) next ∙ map_next f value xs k below is
