-- Lemmas about reading a list item by item, up to the first fault.
use Rattle.std.proofs.Common.{◌≡◌, ℕ, ◌+◌, suc, List, [], ◌∷◌, ◌++◌, length, ◌<◌, map, take, drop, get_or, refl, ap, sym, ◌∙◌, subst, arith, length-take-le, take_all, ◌≤◌}
use Rattle.std.proofs.lemmas.List.{map_more, map-append, map-id, length-map}
use Rattle.std.proofs.Math.Seq.{split_at}
use Rattle.std.specs.Prelude.{Bool, true, false, MatchBool, Result, Ok, Err}
use Rattle.cpe_records.specs.FirstFault.{◌>>=◌, all_from, FailsUnless}

bind-Ok : {A E : Type 0} (r : Result A E) → (r >>= λ x. Ok x) ≡ r
bind-Ok (Ok x) = refl
bind-Ok (Err e) = refl

module _ {A B E : Type 0} (f : ℕ → A → Result B E) where
  behind : List B → Result (List B) E → Result (List B) E
  behind ys r = r >>= λ ws. Ok (ys ++ ws)

  abbrev join : ℕ → List A → Result (List B) E → Result (List B) E
  join n zs r = r >>= λ ys. all_from f n zs >>= λ ws. Ok (ys ++ ws)

  pushed : (y : B) (ys : List B) (r : Result (List B) E) → ((r >>= λ ws. Ok (ys ++ ws)) >>= λ vs. Ok (y ∷ vs)) ≡ (r >>= λ ws. Ok (y ∷ (ys ++ ws)))
  pushed y ys (Ok ws) = refl
  pushed y ys (Err e) = refl

  join-cons : (m : ℕ) (zs : List A) (y : B) (r : Result (List B) E) → (join m zs r >>= λ vs. Ok (y ∷ vs)) ≡ join m zs (r >>= λ ys. Ok (y ∷ ys))
  join-cons m zs y (Ok ys) = pushed y ys (all_from f m zs)
  join-cons m zs y (Err e) = refl

  step : (n m : ℕ) (xs zs : List A) (r : Result B E) → all_from f (n + 1) (xs ++ zs) ≡ join m zs (all_from f (n + 1) xs)
      → (r >>= λ y. all_from f (n + 1) (xs ++ zs) >>= λ ys. Ok (y ∷ ys)) ≡ join m zs (r >>= λ y. all_from f (n + 1) xs >>= λ ys. Ok (y ∷ ys))
  step n m xs zs (Ok y) e = ap (λ r. r >>= λ ys. Ok (y ∷ ys)) e ∙ join-cons m zs y (all_from f (n + 1) xs)
  step n m xs zs (Err k) e = refl

  pub all_from-append : (n m : ℕ) (xs zs : List A) → m ≡ n + length xs → all_from f n (xs ++ zs) ≡ join m zs (all_from f n xs)
  all_from-append n m [] zs e = let same : m ≡ n = omega arith in ap (λ k. all_from f k zs) (sym same) ∙ sym (bind-Ok (all_from f m zs))
  all_from-append n m (x ∷ xs) zs e = step n m xs zs (f n x) (all_from-append (n + 1) m xs zs (omega arith))

  -- lemma: reading one more item appends its value
  pub all_from-snoc : (n m : ℕ) (xs : List A) (x : A) (ys : List B) (y : B) → m ≡ n + length xs → all_from f n xs ≡ Ok ys → f m x ≡ Ok y → all_from f n (xs ++ x ∷ []) ≡ Ok (ys ++ y ∷ [])
  all_from-snoc n m xs x ys y e h k = all_from-append n m xs (x ∷ []) e ∙ (ap (join m (x ∷ [])) h ∙ ap (λ r. (r >>= λ y. Ok (y ∷ [])) >>= λ ws. Ok (ys ++ ws)) k)

  -- lemma: reading a list returns the first fault
  pub all_from_stops : (n m : ℕ) (xs zs : List A) (x : A) (ys : List B) (e : E) → m ≡ n + length xs → all_from f n xs ≡ Ok ys → f m x ≡ Err e → all_from f n (xs ++ x ∷ zs) ≡ Err e
  all_from_stops n m xs zs x ys e p h k = all_from-append n m xs (x ∷ zs) p ∙ (ap (join m (x ∷ zs)) h ∙ ap (λ r. (r >>= λ y. all_from f (m + 1) zs >>= λ ws. Ok (y ∷ ws)) >>= λ ws. Ok (ys ++ ws)) k)

unless : (b : Bool) {P Q : Type 0} → (P → Q) → MatchBool b (Unit {0}) P → MatchBool b (Unit {0}) Q
unless true f h = tt
unless false f h = f h

pub carried : {A B E : Type 0} (is_memory : E → Bool) (e : E) (r : Result A E) (s : Result B E) → (r ≡ Err e → s ≡ Err e) → FailsUnless is_memory e r → FailsUnless is_memory e s
carried is_memory e r s f h = unless (is_memory e) f h

module _ {X A B E : Type 0} (view : X → A) (f : ℕ → A → Result B E) (n i : ℕ) (xs : List X) (d : X) (below : i < length xs) where
  so_far : n + i ≡ n + length (map view (take i xs))
  so_far = sym (ap (λ k. n + k) (length-map (take i xs) view ∙ length-take-le i xs (omega arith)))

  -- lemma: a loop read one more item
  pub all_from-more : (ys : List B) (y : B) → all_from f n (map view (take i xs)) ≡ Ok ys → f (n + i) (view (get_or xs i d)) ≡ Ok y → all_from f n (map view (take (i + 1) xs)) ≡ Ok (ys ++ y ∷ [])
  all_from-more ys y h k = ap (all_from f n) (map_more view xs i d below) ∙ all_from-snoc f n (n + i) (map view (take i xs)) (view (get_or xs i d)) ys y so_far h k

  cut : map view xs ≡ map view (take i xs) ++ view (get_or xs i d) ∷ map view (drop (suc i) xs)
  cut = ap (map view) (split_at xs i d below) ∙ map-append view (take i xs) (get_or xs i d ∷ drop (suc i) xs)

  -- lemma: a loop ended at the first fault
  pub all_from_fails : (is_memory : E → Bool) (ys : List B) (e : E) → all_from f n (map view (take i xs)) ≡ Ok ys → FailsUnless is_memory e (f (n + i) (view (get_or xs i d))) → FailsUnless is_memory e (all_from f n (map view xs))
  all_from_fails is_memory ys e h = carried is_memory e _ _ (λ p. ap (all_from f n) cut ∙ all_from_stops f n (n + i) (map view (take i xs)) (map view (drop (suc i) xs)) (view (get_or xs i d)) ys e so_far h p)

module _ {A B E : Type 0} (f : ℕ → A → Result B E) (n i : ℕ) (xs : List A) (d : A) (below : i < length xs) (ys : List B) (h : all_from f n (take i xs) ≡ Ok ys) where
  same : all_from f n (map (λ x. x) (take i xs)) ≡ Ok ys
  same = ap (all_from f n) (map-id (take i xs)) ∙ h

  -- lemma: a loop read one more item, if the items are read without a view
  pub all_from-next : (y : B) → f (n + i) (get_or xs i d) ≡ Ok y → all_from f n (take (i + 1) xs) ≡ Ok (ys ++ y ∷ [])
  all_from-next y k = ap (all_from f n) (sym (map-id (take (i + 1) xs))) ∙ all_from-more (λ x. x) f n i xs d below ys y same k

  pub all_from_ends : (is_memory : E → Bool) (e : E) → FailsUnless is_memory e (f (n + i) (get_or xs i d)) → FailsUnless is_memory e (all_from f n xs)
  all_from_ends is_memory e k = subst (λ zs. FailsUnless is_memory e (all_from f n zs)) (map-id xs) (all_from_fails (λ x. x) f n i xs d below is_memory ys e same k)

-- lemma: a loop read all items
pub all_from-whole : {X A B E : Type 0} (view : X → A) (f : ℕ → A → Result B E) (n i : ℕ) (xs : List X) (ys : List B) → length xs ≤ i → all_from f n (map view (take i xs)) ≡ Ok ys → all_from f n (map view xs) ≡ Ok ys
all_from-whole view f n i xs ys past h = ap (λ vs. all_from f n (map view vs)) (sym (take_all i xs past)) ∙ h
