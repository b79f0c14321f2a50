-- Lemmas: values that are read in steps pass a test.
use Rattle.std.proofs.Common.{◌≡◌, ℕ, ◌+◌, List, [], ◌∷◌, Bool, true, false, if◌then◌else◌, refl}
use Rattle.std.specs.Prelude.{Option, Some, None, Result, Ok, Err, ok_or, option_and_then}
use Rattle.std.specs.List.{list_all}
use Rattle.std.proofs.lemmas.Bool.{and_from}
use Rattle.cpe_records.specs.Forms.{tested}
use Rattle.cpe_records.specs.FirstFault.{◌>>=◌, all_from, Yields}

pub then_yields : {A B E : Type 0} (q : A → Bool) (p : B → Bool) (r : Result A E) (f : A → Result B E) → Yields q r → ((x : A) → q x ≡ true → Yields p (f x)) → Yields p (r >>= f)
then_yields q p (Ok x) f h k = k x h
then_yields q p (Err e) f h k = tt

pub behind : {A B E : Type 0} (p : B → Bool) (r : Result A E) (f : A → Result B E) → ((x : A) → Yields p (f x)) → Yields p (r >>= f)
behind p (Ok x) f k = k x
behind p (Err e) f k = tt

pub all_yield : {A B E : Type 0} (q : B → Bool) (f : ℕ → A → Result B E) (n : ℕ) (xs : List A) → ((k : ℕ) (x : A) → Yields q (f k x)) → Yields (list_all q) (all_from f n xs)
all_yield q f n [] each = refl
all_yield q f n (x ∷ xs) each =
    then_yields q (list_all q) (f n x) (λ y. all_from f (n + 1) xs >>= λ ys. Ok (y ∷ ys)) (each n x)
    (λ y h. then_yields (list_all q) (list_all q) (all_from f (n + 1) xs) (λ ys. Ok (y ∷ ys)) (all_yield q f (n + 1) xs each) (λ ys k. and_from _ _ h k))

when_passed : {E : Type 0} (p : List ℕ → Bool) (fault : E) (s : List ℕ) (b : Bool) → p s ≡ b → Yields p (ok_or (if b then Some s else None) fault)
when_passed p fault s true e = e
when_passed p fault s false e = tt

-- lemma: a text that is read with a test passes that test
pub tested_yields : {E : Type 0} (p : List ℕ → Bool) (fault : E) (text : Option (List ℕ)) → Yields p (ok_or (option_and_then (tested p) text) fault)
tested_yields p fault None = tt
tested_yields p fault (Some s) = when_passed p fault s (p s) refl
