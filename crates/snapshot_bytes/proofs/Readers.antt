-- Lemmas: a reader reads exactly what is written. Each combination of readers has its lemma.
use Rattle.std.proofs.Common.{◌≡◌, refl, sym, ◌∙◌, ap, subst, ℕ, zero, suc, ◌<◌, List, [], ◌∷◌, ◌++◌, length, get_or, Option, Some, None, append_assoc, arith}
use Rattle.std.specs.List.{AllByRecursion, flat_map}
use Rattle.snapshot_bytes.specs.Reading.{◌>>=◌, read_both, made, read_as, many}

abbrev pub IsBytes : List ℕ → Type 0
IsBytes bytes = (i : ℕ) → get_or bytes i 0 < 256

-- the bytes are the written form of `x`, followed by `rest`
pub record IsTaken {A : Type 0} (Fits : A → Type 0) (spell : A → List ℕ) (bytes : List ℕ) (x : A) (rest : List ℕ) : Type 0 where
  pub fits : Fits x
  pub parts : bytes ≡ spell x ++ rest
  pub are_bytes : IsBytes rest

pub record IsReader {A : Type 0} (Fits : A → Type 0) (spell : A → List ℕ) (read : List ℕ → Option (A × List ℕ)) : Type 0 where
  pub takes : (bytes : List ℕ) (x : A) (rest : List ℕ) → IsBytes bytes → read bytes ≡ Some (x, rest) → IsTaken Fits spell bytes x rest
  pub again : (x : A) (rest : List ℕ) → Fits x → read (spell x ++ rest) ≡ Some (x, rest)

-- ---- steps

pub bind_some : {A B : Type 0} (r : Option A) (f : A → Option B) (y : B) → (r >>= f) ≡ Some y → (x : A) × (r ≡ Some x) × (f x ≡ Some y)
bind_some (Some x) f y e = (x, refl, e)
bind_some None f y e = absurd cc

abbrev some : {A : Type 0} → A → Option A
some x = Some x

pub some_is : {A : Type 0} (x y : A) → some x ≡ some y → x ≡ y
some_is x y e = cc

-- ---- two parts, one after the other

module _ {A B : Type 0} (Fits : A → Type 0) (Suits : B → Type 0) (first : A → List ℕ) (second : B → List ℕ)
    (read_first : List ℕ → Option (A × List ℕ)) (read_second : List ℕ → Option (B × List ℕ)) (one : IsReader Fits first read_first) (two : IsReader Suits second read_second) where
  abbrev FitBoth : A × B → Type 0
  FitBoth p = Fits p.0 × Suits p.1

  abbrev spell_both : A × B → List ℕ
  spell_both p = first p.0 ++ second p.1

  takes_both : (bytes : List ℕ) (p : A × B) (rest : List ℕ) → IsBytes bytes → read_both read_first read_second bytes ≡ Some (p, rest) → IsTaken FitBoth spell_both bytes p rest
  takes_both bytes p rest are e =
      let a = bind_some (read_first bytes) (λ x. read_second x.1 >>= λ y. Some ((x.0, y.0), y.1)) (p, rest) e in
      let b = bind_some (read_second a.0.1) (λ y. Some ((a.0.0, y.0), y.1)) (p, rest) a.2 in
      let x = one.takes bytes a.0.0 a.0.1 are a.1 in
      let y = two.takes a.0.1 b.0.0 b.0.1 x.are_bytes b.1 in
      let made : (A × B) × List ℕ = ((a.0.0, b.0.0), b.0.1) in
      subst (λ (q : (A × B) × List ℕ). IsTaken FitBoth spell_both bytes q.0 q.1) (some_is made (p, rest) b.2)
      (record { fits = (x.fits, y.fits); parts = x.parts ∙ ap (λ (t : List ℕ). first a.0.0 ++ t) y.parts ∙ sym (append_assoc (first a.0.0) (second b.0.0) b.0.1); are_bytes = y.are_bytes })

  again_both : (p : A × B) (rest : List ℕ) → FitBoth p → read_both read_first read_second (spell_both p ++ rest) ≡ Some (p, rest)
  again_both p rest fits =
      ap (read_both read_first read_second) (append_assoc (first p.0) (second p.1) rest)
      ∙ rw (one.again p.0 (second p.1 ++ rest) fits.0) (rw (two.again p.1 rest fits.1) refl)

  pub both_read : IsReader FitBoth spell_both (read_both read_first read_second)
  both_read = record { takes = takes_both; again = again_both }

-- ---- a value made of a part

module _ {A B : Type 0} (Fits : A → Type 0) (spell : A → List ℕ) (read : List ℕ → Option (A × List ℕ)) (is : IsReader Fits spell read)
    (make : A → B) (seen : B → A) (there : (x : A) → seen (make x) ≡ x) (back : (y : B) → make (seen y) ≡ y) where
  abbrev FitMade : B → Type 0
  FitMade y = Fits (seen y)

  abbrev spell_made : B → List ℕ
  spell_made y = spell (seen y)

  takes_made : (bytes : List ℕ) (y : B) (rest : List ℕ) → IsBytes bytes → made make read bytes ≡ Some (y, rest) → IsTaken FitMade spell_made bytes y rest
  takes_made bytes y rest are e =
      let a = bind_some (read bytes) (λ x. Some (make x.0, x.1)) (y, rest) e in
      let x = is.takes bytes a.0.0 a.0.1 are a.1 in
      let made : B × List ℕ = (make a.0.0, a.0.1) in
      subst (λ (q : B × List ℕ). IsTaken FitMade spell_made bytes q.0 q.1) (some_is made (y, rest) a.2)
      (record { fits = subst Fits (sym (there a.0.0)) x.fits; parts = x.parts ∙ ap (λ z. spell z ++ a.0.1) (sym (there a.0.0)); are_bytes = x.are_bytes })

  again_made : (y : B) (rest : List ℕ) → FitMade y → made make read (spell_made y ++ rest) ≡ Some (y, rest)
  again_made y rest fits = rw (is.again (seen y) rest fits) (ap (λ z. Some (z, rest)) (back y))

  pub made_read : IsReader FitMade spell_made (made make read)
  made_read = record { takes = takes_made; again = again_made }

-- ---- a value that a part gives, if it gives one

module _ {A B : Type 0} (Fits : A → Type 0) (spell : A → List ℕ) (read : List ℕ → Option (A × List ℕ)) (is : IsReader Fits spell read)
    (store_it : A → Option B) (back : B → A) (Suits : B → Type 0)
    (reports : (x : A) (y : B) → Fits x → store_it x ≡ Some y → (back y ≡ x) × Suits y) (stored_again : (y : B) → Suits y → store_it (back y) ≡ Some y) where
  abbrev FitStored : B → Type 0
  FitStored y = Fits (back y) × Suits y

  abbrev spell_stored : B → List ℕ
  spell_stored y = spell (back y)

  takes_stored : (bytes : List ℕ) (y : B) (rest : List ℕ) → IsBytes bytes → read_as store_it read bytes ≡ Some (y, rest) → IsTaken FitStored spell_stored bytes y rest
  takes_stored bytes y rest are e =
      let a = bind_some (read bytes) (λ x. store_it x.0 >>= λ z. Some (z, x.1)) (y, rest) e in
      let b = bind_some (store_it a.0.0) (λ z. Some (z, a.0.1)) (y, rest) a.2 in
      let x = is.takes bytes a.0.0 a.0.1 are a.1 in
      let t = reports a.0.0 b.0 x.fits b.1 in
      let made : B × List ℕ = (b.0, a.0.1) in
      subst (λ (q : B × List ℕ). IsTaken FitStored spell_stored bytes q.0 q.1) (some_is made (y, rest) b.2)
      (record { fits = (subst Fits (sym t.0) x.fits, t.1); parts = x.parts ∙ ap (λ z. spell z ++ a.0.1) (sym t.0); are_bytes = x.are_bytes })

  again_stored : (y : B) (rest : List ℕ) → FitStored y → read_as store_it read (spell_stored y ++ rest) ≡ Some (y, rest)
  again_stored y rest fits = rw (is.again (back y) rest fits.0) (rw (stored_again y fits.1) refl)

  pub stored_read : IsReader FitStored spell_stored (read_as store_it read)
  stored_read = record { takes = takes_stored; again = again_stored }

-- ---- a list of as many parts as the count

module _ {A : Type 0} (Fits : A → Type 0) (spell : A → List ℕ) (read : List ℕ → Option (A × List ℕ)) (is : IsReader Fits spell read) where
  abbrev pub AreMany : ℕ → List A → Type 0
  AreMany n xs = (length xs ≡ n) × AllByRecursion Fits xs

  takes_many : (n : ℕ) (bytes : List ℕ) (xs : List A) (rest : List ℕ) → IsBytes bytes → many read n bytes ≡ Some (xs, rest) → IsTaken (AreMany n) (flat_map spell) bytes xs rest
  takes_many zero bytes xs rest are e =
      let made : List A × List ℕ = ([], bytes) in
      subst (λ (q : List A × List ℕ). IsTaken (AreMany 0) (flat_map spell) bytes q.0 q.1) (some_is made (xs, rest) e)
      (record { fits = (refl, tt); parts = refl; are_bytes = are })
  takes_many (suc n) bytes xs rest are e =
      let a = bind_some (read bytes) (λ x. many read n x.1 >>= λ others. Some (x.0 ∷ others.0, others.1)) (xs, rest) e in
      let b = bind_some (many read n a.0.1) (λ others. Some (a.0.0 ∷ others.0, others.1)) (xs, rest) a.2 in
      let x = is.takes bytes a.0.0 a.0.1 are a.1 in
      let y = takes_many n a.0.1 b.0.0 b.0.1 x.are_bytes b.1 in
      let made : List A × List ℕ = (a.0.0 ∷ b.0.0, b.0.1) in
      subst (λ (q : List A × List ℕ). IsTaken (AreMany (suc n)) (flat_map spell) bytes q.0 q.1) (some_is made (xs, rest) b.2)
      (record {
        fits = (ap suc y.fits.0, (x.fits, y.fits.1));
        parts = x.parts ∙ ap (λ (t : List ℕ). spell a.0.0 ++ t) y.parts ∙ sym (append_assoc (spell a.0.0) (flat_map spell b.0.0) b.0.1);
        are_bytes = y.are_bytes;
      })

  again_many : (n : ℕ) (xs : List A) (rest : List ℕ) → AreMany n xs → many read n (flat_map spell xs ++ rest) ≡ Some (xs, rest)
  again_many zero [] rest fits = refl
  again_many zero (x ∷ xs) rest fits = absurd (omega (arith, fits.0))
  again_many (suc n) [] rest fits = absurd (omega (arith, fits.0))
  again_many (suc n) (x ∷ xs) rest fits =
      ap (many read (suc n)) (append_assoc (spell x) (flat_map spell xs) rest)
      ∙ rw (is.again x (flat_map spell xs ++ rest) fits.1.0) (rw (again_many n xs rest (omega (arith, fits.0), fits.1.1)) refl)

  pub many_read : (n : ℕ) → IsReader (AreMany n) (flat_map spell) (many read n)
  many_read n = record { takes = takes_many n; again = again_many n }
