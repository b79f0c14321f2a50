-- Lemmas: the readers of numbers, texts, names and lists.
use Rattle.std.proofs.Common.{◌≡◌, refl, sym, ◌∙◌, ap, subst, ℕ, suc, ◌+◌, ◌≤◌, Bool, true, false, cond, ltb, List, [], ◌∷◌, ◌++◌, length, take, drop, Option, Some, None, Result, Ok, Err, append_assoc, arith, inl, inr}
use Rattle.std.specs.Int.{w32, from_be_bytes}
use Rattle.std.specs.List.{flat_map}
use Rattle.std.specs.Str.{is_utf8}
use Rattle.std.proofs.lemmas.Bool.{cases_lt, ltb-false, le-ltb}
use Rattle.std.proofs.lemmas.List.{take_at, drop_at, take-append-drop, length-append, length-take, get_or-drop, get_or-take, get_or_past}
use Rattle.std.proofs.lemmas.Nat.{be_bytes_4, from_be_bytes-to_be_bytes_4}
use Rattle.cpe_rows.specs.cpe_name.Eleven.{Values}
use Rattle.cpe_rows.specs.cpe_name.Names.{IsName}
use Rattle.cpe_fs.specs.Grammar.{fs_text}
use Rattle.cpe_fs.specs.Unbound.{read_fs}
use Rattle.cpe_fs.proofs.Said.{read_name, name_has}
use Rattle.cpe_rows.specs.Names.{is_lower}
use Rattle.snapshot_bytes.specs.Parts.{number, text, name, list}
use Rattle.snapshot_bytes.specs.StoredRows.{IsNumber, IsStoredText, IsSpelled, IsCountedList}
use Rattle.snapshot_bytes.specs.Reading.{byte_at, bytes_at, number_at, counted_at, text_at, name_at, name_of, named_by, read_when, many, list_at}
use Rattle.snapshot_bytes.proofs.Readers.{IsBytes, IsTaken, IsReader, bind_some, some_is, stored_read, many_read}

IsBytes-drop : (n : ℕ) (bytes : List ℕ) → IsBytes bytes → IsBytes (drop n bytes)
IsBytes-drop n bytes h i = rw get_or-drop (h (n + i))

IsBytes-take : (n : ℕ) (bytes : List ℕ) → IsBytes bytes → IsBytes (take n bytes)
IsBytes-take n bytes h i =
    elim (cases_lt i n) [
      | inl lt ↦ rw (get_or-take n bytes i 0 lt) (h i)
      | inr le ↦ rw (get_or_past (take n bytes) i 0 (omega (arith, length-take n bytes))) (omega arith)
    ]

-- a result after a test that didn't fail
pub guard_some : {A : Type 0} (b : Bool) (x y : A) → cond b None (Some x) ≡ Some y → (b ≡ false) × (x ≡ y)
guard_some true x y e = absurd cc
guard_some false x y e = (refl, cc)

pub when_some : {A : Type 0} (test : A → Bool) (x y : A) → read_when test x ≡ Some y → (x ≡ y) × (test y ≡ true)
when_some test x y e = go (test x) refl e where
  go : (b : Bool) → test x ≡ b → cond b (Some x) None ≡ Some y → (x ≡ y) × (test y ≡ true)
  go true is e = let same : x ≡ y = some_is x y e in (same, ap test (sym same) ∙ is)
  go false is e = absurd cc

pub when_true : {A : Type 0} (test : A → Bool) (x : A) → test x ≡ true → read_when test x ≡ Some x
when_true test x is = ap (λ b. cond b (Some x) None) is

-- ---- bytes

abbrev pub IsAny : {A : Type 0} → A → Type 0
IsAny x = Unit {0}

abbrev pub one_byte : ℕ → List ℕ
one_byte b = b ∷ []

pub IsBytes-rest : (b : ℕ) (bytes : List ℕ) → IsBytes (b ∷ bytes) → IsBytes bytes
IsBytes-rest b bytes are i = are (suc i)

pub byte_read : IsReader IsAny one_byte byte_at
byte_read = record { takes = taken; again = λ x rest fits. refl } where
  taken : (bytes : List ℕ) (x : ℕ) (rest : List ℕ) → IsBytes bytes → byte_at bytes ≡ Some (x, rest) → IsTaken IsAny one_byte bytes x rest
  taken [] x rest are e = absurd cc
  taken (b ∷ bytes) x rest are e =
      let made : ℕ × List ℕ = (b, bytes) in
      subst (λ (q : ℕ × List ℕ). IsTaken IsAny one_byte (b ∷ bytes) q.0 q.1) (some_is made (x, rest) e)
      (record { fits = tt; parts = refl; are_bytes = IsBytes-rest b bytes are })

abbrev pub IsLong : ℕ → List ℕ → Type 0
IsLong n s = length s ≡ n

abbrev pub plain : List ℕ → List ℕ
plain s = s

pub bytes_again : (n : ℕ) (s rest : List ℕ) → length s ≡ n → bytes_at n (s ++ rest) ≡ Some (s, rest)
bytes_again n s rest long =
    let enough : ltb (length (s ++ rest)) n ≡ false = le-ltb _ _ (omega (arith, long, length-append s rest)) in
    rw (enough, take_at s rest n long, drop_at s rest n long) refl

pub bytes_read : (n : ℕ) → IsReader (IsLong n) plain (bytes_at n)
bytes_read n = record { takes = taken; again = bytes_again n } where
  taken : (bytes s rest : List ℕ) → IsBytes bytes → bytes_at n bytes ≡ Some (s, rest) → IsTaken (IsLong n) plain bytes s rest
  taken bytes s rest are e =
      let g = guard_some (ltb (length bytes) n) (take n bytes, drop n bytes) (s, rest) e in
      let long : n ≤ length bytes = ltb-false _ _ g.0 in
      subst (λ (q : List ℕ × List ℕ). IsTaken (IsLong n) plain bytes q.0 q.1) g.1
      (record { fits = omega (arith, long, length-take n bytes); parts = sym (take-append-drop n bytes); are_bytes = IsBytes-drop n bytes are })

-- ---- numbers

number_taken : (bytes : List ℕ) (x : ℕ) (rest : List ℕ) → IsBytes bytes → number_at bytes ≡ Some (x, rest) → IsTaken IsNumber number bytes x rest
unfolding number_at
number_taken bytes x rest are e =
    let a = bind_some (bytes_at 4 bytes) (λ s. Some (from_be_bytes w32 s.0, s.1)) (x, rest) e in
    let g = guard_some (ltb (length bytes) 4) (take 4 bytes, drop 4 bytes) a.0 a.1 in
    let long : 4 ≤ length bytes = ltb-false _ _ g.0 in
    let four : length (take 4 bytes) ≡ 4 = omega (arith, long, length-take 4 bytes) in
    let each : IsBytes (take 4 bytes) = IsBytes-take 4 bytes are in
    let n : ℕ = from_be_bytes w32 (take 4 bytes) in
    let made : ℕ × List ℕ = (n, drop 4 bytes) in
    let same : made ≡ (x, rest) = ap (λ (q : List ℕ × List ℕ). (from_be_bytes w32 q.0, q.1)) g.1 ∙ some_is (from_be_bytes w32 a.0.0, a.0.1) (x, rest) a.2 in
    let first : number n ≡ take 4 bytes = be_bytes_4 (take 4 bytes) n four each refl in
    subst (λ (q : ℕ × List ℕ). IsTaken IsNumber number bytes q.0 q.1) same
    (record {
      fits = omega (arith, each 0, each 1, each 2, each 3);
      parts = sym (take-append-drop 4 bytes) ∙ ap (λ (t : List ℕ). t ++ drop 4 bytes) (sym first);
      are_bytes = IsBytes-drop 4 bytes are;
    })

number_again : (x : ℕ) (rest : List ℕ) → IsNumber x → number_at (number x ++ rest) ≡ Some (x, rest)
unfolding number_at
number_again x rest fits = rw (bytes_again 4 (number x) rest refl) (ap (λ n. Some (n, rest)) (from_be_bytes-to_be_bytes_4 x fits))

pub number_read : IsReader IsNumber number number_at
number_read = record { takes = number_taken; again = number_again }

-- ---- a number, and as many bytes

abbrev pub IsCounted : List ℕ → Type 0
IsCounted s = IsNumber (length s)

counted_taken : (bytes s rest : List ℕ) → IsBytes bytes → counted_at bytes ≡ Some (s, rest) → IsTaken IsCounted text bytes s rest
unfolding counted_at
counted_taken bytes s rest are e =
    let a = bind_some (number_at bytes) (λ n. bytes_at n.0 n.1) (s, rest) e in
    let n = number_read.takes bytes a.0.0 a.0.1 are a.1 in
    let t = (bytes_read a.0.0).takes a.0.1 s rest n.are_bytes a.2 in
    record {
      fits = subst IsNumber (sym t.fits) n.fits;
      parts = n.parts ∙ ap (λ (z : List ℕ). number a.0.0 ++ z) t.parts ∙ sym (append_assoc (number a.0.0) s rest) ∙ ap (λ k. number k ++ s ++ rest) (sym t.fits);
      are_bytes = t.are_bytes;
    }

counted_again : (s rest : List ℕ) → IsCounted s → counted_at (text s ++ rest) ≡ Some (s, rest)
unfolding counted_at
counted_again s rest fits =
    ap counted_at (append_assoc (number (length s)) s rest)
    ∙ rw (number_again (length s) (s ++ rest) fits) (bytes_again (length s) s rest refl)

pub counted_read : IsReader IsCounted text counted_at
counted_read = record { takes = counted_taken; again = counted_again }

-- ---- texts and names

abbrev pub is_text : List ℕ → Type 0
is_text s = is_utf8 s ≡ true

pub text_read : IsReader IsStoredText text text_at
unfolding text_at
text_read =
    stored_read IsCounted text counted_at counted_read (read_when is_utf8) plain is_text
    (λ x y fits e. let w = when_some is_utf8 x y e in (sym w.0, w.1))
    (λ y is. when_true is_utf8 y is)

abbrev pub is_lower_name : Values → Type 0
is_lower_name n = IsName n × (is_lower n ≡ true)

named_is : (r : Result Values ℕ) (n : Values) → named_by r ≡ Some n → r ≡ Ok n
named_is (Ok m) n e = ap (λ (k : Values). Ok k) (some_is m n e)
named_is (Err place) n e = absurd cc

name_stored : (s : List ℕ) (n : Values) → IsCounted s → name_of s ≡ Some n → (fs_text n ≡ s) × is_lower_name n
unfolding name_of
name_stored s n fits e =
    let a = bind_some (named_by (read_fs s)) (λ m. read_when is_lower m) n e in
    let w = when_some is_lower a.0 n a.2 in
    let found = name_has n s (named_is (read_fs s) n (a.1 ∙ ap (λ (m : Values). Some m) w.0)) in
    (sym found.1, (found.0, w.1))

name_again : (n : Values) → is_lower_name n → name_of (fs_text n) ≡ Some n
unfolding name_of
name_again n is = rw (read_name n (fs_text n) (is.0, refl)) (when_true is_lower n is.1)

pub name_read : IsReader IsSpelled name name_at
unfolding name_at
name_read = stored_read IsCounted text counted_at counted_read name_of fs_text is_lower_name name_stored name_again

-- ---- a number, and as many parts

module _ {A : Type 0} (Fits : A → Type 0) (spell : A → List ℕ) (read : List ℕ → Option (A × List ℕ)) (is : IsReader Fits spell read) where
  list_taken : (bytes : List ℕ) (xs : List A) (rest : List ℕ) → IsBytes bytes → list_at read bytes ≡ Some (xs, rest) → IsTaken (IsCountedList Fits) (list spell) bytes xs rest
  unfolding list_at
  list_taken bytes xs rest are e =
      let a = bind_some (number_at bytes) (λ n. many read n.0 n.1) (xs, rest) e in
      let n = number_read.takes bytes a.0.0 a.0.1 are a.1 in
      let t = (many_read Fits spell read is a.0.0).takes a.0.1 xs rest n.are_bytes a.2 in
      record {
        fits = (subst IsNumber (sym t.fits.0) n.fits, t.fits.1);
        parts = n.parts ∙ ap (λ (z : List ℕ). number a.0.0 ++ z) t.parts ∙ sym (append_assoc (number a.0.0) (flat_map spell xs) rest) ∙ ap (λ k. number k ++ flat_map spell xs ++ rest) (sym t.fits.0);
        are_bytes = t.are_bytes;
      }

  list_again : (xs : List A) (rest : List ℕ) → IsCountedList Fits xs → list_at read (list spell xs ++ rest) ≡ Some (xs, rest)
  unfolding list_at
  list_again xs rest fits =
      ap (list_at read) (append_assoc (number (length xs)) (flat_map spell xs) rest)
      ∙ rw (number_again (length xs) (flat_map spell xs ++ rest) fits.0) ((many_read Fits spell read is (length xs)).again xs rest (refl, fits.1))

  pub list_read : IsReader (IsCountedList Fits) (list spell) (list_at read)
  list_read = record { takes = list_taken; again = list_again }
