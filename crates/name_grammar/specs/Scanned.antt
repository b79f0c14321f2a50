-- Which texts a scanner reads, and where it stops. A language is given as a predicate on texts.
use Rattle.std.specs.Prelude.{◌≡◌, ◌⊎◌, ℕ, ◌≤◌, suc, Bool, true, false, List, [], ◌∷◌, ◌++◌, length, IsTrue, Ok, Err}
use Rattle.std.specs.List.{list_all}
use Rattle.name_grammar.specs.Scanners.{Scanner}

-- ---- scanners of a language

-- the scanner has read a text of the language, and the bytes `r` of `s` are left
pub record TakesText (L : List ℕ → Type 0) (s r : List ℕ) : Type 0 where
  pub taken : List ℕ
  pub cut : s ≡ taken ++ r
  pub lawful : L taken

-- The bytes before the place begin some text of the language. With the byte at the place the scanner fails, whatever
-- bytes follow.
pub record Stops (L : List ℕ → Type 0) (p : Scanner) (s : List ℕ) (left : ℕ) : Type 0 where
  pub prefix : List ℕ
  pub rest : List ℕ
  pub cut : s ≡ prefix ++ rest
  pub left_is : left ≡ length rest
  pub more : List ℕ
  pub is_continued : L (prefix ++ more)
  pub refused : (d : ℕ) (r t : List ℕ) → rest ≡ d ∷ r → p (prefix ++ d ∷ t) ≡ Err (suc (length t))

-- The scanner reads texts of the language. Of the bytes after such a text it looks at one at most.
pub record Scans (L : List ℕ → Type 0) (p : Scanner) : Type 0 where
  pub takes : (s r : List ℕ) → p s ≡ Ok r → TakesText L s r
  pub stops : (s : List ℕ) (left : ℕ) → p s ≡ Err left → Stops L p s left
  pub looks_at_one : (c : List ℕ) (d : ℕ) (r t : List ℕ) → p (c ++ d ∷ r) ≡ Ok (d ∷ r) → p (c ++ d ∷ t) ≡ Ok (d ∷ t)

-- ---- languages

-- the empty text alone
abbrev pub Empty : List ℕ → Type 0
Empty c = c ≡ []

-- this text alone
abbrev pub Only : List ℕ → List ℕ → Type 0
Only cs c = c ≡ cs

-- one byte that passes the test
pub record OneOf (passes : ℕ → Bool) (c : List ℕ) : Type 0 where
  pub byte : ℕ
  pub is : c ≡ byte ∷ []
  pub passed : passes byte ≡ true

-- `n` bytes, which all pass the test
pub record Run (n : ℕ) (passes : ℕ → Bool) (c : List ℕ) : Type 0 where
  pub count : length c ≡ n
  pub passed : IsTrue (list_all passes c)

-- at most `n` bytes, which all pass the test
pub record FewOf (n : ℕ) (passes : ℕ → Bool) (c : List ℕ) : Type 0 where
  pub few : length c ≤ n
  pub passed : IsTrue (list_all passes c)

-- a text of the language `L`, and after it a text of `M`
pub record Joined (L M : List ℕ → Type 0) (c : List ℕ) : Type 0 where
  pub prefix : List ℕ
  pub back : List ℕ
  pub is : c ≡ prefix ++ back
  pub first : L prefix
  pub second : M back

-- a text of either language
abbrev pub Either : (L M : List ℕ → Type 0) → List ℕ → Type 0
Either L M c = L c ⊎ M c

-- ---- the first byte of what follows

-- the first of these bytes, if there is one, fails the test
abbrev pub HeadFails : (ℕ → Bool) → List ℕ → Type 0
HeadFails passes [] = Unit {0}
HeadFails passes (c ∷ s) = passes c ≡ false
