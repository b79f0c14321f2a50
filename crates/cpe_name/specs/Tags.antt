-- Language tags (NIST IR 7695, 5.3): their scanners, and their texts. A text spells the hyphen of a tag in its own way.
-- The law `language_tags` says which texts the scanners take.
use Rattle.std.specs.Prelude.{◌≡◌, ℕ, Bool, true, false, List, [], ◌∷◌, ◌++◌, Ok, ◌==◌}
use Rattle.name_grammar.specs.Scanners.{Scanner, ◌>>=◌, scan_both, choose, nothing, scan_one, run}
use Rattle.name_grammar.specs.Scanned.{Scans, Empty, OneOf, Run, Joined, Either, HeadFails}
use Rattle.cpe_values.specs.Spelling.{is_letter, is_digit}

-- ---- scanners

-- takes two letters
unfoldable pub letters_end : Scanner
letters_end s = run 2 is_letter s

-- takes three digits
unfoldable pub digits_end : Scanner
digits_end s = run 3 is_digit s

-- takes the code of a region
unfoldable pub code_end : Scanner
code_end s = choose is_digit digits_end letters_end s

-- takes one letter, or nothing
unfoldable pub third_end : Scanner
third_end s = choose is_letter (scan_one is_letter) nothing s

-- takes a hyphen and a code if a hyphen begins there, else nothing
unfoldable pub region_end : (ℕ → Bool) → Scanner → Scanner
region_end begins hyphen s = choose begins (scan_both hyphen code_end) nothing s

-- takes two or three letters, and a region
unfoldable pub tag_end : (ℕ → Bool) → Scanner → Scanner
tag_end begins hyphen s = letters_end s >>= third_end >>= region_end begins hyphen

-- ---- texts of tags

-- the bytes are the code of a region: three digits or two letters
abbrev pub Code : List ℕ → Type 0
Code = Either (Run 3 is_digit) (Run 2 is_letter)

-- the bytes are a third letter, or nothing
abbrev pub Third : List ℕ → Type 0
Third = Either (OneOf is_letter) Empty

-- the bytes are the spelling of a hyphen
abbrev pub Hyphen : (List ℕ → Bool) → List ℕ → Type 0
Hyphen spells h = spells h ≡ true

-- the bytes are a hyphen and a code, or nothing
abbrev pub Region : (List ℕ → Bool) → List ℕ → Type 0
Region spells = Either (Joined (Hyphen spells) Code) Empty

-- the bytes are two or three letters, and a region
abbrev pub Tag : (List ℕ → Bool) → List ℕ → Type 0
Tag spells = Joined (Joined (Run 2 is_letter) Third) (Region spells)

-- the bytes are one hyphen, without a backslash
abbrev pub is_bare_hyphen : List ℕ → Bool
is_bare_hyphen [] = false
is_bare_hyphen (c ∷ []) = c == 45
is_bare_hyphen (c ∷ d ∷ s) = false

-- ---- spellings of hyphens

-- the bytes begin with the first byte of a hyphen, which is not a letter
pub record BeginsWithTag (begins : ℕ → Bool) (s : List ℕ) : Type 0 where
  pub first : ℕ
  pub more : List ℕ
  pub is : s ≡ first ∷ more
  pub leads : begins first ≡ true
  pub no_letter : is_letter first ≡ false

-- the spellings of a hyphen, the bytes with which they begin, and their scanner fit together
pub record IsHyphen (spells : List ℕ → Bool) (begins : ℕ → Bool) (hyphen : Scanner) : Type 0 where
  pub scans : Scans (Hyphen spells) hyphen
  pub taken : (h r : List ℕ) → Hyphen spells h → hyphen (h ++ r) ≡ Ok r
  pub leads : (h r : List ℕ) → Hyphen spells h → BeginsWithTag begins (h ++ r)

-- the bytes begin with neither a letter nor a hyphen, so a tag before them ends there
pub record TagEnds (begins : ℕ → Bool) (r : List ℕ) : Type 0 where
  pub letter : HeadFails is_letter r
  pub hyphen : HeadFails begins r
