-- The parts of a snapshot: numbers, texts, names and lists.
use Rattle.std.specs.Prelude.{ℕ, List, ◌++◌, length}
use Rattle.std.specs.Int.{to_be_bytes, w32}
use Rattle.std.specs.List.{flat_map}
use Rattle.cpe_rows.specs.cpe_name.Eleven.{Values}
use Rattle.cpe_fs.specs.Grammar.{fs_text}

-- the four bytes of a number, the highest first
abbrev pub number : ℕ → List ℕ
number n = to_be_bytes w32 n

-- the number of bytes, and then the bytes
abbrev pub text : List ℕ → List ℕ
text bytes = number (length bytes) ++ bytes

-- the formatted string of a name, as a text (NIST IR 7695, 6.2)
abbrev pub name : Values → List ℕ
name n = text (fs_text n)

-- the number of elements, and then the elements
abbrev pub list : {A : Type 0} → (A → List ℕ) → List A → List ℕ
list each xs = number (length xs) ++ flat_map each xs
