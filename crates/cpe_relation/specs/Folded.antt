-- The bytes of a text as the search reads them. No public clause uses this.
use Rattle.std.specs.Prelude.{ℕ, ◌<◌, Bool, true, false, List, slice_index}
use Rattle.std.specs.Char.{to_ascii_lowercase}
use Rattle.memchr.specs.declared.arch.all.twoway.Shift.{Shift}
use Rattle.memchr.specs.declared.arch.all.twoway.Shift.TheVariants.{Small, Large}

-- the byte at a place, in lower case
abbrev pub table_index : List ℕ → ℕ → ℕ
table_index xs k = to_ascii_lowercase (slice_index xs k)

-- the usual order of bytes, or the opposite one
abbrev pub IsBefore : Bool → ℕ → ℕ → Type 0
IsBefore true a b = a < b
IsBefore false a b = b < a

-- how far the search moves: by the body's period, or by at most that
abbrev pub shift_of : Bool → ℕ → Shift
shift_of true n = Small n
shift_of false n = Large n
