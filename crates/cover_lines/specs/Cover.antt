-- The cover of names: the names that no other of them covers, each once, in lower case, in the order of the bytes of their formatted
-- strings.
use Rattle.std.specs.Prelude.{Bool, not, ◌&&◌, List, [], ◌∷◌, map, filter, if◌then◌else◌}
use Rattle.std.specs.List.{list_any}
use Rattle.std.specs.Cmp.Lexicographic.{slice_cmp}
use Rattle.std.specs.Ordering.{nat_cmp, is_lt}
use Rattle.std.specs.declared.cmp.Ordering.{Ordering}
use Rattle.cpe_rows.specs.cpe_name.Eleven.{Values}
use Rattle.cpe_rows.specs.cpe_name.Equal.{same_name}
use Rattle.cpe_rows.specs.cpe_name.Lower.{lower_name}
use Rattle.cpe_relation.specs.NameRelation.{covers}
use Rattle.cpe_fs.specs.Grammar.{fs_text}

-- The order by the bytes of the whole formatted strings. So `p1` is before `p`: a colon follows each value, and digits are less than a
-- colon.
unfoldable pub fs_order : Values → Values → Ordering
fs_order a b = slice_cmp nat_cmp (fs_text a) (fs_text b)

-- the first name covers the second, and they aren't the same name
abbrev pub covers_other : Values → Values → Bool
covers_other m n = not (same_name m n) && covers m n

-- some other of the names covers this name
abbrev pub is_covered_by_some : List Values → Values → Bool
is_covered_by_some names n = list_any (λ m. covers_other m n) names

-- sorted names, with this name at its place, unless it is one of them
abbrev pub put_in_order : Values → List Values → List Values
put_in_order n [] = n ∷ []
put_in_order n (m ∷ ms) =
    if same_name n m then m ∷ ms
    else (if is_lt (fs_order n m) then n ∷ m ∷ ms else m ∷ put_in_order n ms)

-- the names sorted, each once
abbrev pub ordered : List Values → List Values
ordered [] = []
ordered (n ∷ ns) = put_in_order n (ordered ns)

-- the names that no other of them covers
abbrev pub uncovered : List Values → List Values
uncovered names = filter (λ n. not (is_covered_by_some names n)) names

abbrev pub cover : List Values → List Values
cover names = ordered (uncovered (map lower_name names))
