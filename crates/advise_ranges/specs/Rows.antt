-- The rows: the items and advisories that accepted edits leave, in the order in which they were added. Names are in lower case.
use Rattle.std.specs.Prelude.{ℕ, List, [], Bool, Option, find}
use Rattle.std.specs.List.{list_any}
use Rattle.std.specs.Str.{bytes_eq}
use Rattle.cpe_rows.specs.cpe_name.Eleven.{Values}
use Rattle.cpe_rows.specs.Names.{is_same}
use Rattle.advise_ranges.specs.declared.advisory.Advisory.{Advisory}

pub record AdviceRows : Type 0 where
  pub items : List Values
  pub advisories : List Advisory

abbrev pub no_advice_rows : AdviceRows
no_advice_rows = record { items = []; advisories = [] }

-- the advisory has this id
abbrev pub has_advisory_id : List ℕ → Advisory → Bool
has_advisory_id id a = bytes_eq id a.id

-- an item has this name
abbrev pub is_advice_item : AdviceRows → Values → Bool
is_advice_item rows n = list_any (is_same n) rows.items

-- an advisory has this id
abbrev pub is_advisory : AdviceRows → List ℕ → Bool
is_advisory rows id = list_any (has_advisory_id id) rows.advisories

-- the advisory of this id
abbrev pub advisory_of : AdviceRows → List ℕ → Option Advisory
advisory_of rows id = find (has_advisory_id id) rows.advisories
