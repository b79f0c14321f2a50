-- The sources of an entry (NIST IR 7697: the deprecation chain in the opposite direction).
use Rattle.std.specs.Prelude.{◌≡◌, ◌↔◌, ℕ, List, IsTrue, Some, slice_get}
use Rattle.std.specs.List.{Contains}
use Rattle.std.specs.List.Sorted.{IsStrictlyIncreasing}
use Rattle.cpe_rows.specs.cpe_name.Eleven.{Values}
use Rattle.cpe_rows.specs.Chains.{leads_to}
use Rattle.cpe_rows.specs.declared.entry.Entry.{Entry}

-- the number is that of a source: of an entry that leads to this name
abbrev pub IsSource : List Entry → Values → ℕ → Type 0
IsSource es to k = (e : Entry) × (slice_get es k ≡ Some e) × IsTrue (leads_to es e.name to)

-- exactly the numbers of the sources, in increasing order
pub record AreSourcesOf (es : List Entry) (to : Values) (ks : List ℕ) : Type 0 where
  pub rising : IsStrictlyIncreasing ks
  pub members : (k : ℕ) → Contains ks k ↔ IsSource es to k
