-- Rows that are read from bytes and added one after another.
use Rattle.std.specs.Prelude.{◌≡◌, ℕ, List, [], ◌∷◌, map, Option, Some}
use Rattle.cpe_rows.specs.cpe_name.Eleven.{Values}
use Rattle.cpe_rows.specs.Lawful.{IsLawful}
use Rattle.cpe_rows.specs.Rows.{Rows}
use Rattle.cpe_rows.specs.declared.entry.Entry.{Entry}
use Rattle.cpe_rows.specs.declared.statement.Statement.{Statement}
use Rattle.snapshot_bytes.specs.Reading.{many, name_at, result_at, statement_at}
use Rattle.snapshot_bytes.specs.States.{AreMeantEntries, pair_of_result}
use Rattle.snapshot_bytes.specs.declared.fault.LoadFault.{LoadFault}
use Rattle.snapshot_bytes.specs.declared.fault.LoadFault.TheVariants.{NotSnapshot}
use Rattle.snapshot_bytes.specs.declared.load.Head.{Head}
use Rattle.snapshot_bytes.specs.declared.rows.KeptResult.{KeptResult}
use Rattle.snapshot_bytes.specs.declared.rows.PlacedDeprecation.{PlacedDeprecation}
use Rattle.snapshot_bytes.specs.declared.rows.PlacedEntry.{PlacedEntry}
use Rattle.engine_snapshot.specs.Begun.{with_checks, rows_with_entries, with_items, with_statements}
use Rattle.engine_snapshot.specs.Meant.{active_placed}
use Rattle.engine_snapshot.specs.Begun.{entries_alone}

-- ---- rows with further rows at the end

-- the rows with these entries at the end, as active ones
abbrev pub with_placed : Rows → List PlacedEntry → Rows
with_placed rows ps = rows_with_entries rows (map active_placed ps)

abbrev pub with_results : Rows → List KeptResult → Rows
with_results rows ks = with_checks rows (map pair_of_result ks)

-- ---- one row

-- if the fault is `NotSnapshot`, these rows don't fit with this row, and any further rows, at their end
abbrev pub NotAfter : {A : Type 0} → (Rows → List A → Rows) → (Rows → Type 0) → Rows → A → LoadFault → Type 0
NotAfter {A} put Fits rows x f = f ≡ NotSnapshot → (more : List A) → Fits (put rows (x ∷ more)) → ⊥

-- ---- rows of one kind

-- The rows that are read are added.
pub record ArePut {A : Type 0} (put : Rows → List A → Rows) (read : Option (List A × List ℕ)) (left : List ℕ) (old new : Rows) : Type 0 where
  pub rows : List A
  pub are_read : read ≡ Some (rows, left)
  pub are_put : new ≡ put old rows

-- if the fault is `NotSnapshot` and rows are read, these rows don't fit with the read rows at their end
abbrev pub NonePut : {A : Type 0} → (Rows → List A → Rows) → (Rows → Type 0) → Option (List A × List ℕ) → Rows → LoadFault → Type 0
NonePut {A} put Fits read rows f = f ≡ NotSnapshot → (xs : List A) (left : List ℕ) → read ≡ Some (xs, left) → Fits (put rows xs) → ⊥

-- The entries that are read are added as active ones, and their deprecations are kept.
pub record AreEntriesPut (read : Option (List PlacedEntry × List ℕ)) (left : List ℕ) (old new : Rows) (deprecations : List (Option PlacedDeprecation)) : Type 0 where
  pub are_put : ArePut with_placed read left old new
  pub deprecations_are : deprecations ≡ map (λ p. p.deprecation) are_put.rows

-- ---- all entries

-- The entries that are read have places, and the rows are the entries that they mean.
pub record AreEntriesLoaded (read : Option (List PlacedEntry × List ℕ)) (left : List ℕ) (rows : Rows) : Type 0 where
  pub placed : List PlacedEntry
  pub entries : List Entry
  pub are_read : read ≡ Some (placed, left)
  pub are_meant : AreMeantEntries placed placed entries
  pub are_rows : rows ≡ entries_alone entries

-- reading gives no entries that mean lawful entries
abbrev pub NoEntries : Option (List PlacedEntry × List ℕ) → Type 0
NoEntries read = (placed : List PlacedEntry) (left : List ℕ) (entries : List Entry) → read ≡ Some (placed, left) → AreMeantEntries placed placed entries → IsLawful (entries_alone entries) → ⊥

-- ---- all other rows

-- The rows after the entries: items, statements and results of checks, to the end of the bytes.
pub record Others (head : Head) (bytes : List ℕ) : Type 0 where
  pub items : List Values
  pub after_items : List ℕ
  pub statements : List Statement
  pub after_statements : List ℕ
  pub results : List KeptResult
  pub items_are : many name_at head.items bytes ≡ Some (items, after_items)
  pub statements_are : many statement_at head.statements after_items ≡ Some (statements, after_statements)
  pub results_are : many result_at head.results after_statements ≡ Some (results, [])

abbrev pub with_others : {head : Head} → {bytes : List ℕ} → Rows → Others head bytes → Rows
with_others rows others = with_results (with_statements (with_items rows others.items) others.statements) others.results
