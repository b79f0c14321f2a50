-- Properties of each record that is read.
use Rattle.std.specs.List.{AllByRecursion}
use Rattle.cpe_rows.specs.cpe_name.Names.{IsName}
use Rattle.cpe_rows.specs.FactNames.{fact_names}
use Rattle.cpe_rows.specs.Formed.{IsFormed}
use Rattle.cpe_rows.specs.declared.edit.Edit as edits
use Rattle.cpe_rows.specs.declared.edit.Query as queries
use Rattle.cpe_rows.specs.declared.test.Test.{Test}
use Rattle.snapshot_bytes.specs.States.{IsTextKey, keys_of}
use Rattle.cpe_records.specs.Taken.{IsFormedQuery}
use Rattle.cpe_records.specs.Texts.{IsTextEdit, IsTextQuery}
use Rattle.cpe_records.specs.declared.read.Record.{Record}
use Rattle.cpe_records.specs.declared.read.Record.TheVariants.{Edit, Query}

-- a test whose names are well-formed (NIST IR 7695, 5), and whose keys of checks are UTF-8
pub record IsReadTest (t : Test) : Type 0 where
  pub names : AllByRecursion IsName (fact_names t)
  pub keys : AllByRecursion IsTextKey (keys_of t)

-- an edit whose names are well-formed, whose dates have the form of a date, and whose texts are UTF-8
abbrev pub IsReadEdit : edits.Edit → Type 0
IsReadEdit e = IsFormed e × IsTextEdit e

-- a question whose name is well-formed, and whose text is UTF-8
abbrev pub IsReadQuery : queries.Query → Type 0
IsReadQuery q = IsFormedQuery q × IsTextQuery q

abbrev pub IsRead : Record → Type 0
IsRead (Edit e) = IsReadEdit e
IsRead (Query q) = IsReadQuery q
