-- Properties that rows and edits have by the types of their parts: names are well-formed (NIST IR 7695, 5), and dates
-- have the form of a date.
use Rattle.std.specs.Prelude.{⊤, IsTrue, All}
use Rattle.cpe_name.specs.Names.{IsName}
use Rattle.cpe_rows.specs.Rows.{Rows}
use Rattle.cpe_rows.specs.Chains.{successors_of}
use Rattle.cpe_rows.specs.Date.{is_date}
use Rattle.cpe_rows.specs.FactNames.{fact_names}
use Rattle.cpe_rows.specs.declared.entry.Entry.{Entry}
use Rattle.cpe_rows.specs.declared.entry.Note.{Note}
use Rattle.cpe_rows.specs.declared.statement.Statement.{Statement}
use Rattle.cpe_rows.specs.declared.edit.Edit.{Edit}
use Rattle.cpe_rows.specs.declared.edit.Edit.TheVariants as edit

abbrev pub IsDated : Note → Type 0
IsDated note = IsTrue (is_date note.date)

pub record IsFormedEntry (e : Entry) : Type 0 where
  pub name : IsName e.name
  pub successors : All IsName (successors_of e)
  pub notes : All IsDated e.provenance.notes

abbrev pub IsFormedStatement : Statement → Type 0
IsFormedStatement s = All IsName (fact_names s.test)

pub record AreFormed (rows : Rows) : Type 0 where
  pub entries : All IsFormedEntry rows.entries
  pub items : All IsName rows.items
  pub statements : All IsFormedStatement rows.statements

abbrev pub IsFormed : Edit → Type 0
IsFormed (edit.Entry e) = IsFormedEntry e
IsFormed (edit.Item n) = IsName n
IsFormed (edit.DropItem n) = IsName n
IsFormed (edit.Deprecate n d date comment) = IsName n × All IsName d.successors × IsTrue (is_date date)
IsFormed (edit.Amend n d date comment) = IsName n × All IsName d.successors × IsTrue (is_date date)
IsFormed (edit.Restore n date comment) = IsName n × IsTrue (is_date date)
IsFormed (edit.PutStatement s) = IsFormedStatement s
IsFormed (edit.DropStatement id) = ⊤
IsFormed (edit.SetCheck k t) = ⊤
IsFormed (edit.DropCheck k) = ⊤
