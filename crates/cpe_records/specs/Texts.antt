-- Edits and questions whose texts are UTF-8, like the texts of rows.
use Rattle.cpe_rows.specs.declared.edit.Edit.{Edit}
use Rattle.cpe_rows.specs.declared.edit.Edit.TheVariants as edit
use Rattle.cpe_rows.specs.declared.edit.Query.{Query}
use Rattle.cpe_rows.specs.declared.edit.Query.TheVariants as query
use Rattle.snapshot_bytes.specs.States.{IsString, IsTextEntry, IsTextKey, IsTextStatement}

abbrev pub IsTextEdit : Edit → Type 0
IsTextEdit (edit.Entry e) = IsTextEntry e
IsTextEdit (edit.Item n) = Unit {0}
IsTextEdit (edit.DropItem n) = Unit {0}
IsTextEdit (edit.Deprecate n d date comment) = IsString comment
IsTextEdit (edit.Amend n d date comment) = IsString comment
IsTextEdit (edit.Restore n date comment) = IsString comment
IsTextEdit (edit.PutStatement s) = IsTextStatement s
IsTextEdit (edit.DropStatement id) = IsString id
IsTextEdit (edit.SetCheck k t) = IsTextKey k
IsTextEdit (edit.DropCheck k) = IsTextKey k

abbrev pub IsTextQuery : Query → Type 0
IsTextQuery (query.Lookup n) = Unit {0}
IsTextQuery (query.Search n active_only) = Unit {0}
IsTextQuery (query.Items n) = Unit {0}
IsTextQuery (query.Chain n) = Unit {0}
IsTextQuery (query.Show n) = Unit {0}
IsTextQuery (query.Verdict id) = IsString id
