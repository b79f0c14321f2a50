-- The members of each kind of record, in the order in which they are tested, in the format of the record.
use Rattle.std.specs.Prelude.{ℕ, List, codes, None, Result, Ok, option_and_then}
use Rattle.serde_json.specs.Data.{Data}
use Rattle.serde_json.specs.Find.{as_str}
use Rattle.cpe_rows.specs.cpe_name.Eleven.{Values}
use Rattle.cpe_rows.specs.Valid.{is_id}
use Rattle.cpe_rows.specs.declared.entry.Deprecation.{Deprecation}
use Rattle.cpe_rows.specs.declared.entry.Entry.{Entry}
use Rattle.cpe_rows.specs.declared.statement.Mode.{Mode}
use Rattle.cpe_rows.specs.declared.statement.Mode.TheVariants.{Plain}
use Rattle.cpe_rows.specs.declared.statement.Statement.{Statement}
use Rattle.cpe_rows.specs.declared.test.CheckKey.{CheckKey}
use Rattle.cpe_rows.specs.declared.edit.Edit.{Edit}
use Rattle.cpe_rows.specs.declared.edit.Edit.TheVariants as edit
use Rattle.cpe_rows.specs.declared.edit.Query.{Query}
use Rattle.cpe_rows.specs.declared.edit.Query.TheVariants as query
use Rattle.cpe_records.specs.Gives.{◌>>=◌}
use Rattle.cpe_records.specs.Words.{kind_of, mode_of, truth_of_word}
use Rattle.cpe_records.specs.Forms.{required_member, or_default, tested, member_at, text_at, word_at, text_or_empty, flag_or_false, date_at}
use Rattle.cpe_records.specs.Names.{name_at, successors_at}
use Rattle.cpe_records.specs.declared.format.Format.{Format}
use Rattle.cpe_records.specs.Provenance.{provenance_or_empty}
use Rattle.cpe_records.specs.Tests.{test_at}
use Rattle.cpe_records.specs.declared.kinds.Description.{Description}
use Rattle.cpe_records.specs.declared.kinds.Remark.{Remark}
use Rattle.cpe_records.specs.declared.kinds.DeprecationChange.{DeprecationChange}
use Rattle.cpe_records.specs.declared.member.Member.TheVariants as member
use Rattle.cpe_records.specs.declared.member.RecordFault.{RecordFault}

-- ---- forms of single members

abbrev pub comment_at : Data → Result (List ℕ) RecordFault
comment_at = text_or_empty member.Comment (codes "comment")

-- the id of a statement: 1 to 256 visible characters
abbrev pub statement_id_at : Data → Result (List ℕ) RecordFault
statement_id_at = word_at (tested is_id) member.Id

abbrev pub mode_at : Data → Result Mode RecordFault
mode_at d = required_member member.Mode (or_default Plain (λ e. option_and_then mode_of (as_str e)) (member_at member.Mode d))

-- ---- kinds

-- the members of an entry after its name
unfoldable pub description_in : Data → Result Description RecordFault
description_in d = do
  title ← text_or_empty member.Title (codes "title") d
  provenance ← provenance_or_empty (member_at member.Provenance d)
  Ok (record { title = title; provenance = provenance })

unfoldable pub entry_in : Format → Data → Result Entry RecordFault
entry_in f d = do
  name ← name_at f d
  rest ← description_in d
  Ok (record { name = name; title = rest.title; provenance = rest.provenance; deprecation = None })

unfoldable pub remark_in : Data → Result Remark RecordFault
remark_in d = do
  date ← date_at member.Date d
  comment ← comment_at d
  Ok (record { date = date; comment = comment })

-- the members of a deprecation after the entry's name
unfoldable pub change_in : Format → Data → Result DeprecationChange RecordFault
change_in f d = do
  kind ← word_at kind_of member.Kind d
  successors ← successors_at f d
  remark ← remark_in d
  Ok (record { deprecation = record { kind = kind; successors = successors }; remark = remark })

-- a deprecation, as an edit of this kind
unfoldable pub deprecation_in : (Values → Deprecation → List ℕ → List ℕ → Edit) → Format → Data → Result Edit RecordFault
deprecation_in kind f d = do
  name ← name_at f d
  rest ← change_in f d
  Ok (kind name rest.deprecation rest.remark.date rest.remark.comment)

unfoldable pub restore_in : Format → Data → Result Edit RecordFault
restore_in f d = do
  name ← name_at f d
  rest ← remark_in d
  Ok (edit.Restore name rest.date rest.comment)

unfoldable pub statement_in : Format → Data → Result Statement RecordFault
statement_in f d = do
  id ← statement_id_at d
  title ← text_or_empty member.Title (codes "title") d
  mode ← mode_at d
  test ← test_at f d
  Ok (record { id = id; title = title; mode = mode; test = test })

unfoldable pub key_at : Data → Result CheckKey RecordFault
key_at d = do
  system ← text_at member.System d
  href ← text_at member.Href d
  id ← text_at member.Id d
  Ok (record { system = system; href = href; id = id })

unfoldable pub check_in : Data → Result Edit RecordFault
check_in d = do
  key ← key_at d
  result ← word_at truth_of_word member.Result d
  Ok (edit.SetCheck key result)

unfoldable pub search_in : Format → Data → Result Query RecordFault
search_in f d = do
  name ← name_at f d
  active ← flag_or_false member.Active (codes "active") d
  Ok (query.Search name active)
