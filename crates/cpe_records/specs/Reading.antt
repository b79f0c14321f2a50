-- The record that a line is.
use Rattle.std.specs.Prelude.{ℕ, List, Option, Result, Ok, ok_or}
use Rattle.serde_json.specs.Data.{Data}
use Rattle.cpe_rows.specs.declared.edit.Edit.TheVariants as edit
use Rattle.cpe_rows.specs.declared.edit.Query.TheVariants as query
use Rattle.cpe_records.specs.Gives.{◌>>=◌}
use Rattle.cpe_records.specs.Line.{json_value_of}
use Rattle.cpe_records.specs.RecordKinds.{record_kind_of}
use Rattle.cpe_records.specs.Forms.{word_at}
use Rattle.cpe_records.specs.Formats.{format_at}
use Rattle.cpe_records.specs.declared.format.Format.{Format}
use Rattle.cpe_records.specs.Names.{name_at}
use Rattle.cpe_records.specs.Kinds.{statement_id_at, entry_in, deprecation_in, restore_in, statement_in, key_at, check_in, search_in}
use Rattle.cpe_records.specs.declared.read.Record.{Record}
use Rattle.cpe_records.specs.declared.read.Record.TheVariants.{Edit, Query}
use Rattle.cpe_records.specs.declared.record_kind.RecordKind.{RecordKind}
use Rattle.cpe_records.specs.declared.record_kind.RecordKind.TheVariants as record_kind
use Rattle.cpe_records.specs.declared.member.Member.TheVariants as member
use Rattle.cpe_records.specs.declared.member.RecordFault.{RecordFault}
use Rattle.cpe_records.specs.declared.member.RecordFault.TheVariants as fault

-- the record of this kind, by its members in this format
abbrev pub record_by : RecordKind → Format → Data → Result Record RecordFault
record_by record_kind.Entry f d = entry_in f d >>= λ e. Ok (Edit (edit.Entry e))
record_by record_kind.Deprecate f d = deprecation_in edit.Deprecate f d >>= λ e. Ok (Edit e)
record_by record_kind.Amend f d = deprecation_in edit.Amend f d >>= λ e. Ok (Edit e)
record_by record_kind.Restore f d = restore_in f d >>= λ e. Ok (Edit e)
record_by record_kind.Item f d = name_at f d >>= λ n. Ok (Edit (edit.Item n))
record_by record_kind.DropItem f d = name_at f d >>= λ n. Ok (Edit (edit.DropItem n))
record_by record_kind.Statement f d = statement_in f d >>= λ s. Ok (Edit (edit.PutStatement s))
record_by record_kind.DropStatement f d = statement_id_at d >>= λ id. Ok (Edit (edit.DropStatement id))
record_by record_kind.Check f d = check_in d >>= λ e. Ok (Edit e)
record_by record_kind.DropCheck f d = key_at d >>= λ k. Ok (Edit (edit.DropCheck k))
record_by record_kind.Lookup f d = name_at f d >>= λ n. Ok (Query (query.Lookup n))
record_by record_kind.Search f d = search_in f d >>= λ q. Ok (Query q)
record_by record_kind.Items f d = name_at f d >>= λ n. Ok (Query (query.Items n))
record_by record_kind.Chain f d = name_at f d >>= λ n. Ok (Query (query.Chain n))
record_by record_kind.Show f d = name_at f d >>= λ n. Ok (Query (query.Show n))
record_by record_kind.Verdict f d = statement_id_at d >>= λ id. Ok (Query (query.Verdict id))

abbrev pub record_json_of : Option Data → Result Data RecordFault
record_json_of value = ok_or value fault.Json

-- a record: first the JSON value, then its kind, then its format, then the members of that kind
unfoldable pub record_of : List ℕ → Result Record RecordFault
record_of line = do
  d ← record_json_of (json_value_of line)
  v ← word_at record_kind_of member.Do d
  f ← format_at d
  record_by v f d
