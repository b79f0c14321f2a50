-- Lemmas: a record that is read from a line is valid.
use Rattle.std.proofs.Common.{◌≡◌, ℕ, List, Bool, true, ◌&&◌, refl, subst}
use Rattle.std.specs.Prelude.{IfOk, Result, Ok, Err, codes}
use Rattle.std.proofs.lemmas.Bool.{and_from}
use Rattle.serde_json.specs.Data.{Data}
use Rattle.cpe_rows.specs.cpe_name.Eleven.{Values}
use Rattle.cpe_rows.specs.Names.{is_lower}
use Rattle.cpe_rows.specs.Valid.{is_id, is_statement_test}
use Rattle.cpe_records.specs.Gives.{◌>>=◌, ReadsMember}
use Rattle.cpe_records.specs.RecordKinds.{record_kind_of}
use Rattle.cpe_records.specs.Forms.{word_at, text_or_empty}
use Rattle.cpe_records.specs.Names.{name_at}
use Rattle.cpe_records.specs.Formats.{format_at}
use Rattle.cpe_records.specs.declared.format.Format.{Format}
use Rattle.cpe_records.specs.Tests.{test_at}
use Rattle.cpe_records.specs.Kinds.{statement_id_at, entry_in, deprecation_in, restore_in, key_at, check_in, search_in, statement_in, mode_at}
use Rattle.cpe_rows.specs.declared.edit.Edit.{Edit}
use Rattle.cpe_rows.specs.declared.edit.Edit.TheVariants as edit
use Rattle.cpe_rows.specs.declared.statement.Statement.{Statement}
use Rattle.cpe_records.specs.Taken.{is_valid_record}
use Rattle.cpe_records.specs.Reading.{record_by, record_of, record_json_of}
use Rattle.cpe_records.specs.Line.{json_value_of}
use Rattle.cpe_records.specs.declared.read.Record.{Record}
use Rattle.cpe_records.specs.declared.read.Record.TheVariants as TheRecord
use Rattle.cpe_records.specs.declared.record_kind.RecordKind.{RecordKind}
use Rattle.cpe_records.specs.declared.record_kind.RecordKind.TheVariants as record_kind
use Rattle.cpe_records.specs.declared.member.Member.TheVariants as member
use Rattle.cpe_records.specs.declared.member.RecordFault.{RecordFault}
use Rattle.cpe_records.specs.FirstFault.{Yields}
use Rattle.cpe_records.proofs.YieldLemmas.{then_yields, behind}
use Rattle.cpe_records.proofs.LowerNames.{name_lower}
use Rattle.cpe_records.proofs.ValidLemmas.{entry_valid, deprecate_valid, amend_valid, restore_valid, check_valid, search_valid, id_valid, is_new, as_edit, as_query}
use Rattle.cpe_records.proofs.StatementTests.{test_at_valid}

-- whether the id and the test of a statement have their forms
abbrev is_whole : Statement → Bool
is_whole s = is_id s.id && is_statement_test s.test

statement_valid : (f : Format) (d : Data) → Yields is_whole (statement_in f d)
unfolding statement_in
statement_valid f d =
    then_yields is_id is_whole (statement_id_at d) _ (id_valid d)
    (λ i h. behind is_whole (text_or_empty member.Title (codes "title") d) _
    (λ title. behind is_whole (mode_at d) _ (λ mode. then_yields is_statement_test is_whole (test_at f d) _ (test_at_valid f d) (λ t k. and_from _ _ h k))))

-- lemmas: a record that has only a name is valid, and so is a record that a reader of edits returns
name_valid : (f : Format) (d : Data) (as_record : Values → Record) → ((n : Values) → is_lower n ≡ true → is_valid_record (as_record n) ≡ true) → Yields is_valid_record (name_at f d >>= λ n. Ok (as_record n))
name_valid f d as_record h = then_yields is_lower is_valid_record (name_at f d) _ (name_lower f d) h

edit_valid : (r : Result Edit RecordFault) → Yields as_edit r → Yields is_valid_record (r >>= λ e. Ok (TheRecord.Edit e))
edit_valid r h = then_yields as_edit is_valid_record r _ h (λ e k. k)

pub record_valid : (v : RecordKind) (f : Format) (d : Data) → Yields is_valid_record (record_by v f d)
record_valid record_kind.Entry f d = then_yields is_new is_valid_record (entry_in f d) _ (entry_valid f d) (λ e h. h)
record_valid record_kind.Deprecate f d = edit_valid (deprecation_in edit.Deprecate f d) (deprecate_valid f d)
record_valid record_kind.Amend f d = edit_valid (deprecation_in edit.Amend f d) (amend_valid f d)
record_valid record_kind.Restore f d = edit_valid (restore_in f d) (restore_valid f d)
record_valid record_kind.Item f d = name_valid f d _ (λ n h. h)
record_valid record_kind.DropItem f d = name_valid f d _ (λ n h. h)
record_valid record_kind.Statement f d = then_yields is_whole is_valid_record (statement_in f d) _ (statement_valid f d) (λ s h. h)
record_valid record_kind.DropStatement f d = then_yields is_id is_valid_record (statement_id_at d) _ (id_valid d) (λ i h. h)
record_valid record_kind.Check f d = edit_valid (check_in d) (check_valid d)
record_valid record_kind.DropCheck f d = behind is_valid_record (key_at d) _ (λ k. refl)
record_valid record_kind.Lookup f d = name_valid f d _ (λ n h. h)
record_valid record_kind.Search f d = then_yields as_query is_valid_record (search_in f d) _ (search_valid f d) (λ q h. h)
record_valid record_kind.Items f d = name_valid f d _ (λ n h. h)
record_valid record_kind.Chain f d = name_valid f d _ (λ n h. h)
record_valid record_kind.Show f d = name_valid f d _ (λ n h. h)
record_valid record_kind.Verdict f d = then_yields is_id is_valid_record (statement_id_at d) _ (id_valid d) (λ i h. h)

-- lemma: if a line is a record, the record is valid
pub line_valid : (line : List ℕ) → Yields is_valid_record (record_of line)
unfolding record_of
line_valid line =
    behind is_valid_record (record_json_of (json_value_of line)) _ (λ d. behind is_valid_record (word_at record_kind_of member.Do d) _ (λ v. behind is_valid_record (format_at d) _ (λ f. record_valid v f d)))

-- lemma: a record that was read is valid
pub read_valid : (line : List ℕ) (r : Record) → record_of line ≡ Ok r → is_valid_record r ≡ true
read_valid line r e = subst (Yields is_valid_record) e (line_valid line)

-- lemma: a record that a reader of the line returned is valid
pub valid_by : (line : List ℕ) (r : Result Record RecordFault) → ReadsMember r (record_of line) → IfOk r (λ x. is_valid_record x ≡ true)
valid_by line (Ok x) h = read_valid line x h
valid_by line (Err e) h = tt
