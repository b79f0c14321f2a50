-- Lemmas: the record that is read from a line is formed, and its texts are UTF-8.
use Rattle.std.proofs.Common.{◌≡◌, ℕ, List, [], ◌∷◌, Bool, true, false, Option, Some, None, IfSome, if◌then◌else◌, codes, refl}
use Rattle.std.specs.Prelude.{Result, Ok, IfOk, IsTrue, option_and_then}
use Rattle.std.specs.List.{AllByRecursion}
use Rattle.std.specs.Str.{is_utf8}
use Rattle.std.proofs.lemmas.List.Elements.{All-from_recursion, All-nil}
use Rattle.std.proofs.lemmas.Str.{IsUtf8-from_is_utf8}
use Rattle.serde_json.specs.Data.{Data}
use Rattle.serde_json.specs.Find.{as_object}
use Rattle.serde_json.specs.Read.{read}
use Rattle.cpe_records.specs.JsonTexts.{HasTexts}
use Rattle.cpe_records.proofs.Values.{values_text}
use Rattle.cpe_rows.specs.cpe_name.Eleven.{Values}
use Rattle.cpe_rows.specs.cpe_name.Names.{IsName}
use Rattle.cpe_rows.specs.Date.{is_date}
use Rattle.cpe_rows.specs.Formed.{IsDated, IsFormedEntry, IsFormedStatement}
use Rattle.cpe_rows.specs.Valid.{is_id}
use Rattle.cpe_rows.specs.declared.edit.Edit.{Edit}
use Rattle.cpe_rows.specs.declared.edit.Edit.TheVariants as edit
use Rattle.cpe_rows.specs.declared.entry.Deprecation.{Deprecation}
use Rattle.cpe_rows.specs.declared.entry.Entry.{Entry}
use Rattle.cpe_rows.specs.declared.entry.Note.{Note}
use Rattle.cpe_rows.specs.declared.entry.Provenance.{Provenance}
use Rattle.cpe_rows.specs.declared.statement.Statement.{Statement}
use Rattle.cpe_records.specs.FirstFault.{◌>>=◌, all_from}
use Rattle.cpe_records.specs.Forms.{required_member, tested, member_at, text_in, text_at, word_at, text_or_empty, flag_or_false, date_at, list_or_empty}
use Rattle.cpe_records.specs.Formats.{format_at}
use Rattle.cpe_records.specs.Keys.{key_of}
use Rattle.cpe_records.specs.Line.{json_value_of}
use Rattle.cpe_records.specs.Names.{name_at, successors_at}
use Rattle.cpe_records.specs.Provenance.{note_kind_in, note_in, provenance_in, provenance_or_empty}
use Rattle.cpe_records.specs.Tests.{test_at}
use Rattle.cpe_records.specs.Words.{kind_of, truth_of_word}
use Rattle.cpe_records.specs.declared.format.Format.{Format}
use Rattle.cpe_records.specs.declared.member.Member.{Member}
use Rattle.cpe_records.specs.declared.member.Member.TheVariants as member
use Rattle.cpe_records.specs.declared.member.RecordFault.{RecordFault}
use Rattle.cpe_records.specs.Kinds.{comment_at, statement_id_at, mode_at, description_in, entry_in, remark_in, change_in, deprecation_in, restore_in, statement_in, key_at, check_in, search_in}
use Rattle.cpe_records.specs.Reading.{record_by, record_json_of, record_of}
use Rattle.cpe_records.specs.RecordKinds.{record_kind_of}
use Rattle.cpe_records.specs.Taken.{IsFormedQuery}
use Rattle.cpe_records.specs.declared.kinds.DeprecationChange.{DeprecationChange}
use Rattle.cpe_records.specs.declared.kinds.Description.{Description}
use Rattle.cpe_records.specs.declared.kinds.Remark.{Remark}
use Rattle.cpe_records.specs.declared.read.Record.{Record}
use Rattle.cpe_records.specs.declared.read.Record.TheVariants.{Edit as AnEdit}
use Rattle.cpe_records.specs.declared.record_kind.RecordKind.{RecordKind}
use Rattle.cpe_records.specs.declared.record_kind.RecordKind.TheVariants as record_kind
use Rattle.snapshot_bytes.specs.States.{IsString, IsTextEntry, IsTextKey, IsTextStatement}
use Rattle.cpe_records.specs.Read.{IsReadTest, IsReadEdit, IsReadQuery, IsRead}
use Rattle.cpe_records.proofs.ReadLemmas.{then_if, behind_if, all_if, required_if, some_if, tested_if}
use Rattle.cpe_records.proofs.Strings.{get_has, text_in_is, text_at_is, text_or_empty_is, list_or_empty_has, empty_is}
use Rattle.cpe_records.proofs.NamesRead.{name_is, successors_are}
use Rattle.cpe_records.proofs.TestReads.{test_is}

-- ---- members

date_is : (m : Member) (d : Data) → HasTexts d → IfOk (date_at m d) (λ date. IsTrue (is_date date))
date_is m d h =
    required_if (λ date. IsTrue (is_date date)) m (option_and_then (tested is_date) (text_in (codes "date") d))
    (some_if IsString (λ date. IsTrue (is_date date)) (text_in (codes "date") d) (tested is_date) (text_in_is (codes "date") d h) dated)
  where
    dated : (s : List ℕ) → IsString s → IfSome (tested is_date s) (λ date. IsTrue (is_date date))
    dated s k = by (tested is_date s) (tested_if is_date IsString s k) where
      by : (o : Option (List ℕ)) → IfSome o (λ t. IsString t × (is_date t ≡ true)) → IfSome o (λ date. IsTrue (is_date date))
      by (Some t) both = both.1
      by None both = tt

id_is : (d : Data) → HasTexts d → IfOk (statement_id_at d) IsString
id_is d h =
    required_if IsString member.Id (option_and_then (tested is_id) (text_in (key_of member.Id) d))
    (some_if IsString IsString (text_in (key_of member.Id) d) (tested is_id) (text_in_is (key_of member.Id) d h) same)
  where
    same : (s : List ℕ) → IsString s → IfSome (tested is_id s) IsString
    same s k = by (tested is_id s) (tested_if is_id IsString s k) where
      by : (o : Option (List ℕ)) → IfSome o (λ t. IsString t × (is_id t ≡ true)) → IfSome o IsString
      by (Some t) both = both.0
      by None both = tt

comment_is : (d : Data) → HasTexts d → IfOk (comment_at d) IsString
comment_is d h = text_or_empty_is member.Comment (codes "comment") d h

-- ---- an entry

record IsReadNote (n : Note) : Type 0 where
  pub dated : IsDated n
  pub text : IsString n.comment

note_is : (d : Data) → HasTexts d → IfOk (note_in d) IsReadNote
unfolding note_in
note_is d h =
    behind_if IsReadNote (note_kind_in d) _
    (λ kind. then_if (λ date. IsTrue (is_date date)) IsReadNote (date_at member.Provenance d) _ (date_is member.Provenance d h)
    (λ date dated. then_if IsString IsReadNote (text_or_empty member.Provenance (codes "comment") d) _ (text_or_empty_is member.Provenance (codes "comment") d h)
    (λ comment text. record { dated = dated; text = text })))

record IsReadProvenance (v : Provenance) : Type 0 where
  pub submitter : IsString v.submitter
  pub authority : IsString v.authority
  pub notes : AllByRecursion IsReadNote v.notes

provenance_is : (d : Data) → HasTexts d → IfOk (provenance_in d) IsReadProvenance
unfolding provenance_in
provenance_is d h =
    behind_if IsReadProvenance (required_member member.Provenance (as_object d)) _
    (λ ms. then_if IsString IsReadProvenance (text_or_empty member.Provenance (codes "submitter") d) _ (text_or_empty_is member.Provenance (codes "submitter") d h)
    (λ submitter s. then_if IsString IsReadProvenance (text_or_empty member.Provenance (codes "authority") d) _ (text_or_empty_is member.Provenance (codes "authority") d h)
    (λ authority a. then_if (AllByRecursion HasTexts) IsReadProvenance (list_or_empty member.Provenance (codes "changes") d) _ (list_or_empty_has member.Provenance (codes "changes") d h)
    (λ changes c. then_if (AllByRecursion IsReadNote) IsReadProvenance (all_from (λ n. note_in) 1 changes) _ (all_if HasTexts IsReadNote (λ n. note_in) 1 changes (λ k. note_is) c)
    (λ notes n. record { submitter = s; authority = a; notes = n })))))

provenance_or_empty_is : (o : Option Data) → IfSome o HasTexts → IfOk (provenance_or_empty o) IsReadProvenance
provenance_or_empty_is None h = record { submitter = empty_is; authority = empty_is; notes = tt }
provenance_or_empty_is (Some d) h = provenance_is d h

record IsReadDescription (v : Description) : Type 0 where
  pub title : IsString v.title
  pub provenance : IsReadProvenance v.provenance

description_is : (d : Data) → HasTexts d → IfOk (description_in d) IsReadDescription
unfolding description_in
description_is d h =
    then_if IsString IsReadDescription (text_or_empty member.Title (codes "title") d) _ (text_or_empty_is member.Title (codes "title") d h)
    (λ title t. then_if IsReadProvenance IsReadDescription (provenance_or_empty (member_at member.Provenance d)) _
    (provenance_or_empty_is (member_at member.Provenance d) (get_has (key_of member.Provenance) d h)) (λ provenance p. record { title = t; provenance = p }))

all_dated : (ns : List Note) → AllByRecursion IsReadNote ns → AllByRecursion IsDated ns
all_dated [] h = tt
all_dated (n ∷ ns) h = (h.0.dated, all_dated ns h.1)

all_text : (ns : List Note) → AllByRecursion IsReadNote ns → AllByRecursion (λ (n : Note). IsString n.comment) ns
all_text [] h = tt
all_text (n ∷ ns) h = (h.0.text, all_text ns h.1)

abbrev IsReadEntry : Entry → Type 0
IsReadEntry e = IsFormedEntry e × IsTextEntry e

entry_is : (f : Format) (d : Data) → HasTexts d → IfOk (entry_in f d) IsReadEntry
unfolding entry_in
entry_is f d h =
    then_if IsName IsReadEntry (name_at f d) _ (name_is f d)
    (λ name n. then_if IsReadDescription IsReadEntry (description_in d) _ (description_is d h)
    (λ rest r. (
      record { name = n; successors = All-nil IsName; notes = All-from_recursion IsDated rest.provenance.notes (all_dated rest.provenance.notes r.provenance.notes) },
      record { title = r.title; submitter = r.provenance.submitter; authority = r.provenance.authority; comments = all_text rest.provenance.notes r.provenance.notes },
    )))

-- ---- edits

record IsReadRemark (r : Remark) : Type 0 where
  pub dated : IsTrue (is_date r.date)
  pub text : IsString r.comment

remark_is : (d : Data) → HasTexts d → IfOk (remark_in d) IsReadRemark
unfolding remark_in
remark_is d h =
    then_if (λ date. IsTrue (is_date date)) IsReadRemark (date_at member.Date d) _ (date_is member.Date d h)
    (λ date dated. then_if IsString IsReadRemark (comment_at d) _ (comment_is d h) (λ comment text. record { dated = dated; text = text }))

record IsReadChange (c : DeprecationChange) : Type 0 where
  pub successors : AllByRecursion IsName c.deprecation.successors
  pub remark : IsReadRemark c.remark

change_is : (f : Format) (d : Data) → HasTexts d → IfOk (change_in f d) IsReadChange
unfolding change_in
change_is f d h =
    behind_if IsReadChange (word_at kind_of member.Kind d) _
    (λ kind. then_if (AllByRecursion IsName) IsReadChange (successors_at f d) _ (successors_are f d)
    (λ successors s. then_if IsReadRemark IsReadChange (remark_in d) _ (remark_is d h) (λ remark r. record { successors = s; remark = r })))

deprecation_is : (kind : Values → Deprecation → List ℕ → List ℕ → Edit)
    → ((n : Values) (c : DeprecationChange) → IsName n → IsReadChange c → IsReadEdit (kind n c.deprecation c.remark.date c.remark.comment))
    → (f : Format) (d : Data) → HasTexts d → IfOk (deprecation_in kind f d) IsReadEdit
unfolding deprecation_in
deprecation_is kind each f d h =
    then_if IsName IsReadEdit (name_at f d) _ (name_is f d) (λ n name. then_if IsReadChange IsReadEdit (change_in f d) _ (change_is f d h) (λ c change. each n c name change))

restore_is : (f : Format) (d : Data) → HasTexts d → IfOk (restore_in f d) IsReadEdit
unfolding restore_in
restore_is f d h =
    then_if IsName IsReadEdit (name_at f d) _ (name_is f d) (λ n name. then_if IsReadRemark IsReadEdit (remark_in d) _ (remark_is d h) (λ r remark. ((name, remark.dated), remark.text)))

abbrev IsReadStatement : Statement → Type 0
IsReadStatement s = IsFormedStatement s × IsTextStatement s

statement_is : (f : Format) (d : Data) → HasTexts d → IfOk (statement_in f d) IsReadStatement
unfolding statement_in
statement_is f d h =
    then_if IsString IsReadStatement (statement_id_at d) _ (id_is d h)
    (λ id i. then_if IsString IsReadStatement (text_or_empty member.Title (codes "title") d) _ (text_or_empty_is member.Title (codes "title") d h)
    (λ title t. behind_if IsReadStatement (mode_at d) _
    (λ mode. then_if IsReadTest IsReadStatement (test_at f d) _ (test_is f d h)
    (λ test k. (All-from_recursion IsName _ k.names, record { id = i; title = t; keys = k.keys })))))

key_at_is : (d : Data) → HasTexts d → IfOk (key_at d) IsTextKey
unfolding key_at
key_at_is d h =
    then_if IsString IsTextKey (text_at member.System d) _ (text_at_is member.System d h)
    (λ system s. then_if IsString IsTextKey (text_at member.Href d) _ (text_at_is member.Href d h)
    (λ href r. then_if IsString IsTextKey (text_at member.Id d) _ (text_at_is member.Id d h) (λ id i. record { system = s; href = r; id = i })))

check_is : (d : Data) → HasTexts d → IfOk (check_in d) IsReadEdit
unfolding check_in
check_is d h = then_if IsTextKey IsReadEdit (key_at d) _ (key_at_is d h) (λ key k. behind_if IsReadEdit (word_at truth_of_word member.Result d) _ (λ result. (tt, k)))

-- ---- records

edit_read : (r : Result Edit RecordFault) → IfOk r IsReadEdit → IfOk (r >>= λ e. Ok (AnEdit e)) IsRead
edit_read r h = then_if IsReadEdit IsRead r (λ e. Ok (AnEdit e)) h (λ e k. k)

named_read : (f : Format) (d : Data) (as_record : Values → Record) → ((n : Values) → IsName n → IsRead (as_record n)) → IfOk (name_at f d >>= λ n. Ok (as_record n)) IsRead
named_read f d as_record each = then_if IsName IsRead (name_at f d) (λ n. Ok (as_record n)) (name_is f d) each

search_is : (f : Format) (d : Data) → IfOk (search_in f d) IsReadQuery
unfolding search_in
search_is f d = then_if IsName IsReadQuery (name_at f d) _ (name_is f d) (λ n name. behind_if IsReadQuery (flag_or_false member.Active (codes "active") d) _ (λ active. (name, tt)))

by_is : (v : RecordKind) (f : Format) (d : Data) → HasTexts d → IfOk (record_by v f d) IsRead
by_is record_kind.Entry f d h = then_if IsReadEntry IsRead (entry_in f d) _ (entry_is f d h) (λ e k. k)
by_is record_kind.Deprecate f d h = edit_read (deprecation_in edit.Deprecate f d) (deprecation_is edit.Deprecate (λ n c name k. ((name, All-from_recursion IsName _ k.successors, k.remark.dated), k.remark.text)) f d h)
by_is record_kind.Amend f d h = edit_read (deprecation_in edit.Amend f d) (deprecation_is edit.Amend (λ n c name k. ((name, All-from_recursion IsName _ k.successors, k.remark.dated), k.remark.text)) f d h)
by_is record_kind.Restore f d h = edit_read (restore_in f d) (restore_is f d h)
by_is record_kind.Item f d h = named_read f d _ (λ n name. (name, tt))
by_is record_kind.DropItem f d h = named_read f d _ (λ n name. (name, tt))
by_is record_kind.Statement f d h = then_if IsReadStatement IsRead (statement_in f d) _ (statement_is f d h) (λ s k. k)
by_is record_kind.DropStatement f d h = then_if IsString IsRead (statement_id_at d) _ (id_is d h) (λ id text. (tt, text))
by_is record_kind.Check f d h = edit_read (check_in d) (check_is d h)
by_is record_kind.DropCheck f d h = then_if IsTextKey IsRead (key_at d) _ (key_at_is d h) (λ key text. (tt, text))
by_is record_kind.Lookup f d h = named_read f d _ (λ n name. (name, tt))
by_is record_kind.Search f d h = then_if IsReadQuery IsRead (search_in f d) _ (search_is f d) (λ q k. k)
by_is record_kind.Items f d h = named_read f d _ (λ n name. (name, tt))
by_is record_kind.Chain f d h = named_read f d _ (λ n name. (name, tt))
by_is record_kind.Show f d h = named_read f d _ (λ n name. (name, tt))
by_is record_kind.Verdict f d h = then_if IsString IsRead (statement_id_at d) _ (id_is d h) (λ id text. (tt, text))

value_has : (line : List ℕ) → IfSome (json_value_of line) HasTexts
value_has line = by (is_utf8 line) refl where
  by : (b : Bool) → is_utf8 line ≡ b → IfSome (if b then read line else None) HasTexts
  by true e = values_text line (IsUtf8-from_is_utf8 line e)
  by false e = tt

json_has : (o : Option Data) → IfSome o HasTexts → IfOk (record_json_of o) HasTexts
json_has (Some d) h = h
json_has None h = tt

pub line_read : (line : List ℕ) → IfOk (record_of line) IsRead
unfolding record_of
line_read line =
    then_if HasTexts IsRead (record_json_of (json_value_of line)) _ (json_has (json_value_of line) (value_has line))
    (λ d h. behind_if IsRead (word_at record_kind_of member.Do d) _ (λ v. behind_if IsRead (format_at d) _ (λ f. by_is v f d h)))
