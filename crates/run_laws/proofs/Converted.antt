-- The written form of a record that was read is UTF-8. So the lines that `convert` writes leave the same rows as the
-- lines that it reads.
use Rattle.std.proofs.Common.{◌≡◌, ℕ, List, [], ◌∷◌, ◌++◌, Bool, true, false, Option, Some, None, map, IsUtf8, if◌then◌else◌, refl, sym, ap, ◌∙◌, subst}
use Rattle.std.specs.Prelude.{IfOk, All, IsTrue}
use Rattle.std.specs.List.{AllByRecursion, flat_map}
use Rattle.std.proofs.lemmas.List.Elements.{All-head, All-tail}
use Rattle.std.proofs.lemmas.Str.{IsUtf8-from_ascii, IsUtf8-from_is_utf8}
use Rattle.json.specs.Json as json
use Rattle.json.proofs.Printed.Utf8.{IsUtf8-are_ascii}
use Rattle.cpe_records.specs.JsonTexts.{WritesTexts, ItemsWriteTexts, MembersWriteTexts, PrintsAreTexts}
use Rattle.cpe_command.specs.cpe_io.Lines.{lines}
use Rattle.cpe_rows.specs.cpe_values.declared.value.Value.{Value}
use Rattle.cpe_rows.specs.cpe_values.Values.{IsValue}
use Rattle.cpe_rows.specs.cpe_name.declared.attribute.Attribute.{Attribute}
use Rattle.cpe_rows.specs.cpe_name.declared.attribute.Attribute.TheVariants.{Part, Vendor, Product, Version, Update, Edition, Language, SwEdition, TargetSw, TargetHw, Other}
use Rattle.cpe_rows.specs.cpe_name.Eleven.{Values}
use Rattle.cpe_rows.specs.cpe_name.Names.{value_of, IsName}
use Rattle.cpe_rows.specs.cpe_name.Text.{attribute_name}
use Rattle.cpe_rows.proofs.cpe_name.WholeTexts.{good_value}
use Rattle.cpe_rows.specs.cpe_fs.Grammar.{fs_component}
use Rattle.certificate_records.specs.cpe_uri.Canon.{is_any_component}
use Rattle.cpe_rows.specs.Date.{is_date}
use Rattle.cpe_rows.specs.FactNames.{fact_names, fact_names_step}
use Rattle.cpe_rows.specs.Formed.{IsDated}
use Rattle.cpe_rows.specs.Rows.{Rows, no_rows}
use Rattle.cpe_rows.specs.declared.edit.Edit.{Edit}
use Rattle.cpe_rows.specs.declared.edit.Edit.TheVariants as edit
use Rattle.cpe_rows.specs.declared.edit.Query.{Query}
use Rattle.cpe_rows.specs.declared.edit.Query.TheVariants as query
use Rattle.cpe_rows.specs.declared.entry.Deprecation.{Deprecation}
use Rattle.cpe_rows.specs.declared.entry.Kind.{Kind}
use Rattle.cpe_rows.specs.declared.entry.Kind.TheVariants as kinds
use Rattle.cpe_rows.specs.declared.entry.Note.{Note}
use Rattle.cpe_rows.specs.declared.entry.NoteKind.{NoteKind}
use Rattle.cpe_rows.specs.declared.entry.NoteKind.TheVariants as note_kinds
use Rattle.cpe_rows.specs.declared.entry.Provenance.{Provenance}
use Rattle.cpe_rows.specs.declared.statement.Mode.{Mode}
use Rattle.cpe_rows.specs.declared.statement.Mode.TheVariants.{Plain, Follow}
use Rattle.cpe_rows.specs.declared.test.CheckKey.{CheckKey}
use Rattle.cpe_rows.specs.declared.test.Operator.{Operator}
use Rattle.cpe_rows.specs.declared.test.Operator.TheVariants.{And, Or}
use Rattle.cpe_rows.specs.declared.test.Test.{Test}
use Rattle.cpe_rows.specs.declared.test.Test.TheVariants.{rolls-Logic, rolls-Fact, rolls-Check}
use Rattle.cpe_rows.specs.declared.test.Test.TheOpen.{Test-F}
use Rattle.cpe_rows.specs.declared.test.Test.TheViews.{roll-Test}
use Rattle.cpe_rows.specs.declared.test.Test.TheFolds.{fold-roll-Test, ind-Test, map-Test}
use Rattle.cpe_rows.proofs.TestNames.{names-logic}
use Rattle.cpe_records.specs.Words.{kind_word, note_kind_word, mode_word, operator_word}
use Rattle.cpe_records.specs.Edited.{line_edited}
use Rattle.cpe_records.specs.Read.{IsRead, IsReadEdit, IsReadQuery}
use Rattle.cpe_records.specs.Reading.{record_of}
use Rattle.cpe_records.specs.RecordKinds.{record_word}
use Rattle.cpe_records.specs.Taken.{IsFormedRecord}
use Rattle.cpe_records.specs.declared.read.Record.{Record}
use Rattle.cpe_records.specs.declared.read.Record.TheVariants as of_kind
use Rattle.cpe_records.specs.declared.record_kind.RecordKind.{RecordKind}
use Rattle.cpe_records.specs.declared.record_kind.RecordKind.TheVariants as record_kind
use Rattle.cpe_records.proofs.RecordReads.{line_read}
use Rattle.cpe_records.proofs.TestReads.{keys-logic}
use Rattle.snapshot_bytes.specs.States.{IsString, IsTextKey, keys_of, stored_keys_step}
use Rattle.certificate_records.specs.record_writer.NameObject.{sorted_attributes, with_value, with_values, name_object}
use Rattle.certificate_records.specs.record_writer.Written.{items_by, note_json, provenance_json}
use Rattle.certificate_records.specs.record_writer.WrittenRecord.{key_json, items_of, test_json, version, about_json, about_id_json, change_json, edit_json, query_json, record_json, record_text}
use Rattle.certificate_records.proofs.record_writer.Printed.{IsAscii-component, IsAscii-date}
use Rattle.certificate_records.proofs.record_writer.TestForms.{json-logic, json-fact, json-check}
use Rattle.cpe_command.specs.line_session.Folding.{folded_lines}
use Rattle.cpe_command.specs.line_session.Task.{Transcript, speech, spoken}
use Rattle.convert_lines.specs.Convert.{convert_session}
use Rattle.convert_lines.specs.Growing.{IsGrown, IsWhole}
use Rattle.run_laws.specs.Theorems.{rows_of_lines, WritesTranscript, ConvertedIsSame}
use Rattle.run_laws.proofs.Writing.{word_text}

-- ---- names

member_text : (name : List ℕ) (v : Value) (rest : json.Members) → IsUtf8 name → IsValue v → MembersWriteTexts rest → MembersWriteTexts (with_value name v rest)
member_text name v rest key h more = by (is_any_component v) where
  by : (b : Bool) → MembersWriteTexts (if b then rest else json.member name (json.string (fs_component v)) rest)
  by true = more
  by false = (key, IsUtf8-from_ascii (fs_component v) (IsAscii-component v h), more)

attribute_text : (a : Attribute) → IsUtf8 (attribute_name a)
attribute_text Part = IsUtf8-are_ascii _ refl
attribute_text Vendor = IsUtf8-are_ascii _ refl
attribute_text Product = IsUtf8-are_ascii _ refl
attribute_text Version = IsUtf8-are_ascii _ refl
attribute_text Update = IsUtf8-are_ascii _ refl
attribute_text Edition = IsUtf8-are_ascii _ refl
attribute_text Language = IsUtf8-are_ascii _ refl
attribute_text SwEdition = IsUtf8-are_ascii _ refl
attribute_text TargetSw = IsUtf8-are_ascii _ refl
attribute_text TargetHw = IsUtf8-are_ascii _ refl
attribute_text Other = IsUtf8-are_ascii _ refl

values_text : (n : Values) → IsName n → (which : List Attribute) → MembersWriteTexts (with_values n which)
values_text n h [] = tt
values_text n h (a ∷ more) = member_text (attribute_name a) (value_of n a) (with_values n more) (attribute_text a) (good_value n a h) (values_text n h more)

name_text : (n : Values) → IsName n → WritesTexts (name_object n)
unfolding name_object
name_text n h = values_text n h sorted_attributes

names_text : (ns : List Values) → All IsName ns → ItemsWriteTexts (items_by name_object ns)
names_text [] h = tt
names_text (n ∷ ns) h = (name_text n (All-head IsName n ns h), names_text ns (All-tail IsName n ns h))

-- ---- tests

key_text : (k : CheckKey) → IsTextKey k → WritesTexts (key_json k)
key_text k h = (IsUtf8-are_ascii _ refl, IsUtf8-from_is_utf8 k.href h.href, (IsUtf8-are_ascii _ refl, IsUtf8-from_is_utf8 k.id h.id, (IsUtf8-are_ascii _ refl, IsUtf8-from_is_utf8 k.system h.system, tt)))

operator_text : (o : Operator) → IsUtf8 (operator_word o)
operator_text And = IsUtf8-are_ascii _ refl
operator_text Or = IsUtf8-are_ascii _ refl

-- the names of the test's facts are well-formed, and the keys of its checks are UTF-8
abbrev IsWritable : Test → Type 0
IsWritable t = AllByRecursion IsName (fact_names t) × AllByRecursion IsTextKey (keys_of t)

abbrev WritesTest : Test → Type 0
WritesTest t = IsWritable t → WritesTexts (test_json t)

abbrev Shown : Type 0
Shown = (t : Test) × WritesTest t

abbrev tests : List Shown → List Test
tests es = map (λ (e : Shown). e.0) es

parts_of : {A : Type 0} (P : A → Type 0) (xs ys : List A) → AllByRecursion P (xs ++ ys) → AllByRecursion P xs × AllByRecursion P ys
parts_of P [] ys h = (tt, h)
parts_of P (x ∷ xs) ys h = let rest = parts_of P xs ys h.1 in ((h.0, rest.0), rest.1)

children_text : (es : List Shown) → AllByRecursion IsName (flat_map fact_names (tests es)) → AllByRecursion IsTextKey (flat_map keys_of (tests es)) → ItemsWriteTexts (items_of (map test_json (tests es)))
children_text [] names keys = tt
children_text (e ∷ es) names keys =
    let n = parts_of IsName (fact_names e.0) (flat_map fact_names (tests es)) names in
    let k = parts_of IsTextKey (keys_of e.0) (flat_map keys_of (tests es)) keys in
    (e.1 (n.0, k.0), children_text es n.1 k.1)

rolled : (y : Test-F Shown) → WritesTest (roll-Test (map-Test Shown Test (λ e. e.0) y))
rolled (Test-F.Logic o b es) h =
    let ts = tests es in
    let t = roll-Test (Test-F.Logic o b ts) in
    let names = subst (AllByRecursion IsName) (ap fact_names (rolls-Logic o b ts) ∙ names-logic o b ts) h.0 in
    let keys = subst (AllByRecursion IsTextKey) (ap keys_of (rolls-Logic o b ts) ∙ keys-logic o b ts) h.1 in
    subst WritesTexts (sym (json-logic t o b ts (rolls-Logic o b ts)))
    (IsUtf8-are_ascii _ refl, tt, (IsUtf8-are_ascii _ refl, children_text es names keys, (IsUtf8-are_ascii _ refl, operator_text o, tt)))
rolled (Test-F.Fact n) h =
    let names = subst (AllByRecursion IsName) (fold-roll-Test (List Values) fact_names_step (Test-F.Fact n)) h.0 in
    subst WritesTexts (sym (json-fact (roll-Test (Test-F.Fact n)) n (rolls-Fact n))) (IsUtf8-are_ascii _ refl, name_text n names.0, tt)
rolled (Test-F.Check k) h =
    let keys = subst (AllByRecursion IsTextKey) (fold-roll-Test (List CheckKey) stored_keys_step (Test-F.Check k)) h.1 in
    subst WritesTexts (sym (json-check (roll-Test (Test-F.Check k)) k (rolls-Check k))) (IsUtf8-are_ascii _ refl, key_text k keys.0, tt)

test_text : (t : Test) → WritesTest t
test_text = ind-Test WritesTest (λ x y is. subst (λ z. WritesTest (roll-Test z)) is (rolled y))

-- ---- members

kind_text : (k : Kind) → IsUtf8 (kind_word k)
kind_text kinds.NameCorrection = IsUtf8-are_ascii _ refl
kind_text kinds.NameRemoval = IsUtf8-are_ascii _ refl
kind_text kinds.AdditionalInformation = IsUtf8-are_ascii _ refl

note_kind_text : (k : NoteKind) → IsUtf8 (note_kind_word k)
note_kind_text note_kinds.OriginalRecord = IsUtf8-are_ascii _ refl
note_kind_text note_kinds.AuthorityChange = IsUtf8-are_ascii _ refl
note_kind_text note_kinds.Deprecation = IsUtf8-are_ascii _ refl
note_kind_text note_kinds.DeprecationModification = IsUtf8-are_ascii _ refl

mode_text : (m : Mode) → IsUtf8 (mode_word m)
mode_text Plain = IsUtf8-are_ascii _ refl
mode_text Follow = IsUtf8-are_ascii _ refl

record_word_text : (v : RecordKind) → IsUtf8 (record_word v)
record_word_text record_kind.Entry = IsUtf8-are_ascii _ refl
record_word_text record_kind.Deprecate = IsUtf8-are_ascii _ refl
record_word_text record_kind.Amend = IsUtf8-are_ascii _ refl
record_word_text record_kind.Restore = IsUtf8-are_ascii _ refl
record_word_text record_kind.Item = IsUtf8-are_ascii _ refl
record_word_text record_kind.DropItem = IsUtf8-are_ascii _ refl
record_word_text record_kind.Statement = IsUtf8-are_ascii _ refl
record_word_text record_kind.DropStatement = IsUtf8-are_ascii _ refl
record_word_text record_kind.Check = IsUtf8-are_ascii _ refl
record_word_text record_kind.DropCheck = IsUtf8-are_ascii _ refl
record_word_text record_kind.Lookup = IsUtf8-are_ascii _ refl
record_word_text record_kind.Search = IsUtf8-are_ascii _ refl
record_word_text record_kind.Items = IsUtf8-are_ascii _ refl
record_word_text record_kind.Chain = IsUtf8-are_ascii _ refl
record_word_text record_kind.Show = IsUtf8-are_ascii _ refl
record_word_text record_kind.Verdict = IsUtf8-are_ascii _ refl

date_text : (date : List ℕ) → IsTrue (is_date date) → IsUtf8 date
date_text date h = IsUtf8-from_ascii date (IsAscii-date date h)

version_text : MembersWriteTexts version
version_text = (IsUtf8-are_ascii _ refl, IsUtf8-are_ascii _ refl, tt)

note_text : (n : Note) → IsDated n → IsString n.comment → WritesTexts (note_json n)
note_text n dated text =
    (IsUtf8-are_ascii _ refl, IsUtf8-from_is_utf8 n.comment text, (IsUtf8-are_ascii _ refl, date_text n.date dated, (IsUtf8-are_ascii _ refl, note_kind_text n.kind, tt)))

notes_text : (ns : List Note) → All IsDated ns → AllByRecursion (λ (n : Note). IsString n.comment) ns → ItemsWriteTexts (items_by note_json ns)
notes_text [] dated text = tt
notes_text (n ∷ ns) dated text = (note_text n (All-head IsDated n ns dated) text.0, notes_text ns (All-tail IsDated n ns dated) text.1)

provenance_text : (v : Provenance) → IsString v.submitter → IsString v.authority → All IsDated v.notes → AllByRecursion (λ (n : Note). IsString n.comment) v.notes → WritesTexts (provenance_json v)
provenance_text v submitter authority dated text =
    (IsUtf8-are_ascii _ refl, IsUtf8-from_is_utf8 v.authority authority, (IsUtf8-are_ascii _ refl, notes_text v.notes dated text, (IsUtf8-are_ascii _ refl, IsUtf8-from_is_utf8 v.submitter submitter, tt)))

-- ---- records

by_recursion : (ns : List Values) → All IsName ns → AllByRecursion IsName ns
by_recursion [] h = tt
by_recursion (n ∷ ns) h = (All-head IsName n ns h, by_recursion ns (All-tail IsName n ns h))

about_text : (v : RecordKind) (n : Values) → IsName n → WritesTexts (about_json v n)
about_text v n name = (IsUtf8-are_ascii _ refl, record_word_text v, (IsUtf8-are_ascii _ refl, name_text n name, version_text))

about_id_text : (v : RecordKind) (id : List ℕ) → IsString id → WritesTexts (about_id_json v id)
about_id_text v id text = (IsUtf8-are_ascii _ refl, record_word_text v, (IsUtf8-are_ascii _ refl, IsUtf8-from_is_utf8 id text, version_text))

change_text : (v : RecordKind) (n : Values) (d : Deprecation) (date comment : List ℕ) → IsName n → All IsName d.successors → IsTrue (is_date date) → IsString comment → WritesTexts (change_json v n d date comment)
change_text v n d date comment name successors dated text =
    (IsUtf8-are_ascii _ refl, IsUtf8-from_is_utf8 comment text, (IsUtf8-are_ascii _ refl, date_text date dated, (IsUtf8-are_ascii _ refl, record_word_text v, (IsUtf8-are_ascii _ refl, kind_text d.kind, (IsUtf8-are_ascii _ refl, name_text n name, (IsUtf8-are_ascii _ refl, names_text d.successors successors, version_text))))))

edit_text : (e : Edit) → IsReadEdit e → WritesTexts (edit_json e)
edit_text (edit.Entry e) h =
    (IsUtf8-are_ascii _ refl, record_word_text record_kind.Entry, (IsUtf8-are_ascii _ refl, name_text e.name h.0.name, (IsUtf8-are_ascii _ refl, provenance_text e.provenance h.1.submitter h.1.authority h.0.notes h.1.comments, (IsUtf8-are_ascii _ refl, IsUtf8-from_is_utf8 e.title h.1.title, version_text))))
edit_text (edit.Item n) h = about_text record_kind.Item n h.0
edit_text (edit.DropItem n) h = about_text record_kind.DropItem n h.0
edit_text (edit.Deprecate n d date comment) h = change_text record_kind.Deprecate n d date comment h.0.0 h.0.1 h.0.2 h.1
edit_text (edit.Amend n d date comment) h = change_text record_kind.Amend n d date comment h.0.0 h.0.1 h.0.2 h.1
edit_text (edit.Restore n date comment) h = (IsUtf8-are_ascii _ refl, IsUtf8-from_is_utf8 comment h.1, (IsUtf8-are_ascii _ refl, date_text date h.0.1, (IsUtf8-are_ascii _ refl, record_word_text record_kind.Restore, (IsUtf8-are_ascii _ refl, name_text n h.0.0, version_text))))
edit_text (edit.PutStatement s) h =
    (IsUtf8-are_ascii _ refl, record_word_text record_kind.Statement, (IsUtf8-are_ascii _ refl, IsUtf8-from_is_utf8 s.id h.1.id, (IsUtf8-are_ascii _ refl, mode_text s.mode, (IsUtf8-are_ascii _ refl, test_text s.test (by_recursion (fact_names s.test) h.0, h.1.keys), (IsUtf8-are_ascii _ refl, IsUtf8-from_is_utf8 s.title h.1.title, version_text)))))
edit_text (edit.DropStatement id) h = about_id_text record_kind.DropStatement id h.1
edit_text (edit.SetCheck k result) h =
    (IsUtf8-are_ascii _ refl, record_word_text record_kind.Check, (IsUtf8-are_ascii _ refl, IsUtf8-from_is_utf8 k.href h.1.href, (IsUtf8-are_ascii _ refl, IsUtf8-from_is_utf8 k.id h.1.id, (IsUtf8-are_ascii _ refl, word_text result, (IsUtf8-are_ascii _ refl, IsUtf8-from_is_utf8 k.system h.1.system, version_text)))))
edit_text (edit.DropCheck k) h =
    (IsUtf8-are_ascii _ refl, record_word_text record_kind.DropCheck, (IsUtf8-are_ascii _ refl, IsUtf8-from_is_utf8 k.href h.1.href, (IsUtf8-are_ascii _ refl, IsUtf8-from_is_utf8 k.id h.1.id, (IsUtf8-are_ascii _ refl, IsUtf8-from_is_utf8 k.system h.1.system, version_text))))

query_text : (q : Query) → IsReadQuery q → WritesTexts (query_json q)
query_text (query.Lookup n) h = about_text record_kind.Lookup n h.0
query_text (query.Search n active_only) h = (IsUtf8-are_ascii _ refl, tt, (IsUtf8-are_ascii _ refl, record_word_text record_kind.Search, (IsUtf8-are_ascii _ refl, name_text n h.0, version_text)))
query_text (query.Items n) h = about_text record_kind.Items n h.0
query_text (query.Chain n) h = about_text record_kind.Chain n h.0
query_text (query.Show n) h = about_text record_kind.Show n h.0
query_text (query.Verdict id) h = about_id_text record_kind.Verdict id h.1

record_writes : (r : Record) → IsRead r → WritesTexts (record_json r)
record_writes (of_kind.Edit e) h = edit_text e h
record_writes (of_kind.Query q) h = query_text q h

formed : (r : Record) → IsRead r → IsFormedRecord r
formed (of_kind.Edit e) h = h.0
formed (of_kind.Query q) h = h.0

-- ---- the run

module _ (prints : PrintsAreTexts) where
  record_whole : (r : Record) → IsRead r → IsFormedRecord r × IsUtf8 (record_text r)
  unfolding record_text
  record_whole r h = (formed r h, prints (record_json r) (record_writes r h))

  line_whole : (line : Option (List ℕ)) → IsWhole line
  line_whole None = tt
  line_whole (Some text) = λ r is. record_whole r (subst (λ o. IfOk o IsRead) is (line_read text))

  all_whole : (ls : List (Option (List ℕ))) → AllByRecursion IsWhole ls
  all_whole [] = tt
  all_whole (line ∷ more) = (line_whole line, all_whole more)

  pub converted_is_same : ((rows : Rows) (ls : List (Option (List ℕ))) → AllByRecursion (λ line. IsGrown line → ⊥) ls → AllByRecursion IsWhole ls
      → folded_lines line_edited rows (lines (spoken (speech convert_session tt) ls).text) ≡ folded_lines line_edited rows ls)
      → ConvertedIsSame
  converted_is_same same input converted h grown =
      ap (λ (t : Transcript). rows_of_lines (lines t.text)) h ∙ same no_rows (lines input) grown (all_whole (lines input))
