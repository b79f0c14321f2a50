-- Lemmas: the written form of a record is read as the data of its JSON.
use Rattle.std.proofs.Common.{◌≡◌, ℕ, suc, List, [], ◌∷◌, Bool, true, ◌&&◌, nat_le, refl, ap, arith}
use Rattle.std.specs.Str.{IsUtf8}
use Rattle.std.specs.Prelude.{Ok}
use Rattle.std.proofs.lemmas.Bool.{and_parts, and_from}
use Rattle.std.proofs.lemmas.Bool.Decides.{nat_tests}
use Rattle.serde_json.specs.Read.{max_depth}
use Rattle.cpe_rows.specs.cpe_name.Eleven.{Values}
use Rattle.cpe_rows.specs.Shape.{depth_of, is_sound}
use Rattle.cpe_rows.specs.Valid.{is_id, is_logic, is_statement_test, is_valid_edit}
use Rattle.cpe_rows.specs.declared.limits.TheConstants.{MOST_LEVELS}
use Rattle.cpe_rows.specs.declared.test.Test.{Test, out-Test}
use Rattle.cpe_rows.specs.declared.entry.Note.{Note}
use Rattle.cpe_rows.specs.declared.entry.Provenance.{Provenance}
use Rattle.cpe_rows.specs.declared.edit.Edit.{Edit}
use Rattle.cpe_rows.specs.declared.edit.Edit.TheVariants as edit
use Rattle.cpe_rows.specs.declared.edit.Query.{Query}
use Rattle.cpe_rows.specs.declared.edit.Query.TheVariants as query
use Rattle.record_writer.specs.NameObject.{name_object}
use Rattle.cpe_records.specs.Reading.{record_json_of}
use Rattle.cpe_records.specs.Line.{json_value_of}
use Rattle.cpe_records.specs.Taken.{is_valid_record}
use Rattle.record_writer.specs.Written.{items_by, note_json, provenance_json}
use Rattle.record_writer.specs.WrittenRecord.{test_json, edit_json, query_json, record_json, record_text}
use Rattle.cpe_records.specs.declared.read.Record.{Record}
use Rattle.cpe_records.specs.declared.read.Record.TheVariants as of_kind
use Rattle.cpe_records.proofs.LineLemmas.{line_read}
use Rattle.record_writer.proofs.ReadBack.{data_of, fits, fit_items, read-printed}
use Rattle.record_writer.proofs.NameObjects.{fits-name_object}
use Rattle.record_writer.proofs.TestForms.{fits-test_json}

names_fit : (n : ℕ) (ws : List Values) → fit_items (suc n) (items_by name_object ws) ≡ true
names_fit n [] = refl
names_fit n (w ∷ ws) = and_from _ _ (fits-name_object n w) (names_fit n ws)

notes_fit : (n : ℕ) (notes : List Note) → fit_items (suc n) (items_by note_json notes) ≡ true
notes_fit n [] = refl
notes_fit n (note ∷ notes) = notes_fit n notes

-- lemma: a name and the members after it have no numbers and don't nest too deep
named_fits : (w : Values) (rest : Bool) → rest ≡ true → (fits 126 (name_object w) && rest) ≡ true
named_fits w rest h = and_from (fits 126 (name_object w)) rest (fits-name_object 125 w) h

provenance_fits : (p : Provenance) (rest : Bool) → rest ≡ true → (fits 126 (provenance_json p) && rest) ≡ true
provenance_fits p rest h = and_from (fits 126 (provenance_json p)) rest (and_from (fit_items 124 (items_by note_json p.notes)) true (notes_fit 123 p.notes) refl) h

successors_fit : (ws : List Values) → (fit_items 125 (items_by name_object ws) && true) ≡ true
successors_fit ws = and_from (fit_items 125 (items_by name_object ws)) true (names_fit 124 ws) refl

statement_fits : (t : Test) → nat_le (depth_of t) 32 ≡ true → (fits 126 (test_json t) && true) ≡ true
statement_fits t h = and_from (fits 126 (test_json t)) true (fits-test_json t 126 (grind (arith, nat_tests))) refl

edit_fits : (e : Edit) → is_valid_edit e ≡ true → fits max_depth (edit_json e) ≡ true
edit_fits (edit.Entry e) h = named_fits e.name _ (provenance_fits e.provenance true refl)
edit_fits (edit.Item n) h = named_fits n true refl
edit_fits (edit.DropItem n) h = named_fits n true refl
edit_fits (edit.Deprecate n d date comment) h = named_fits n _ (successors_fit d.successors)
edit_fits (edit.Amend n d date comment) h = named_fits n _ (successors_fit d.successors)
edit_fits (edit.Restore n date comment) h = named_fits n true refl
edit_fits (edit.PutStatement s) h =
    let p = and_parts (is_id s.id) (is_statement_test s.test) h in
    let q = and_parts (is_logic (out-Test s.test) && nat_le (depth_of s.test) MOST_LEVELS) (is_sound s.test) p.1 in
    statement_fits s.test (and_parts (is_logic (out-Test s.test)) (nat_le (depth_of s.test) MOST_LEVELS) q.0).1
edit_fits (edit.DropStatement id) h = refl
edit_fits (edit.SetCheck k result) h = refl
edit_fits (edit.DropCheck k) h = refl

query_fits : (q : Query) → fits max_depth (query_json q) ≡ true
query_fits (query.Lookup n) = named_fits n true refl
query_fits (query.Search n active_only) = named_fits n true refl
query_fits (query.Items n) = named_fits n true refl
query_fits (query.Chain n) = named_fits n true refl
query_fits (query.Show n) = named_fits n true refl
query_fits (query.Verdict id) = refl

pub record_fits : (r : Record) → is_valid_record r ≡ true → fits max_depth (record_json r) ≡ true
record_fits (of_kind.Edit e) h = edit_fits e h
record_fits (of_kind.Query q) h = query_fits q

-- lemma: the written form of a record, as a line, is read as the data of the record's JSON
pub form_read : (r : Record) → is_valid_record r ≡ true → IsUtf8 (record_text r) → record_json_of (json_value_of (record_text r)) ≡ Ok (data_of (record_json r))
unfolding record_text
form_read r h u = ap record_json_of (line_read (record_text r) (data_of (record_json r)) (u, read-printed (record_json r) (record_fits r h)))
