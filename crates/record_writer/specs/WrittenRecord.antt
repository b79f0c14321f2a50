-- A record as JSON, in the second format and without spaces. The members of each object are sorted by their keys. Each
-- member of the record's kind is written, even if it has its default.
use Rattle.std.specs.Prelude.{ℕ, List, [], ◌∷◌, ◌++◌, codes}
use Rattle.json.specs.Token.{Token, begin_object, begin_array, end_object, key}
use Rattle.json.specs.Json.{Json, boolean, string, array, object, Items, Members, no_members, member}
use Rattle.json.specs.Tree.{json_tokens}
use Rattle.json.specs.Print.{print}
use Rattle.cpe_rows.specs.cpe_name.Eleven.{Values}
use Rattle.cpe_rows.specs.declared.entry.Deprecation.{Deprecation}
use Rattle.cpe_rows.specs.declared.test.CheckKey.{CheckKey}
use Rattle.cpe_rows.specs.declared.test.Test.{Test}
use Rattle.cpe_rows.specs.declared.test.Test.TheOpen.{Test-F}
use Rattle.cpe_rows.specs.declared.test.Test.TheFolds.{fold-Test}
use Rattle.cpe_rows.specs.declared.edit.Edit.{Edit}
use Rattle.cpe_rows.specs.declared.edit.Edit.TheVariants as edit
use Rattle.cpe_rows.specs.declared.edit.Query.{Query}
use Rattle.cpe_rows.specs.declared.edit.Query.TheVariants as query
use Rattle.cpe_records.specs.Words.{kind_word, mode_word, operator_word, truth_word}
use Rattle.cpe_records.specs.RecordKinds.{record_word}
use Rattle.record_writer.specs.NameObject.{name_object}
use Rattle.record_writer.specs.Written.{items_by, provenance_json}
use Rattle.cpe_records.specs.declared.read.Record.{Record}
use Rattle.cpe_records.specs.declared.read.Record.TheVariants as record_of_kind
use Rattle.cpe_records.specs.declared.record_kind.RecordKind.{RecordKind}
use Rattle.cpe_records.specs.declared.record_kind.RecordKind.TheVariants as record_kind

-- ---- tests (NIST IR 7698)

abbrev pub key_json : CheckKey → Json
key_json k = object (
    member (codes "href") (string k.href) (
    member (codes "id") (string k.id) (
    member (codes "system") (string k.system) no_members)))

-- the tokens of the members of a check's key
abbrev pub key_tokens : CheckKey → List Token
key_tokens k = key (codes "href") ∷ Token.string k.href ∷ key (codes "id") ∷ Token.string k.id ∷ key (codes "system") ∷ Token.string k.system ∷ []

abbrev pub fact_json : Values → Json
fact_json n = object (member (codes "fact") (name_object n) no_members)

abbrev pub check_json : CheckKey → Json
check_json k = object (member (codes "check") (key_json k) no_members)

abbrev pub items_of : List Json → Items
items_of = items_by (λ j. j)

abbrev pub test_json_step : Test-F Json → Json
test_json_step (Test-F.Logic operator negate of) = object (
    member (codes "negate") (boolean negate) (
    member (codes "of") (array (items_of of)) (
    member (codes "op") (string (operator_word operator)) no_members)))
test_json_step (Test-F.Fact name) = fact_json name
test_json_step (Test-F.Check k) = check_json k

unfoldable pub test_json : Test → Json
test_json = fold-Test Json test_json_step

-- ---- members that several kinds have

abbrev pub does : RecordKind → Members → Members
does v rest = member (codes "do") (string (record_word v)) rest

-- the member `v`, which is the format
abbrev pub version : Members
version = member (codes "v") (string (codes "2")) no_members

abbrev pub with_name_member : Values → Members → Members
with_name_member n rest = member (codes "name") (name_object n) rest

abbrev pub remarked : List ℕ → List ℕ → Members → Members
remarked date comment rest = member (codes "comment") (string comment) (member (codes "date") (string date) rest)

-- ---- records

-- a record that has only a name
abbrev pub about_json : RecordKind → Values → Json
about_json v n = object (does v (with_name_member n version))

-- a record that has only the id of a statement
abbrev pub about_id_json : RecordKind → List ℕ → Json
about_id_json v id = object (does v (member (codes "id") (string id) version))

abbrev pub change_json : RecordKind → Values → Deprecation → List ℕ → List ℕ → Json
change_json v n d date comment = object (
    remarked date comment (does v (
    member (codes "kind") (string (kind_word d.kind)) (
    with_name_member n (
    member (codes "successors") (array (items_by name_object d.successors)) version)))))

-- the tokens of a deprecation's record before those of its successors
abbrev pub change_head : RecordKind → Values → Deprecation → List ℕ → List ℕ → List Token
change_head v n d date comment =
    begin_object ∷ key (codes "comment") ∷ Token.string comment ∷ key (codes "date") ∷ Token.string date ∷ key (codes "do") ∷ Token.string (record_word v)
    ∷ key (codes "kind") ∷ Token.string (kind_word d.kind) ∷ key (codes "name") ∷ (json_tokens (name_object n) ++ key (codes "successors") ∷ begin_array ∷ [])

-- the tokens of a title, of the format after it, and of the end of the record
abbrev pub titled_end : List ℕ → List Token
titled_end title = key (codes "title") ∷ Token.string title ∷ key (codes "v") ∷ Token.string (codes "2") ∷ end_object ∷ []

abbrev pub edit_json : Edit → Json
edit_json (edit.Entry e) = object (
    does record_kind.Entry (
    with_name_member e.name (
    member (codes "provenance") (provenance_json e.provenance) (
    member (codes "title") (string e.title) version))))
edit_json (edit.Item n) = about_json record_kind.Item n
edit_json (edit.DropItem n) = about_json record_kind.DropItem n
edit_json (edit.Deprecate n d date comment) = change_json record_kind.Deprecate n d date comment
edit_json (edit.Amend n d date comment) = change_json record_kind.Amend n d date comment
edit_json (edit.Restore n date comment) = object (remarked date comment (does record_kind.Restore (with_name_member n version)))
edit_json (edit.PutStatement s) = object (
    does record_kind.Statement (
    member (codes "id") (string s.id) (
    member (codes "mode") (string (mode_word s.mode)) (
    member (codes "test") (test_json s.test) (
    member (codes "title") (string s.title) version)))))
edit_json (edit.DropStatement id) = about_id_json record_kind.DropStatement id
edit_json (edit.SetCheck k result) = object (
    does record_kind.Check (
    member (codes "href") (string k.href) (
    member (codes "id") (string k.id) (
    member (codes "result") (string (truth_word result)) (
    member (codes "system") (string k.system) version)))))
edit_json (edit.DropCheck k) = object (
    does record_kind.DropCheck (
    member (codes "href") (string k.href) (
    member (codes "id") (string k.id) (
    member (codes "system") (string k.system) version))))

abbrev pub query_json : Query → Json
query_json (query.Lookup n) = about_json record_kind.Lookup n
query_json (query.Search n active_only) = object (member (codes "active") (boolean active_only) (does record_kind.Search (with_name_member n version)))
query_json (query.Items n) = about_json record_kind.Items n
query_json (query.Chain n) = about_json record_kind.Chain n
query_json (query.Show n) = about_json record_kind.Show n
query_json (query.Verdict id) = about_id_json record_kind.Verdict id

abbrev pub record_json : Record → Json
record_json (record_of_kind.Edit e) = edit_json e
record_json (record_of_kind.Query q) = query_json q

-- the written form of a record
unfoldable pub record_text : Record → List ℕ
record_text r = print (json_tokens (record_json r))
