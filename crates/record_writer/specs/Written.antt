-- An entry of a dictionary as JSON, without spaces. The members of each object are sorted by their keys.
use Rattle.std.specs.Prelude.{ℕ, List, [], ◌∷◌, codes, Option, Some, None}
use Rattle.json.specs.Json.{Json, null, string, array, object, Items, no_items, item, no_members, member}
use Rattle.json.specs.Tree.{json_tokens}
use Rattle.json.specs.Print.{print}
use Rattle.cpe_rows.specs.cpe_name.Eleven.{Values}
use Rattle.cpe_fs.specs.Grammar.{fs_text}
use Rattle.cpe_rows.specs.declared.entry.Note.{Note}
use Rattle.cpe_rows.specs.declared.entry.Provenance.{Provenance}
use Rattle.cpe_rows.specs.declared.entry.Deprecation.{Deprecation}
use Rattle.cpe_rows.specs.declared.entry.Entry.{Entry}
use Rattle.cpe_records.specs.Words.{kind_word, note_kind_word}

-- the result of f for each element of a list, as items of an array
abbrev pub items_by : {A : Type 0} → (A → Json) → List A → Items
items_by f [] = no_items
items_by f (x ∷ xs) = item (f x) (items_by f xs)

-- a name as its formatted string
unfoldable pub name_json : Values → Json
name_json n = string (fs_text n)

abbrev pub note_json : Note → Json
note_json n = object (
    member (codes "comment") (string n.comment) (
    member (codes "date") (string n.date) (
    member (codes "kind") (string (note_kind_word n.kind)) no_members)))

abbrev pub deprecation_json : Option Deprecation → Json
deprecation_json None = null
deprecation_json (Some d) = object (
    member (codes "kind") (string (kind_word d.kind)) (
    member (codes "successors") (array (items_by name_json d.successors)) no_members))

abbrev pub provenance_json : Provenance → Json
provenance_json p = object (
    member (codes "authority") (string p.authority) (
    member (codes "changes") (array (items_by note_json p.notes)) (
    member (codes "submitter") (string p.submitter) no_members)))

abbrev pub entry_json : Entry → Json
entry_json e = object (
    member (codes "deprecation") (deprecation_json e.deprecation) (
    member (codes "name") (name_json e.name) (
    member (codes "provenance") (provenance_json e.provenance) (
    member (codes "title") (string e.title) no_members))))

unfoldable pub entry_text : Entry → List ℕ
entry_text e = print (json_tokens (entry_json e))
