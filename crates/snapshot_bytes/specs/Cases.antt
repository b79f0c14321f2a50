-- The rows of small examples, and their snapshots written out.
use Rattle.std.specs.Prelude.{ℕ, List, [], ◌∷◌, ◌++◌, codes, Some, None}
use Rattle.cpe_rows.specs.cpe_values.declared.value.Value.{Value}
use Rattle.cpe_rows.specs.cpe_values.declared.value.Value.TheVariants as value
use Rattle.cpe_rows.specs.cpe_values.declared.value.Edge.TheVariants as edge
use Rattle.cpe_rows.specs.cpe_name.Eleven.{Values}
use Rattle.cpe_rows.specs.cpe_name.Names.{any_values}
use Rattle.cpe_rows.specs.Rows.{Rows, no_rows}
use Rattle.cpe_rows.specs.declared.entry.Entry.{Entry}
use Rattle.cpe_rows.specs.declared.entry.NoteKind.TheVariants as note
use Rattle.cpe_rows.specs.declared.entry.Kind.TheVariants.{NameCorrection}
use Rattle.cpe_rows.specs.declared.truth.Truth.TheVariants.{Error}

abbrev pub plain_text : List ℕ → Value
plain_text body = value.Text (record { lead = edge.None; body = body; trail = edge.None })

abbrev pub application : Values
application = record any_values { part = plain_text (codes "a") }

abbrev pub one_item : Rows
one_item = record no_rows { items = application ∷ [] }

abbrev pub product : List ℕ → Values
product p = record application { vendor = plain_text (codes "v"); product = plain_text p }

abbrev pub entry : Values → Entry
entry n = record { name = n; title = codes "T"; provenance = record { submitter = []; authority = []; notes = [] }; deprecation = None }

-- p is deprecated, with a note and with the successor q, whose entry is after p's entry
abbrev pub three_rows : Rows
three_rows = record no_rows {
  entries = record (entry (product (codes "p"))) {
    provenance = record { submitter = codes "s"; authority = codes "a"; notes = record { kind = note.Deprecation; date = codes "2024-01-31"; comment = codes "c" } ∷ [] };
    deprecation = Some (record { kind = NameCorrection; successors = product (codes "q") ∷ [] });
  } ∷ entry (product (codes "q")) ∷ [];
  checks = (record { system = codes "x"; href = codes "y"; id = codes "z" }, Error) ∷ [];
}

abbrev pub fs : List ℕ → List ℕ
fs p = codes "cpe:2.3:a:v:" ++ p ++ codes ":*:*:*:*:*:*:*:*"

abbrev pub zeros : List ℕ
zeros = 0 ∷ 0 ∷ 0 ∷ []

abbrev pub three_rows_bytes : List ℕ
three_rows_bytes =
    codes "CPESNAP1" ++ zeros ++ 2 ∷ zeros ++ 0 ∷ zeros ++ 0 ∷ zeros ++ 1 ∷ []
    ++ zeros ++ 29 ∷ fs (codes "p") ++ zeros ++ 1 ∷ codes "T" ++ zeros ++ 1 ∷ codes "s" ++ zeros ++ 1 ∷ codes "a"
    ++ zeros ++ 1 ∷ 2 ∷ codes "2024-01-31" ++ zeros ++ 1 ∷ codes "c" ++ 1 ∷ zeros ++ 1 ∷ zeros ++ 1 ∷ []
    ++ zeros ++ 29 ∷ fs (codes "q") ++ zeros ++ 1 ∷ codes "T" ++ zeros ++ 0 ∷ zeros ++ 0 ∷ zeros ++ 0 ∷ 0 ∷ []
    ++ zeros ++ 1 ∷ codes "x" ++ zeros ++ 1 ∷ codes "y" ++ zeros ++ 1 ∷ codes "z" ++ 2 ∷ []
