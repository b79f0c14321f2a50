-- Entries as they are stored: their names, and the details of each entry, which are its other parts.
use Rattle.std.specs.Prelude.{◌≡◌, ◌++◌, ◌∷◌, ◌||◌, not, Bool, ℕ, List, [], length, map, None, Option, slice_get, slice_set}
use Rattle.std.specs.List.{cons_option}
use Rattle.std.specs.Option.{option_map_or}
use Rattle.cpe_rows.specs.cpe_name.Eleven.{Values}
use Rattle.cpe_rows.specs.Chains.{is_active}
use Rattle.cpe_rows.specs.declared.entry.Entry.{Entry}
use Rattle.cpe_rows.specs.declared.entry.Deprecation.{Deprecation}
use Rattle.cpe_rows.specs.declared.entry.Note.{Note}
use Rattle.cpe_rows.specs.declared.entry.Provenance.{Provenance}
use Rattle.name_index.specs.Table.{Names}
use Rattle.names_in_order.specs.InOrder.{AreInOrder, Roll, names_numbered}
use Rattle.names_in_order.specs.Places.{rows_at}
use Rattle.cpe_dictionary.specs.declared.kept.EntryDetails.{EntryDetails}

abbrev pub entry_with : (Values × EntryDetails) → Entry
entry_with c = record { name = c.0; title = c.1.title; provenance = c.1.provenance; deprecation = c.1.deprecation }

abbrev pub names_of_entries : List Entry → List Values
names_of_entries es = map (λ e. e.name) es

-- the entries that have these names and these details
abbrev pub entries_of : List Values → List EntryDetails → List Entry
entries_of [] ds = []
entries_of (n ∷ ns) [] = []
entries_of (n ∷ ns) (d ∷ ds) = entry_with (n, d) ∷ entries_of ns ds

-- entries as they are stored, beside a table of names: the numbers of their names, their details, and the room for
-- further details
pub record EntryList : Type 0 where
  pub names : Roll
  pub details : List EntryDetails
  pub spare : ℕ

-- the entries, with the names that the table has for their numbers
abbrev pub entries_listed : Names → EntryList → List Entry
entries_listed table l = entries_of (names_numbered table l.names.numbers) l.details

-- the numbers are those of names in the table, and each number has details
pub record AreListed (table : Names) (l : EntryList) : Type 0 where
  pub order : AreInOrder table l.names.held l.names.numbers
  pub even : length l.names.numbers ≡ length l.details

-- the entries of these numbers
abbrev pub entries_at : List Entry → List ℕ → List Entry
entries_at entries numbers = rows_at entries numbers

-- an active entry
abbrev pub new_entry : Values → List ℕ → Provenance → Entry
new_entry name title provenance = record { name = name; title = title; provenance = provenance; deprecation = None }

-- the details of an entry with another deprecation or none, and with a note, if given, added at the end
abbrev pub rewritten_details : Option Deprecation → Option Note → EntryDetails → EntryDetails
rewritten_details d note x = record x { deprecation = d; provenance = record x.provenance { notes = x.provenance.notes ++ cons_option note [] } }

-- all details, with those at place k rewritten
abbrev pub details_written : Option Deprecation → Option Note → ℕ → List EntryDetails → List EntryDetails
details_written d note k xs = option_map_or (λ x. slice_set xs k (rewritten_details d note x)) (slice_get xs k) xs

-- an entry with another deprecation or none, and with a note, if given, added at the end
abbrev pub rewritten : Option Deprecation → Option Note → Entry → Entry
rewritten d note e = record e { deprecation = d; provenance = record e.provenance { notes = e.provenance.notes ++ cons_option note [] } }

-- the entries, with the entry of number k changed by f
abbrev pub written : (Entry → Entry) → ℕ → List Entry → List Entry
written f k es = option_map_or (λ e. slice_set es k (f e)) (slice_get es k) es

-- whether an entry is wanted: every entry is, or only the active ones if `active_only` is true
abbrev pub is_wanted_entry : Bool → Entry → Bool
is_wanted_entry active_only e = not active_only || is_active e
