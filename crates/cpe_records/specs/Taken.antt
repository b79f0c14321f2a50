-- Records that an engine accepts.
use Rattle.std.specs.Prelude.{Bool}
use Rattle.std.specs.Prelude.{⊤}
use Rattle.cpe_rows.specs.cpe_name.Names.{IsName}
use Rattle.cpe_rows.specs.Formed.{IsFormed}
use Rattle.cpe_rows.specs.declared.edit.Query as queries
use Rattle.cpe_rows.specs.declared.edit.Query.TheVariants as query
use Rattle.cpe_rows.specs.Valid.{is_valid_edit, is_valid_query}
use Rattle.cpe_records.specs.declared.read.Record.{Record}
use Rattle.cpe_records.specs.declared.read.Record.TheVariants.{Edit, Query}

-- whether the record's names, ids and tests have the form that an engine needs
abbrev pub is_valid_record : Record → Bool
is_valid_record (Edit e) = is_valid_edit e
is_valid_record (Query q) = is_valid_query q

abbrev pub IsFormedQuery : queries.Query → Type 0
IsFormedQuery (query.Lookup n) = IsName n
IsFormedQuery (query.Search n active_only) = IsName n
IsFormedQuery (query.Items n) = IsName n
IsFormedQuery (query.Chain n) = IsName n
IsFormedQuery (query.Show n) = IsName n
IsFormedQuery (query.Verdict id) = ⊤

-- the names of the record are well-formed (NIST IR 7695, 5), and its dates have the form of a date
abbrev pub IsFormedRecord : Record → Type 0
IsFormedRecord (Edit e) = IsFormed e
IsFormedRecord (Query q) = IsFormedQuery q
