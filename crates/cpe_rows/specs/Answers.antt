-- The answer to each query. Absent names and ids have answers too.
use Rattle.std.specs.Prelude.{List, Bool, ◌&&◌, ◌||◌, map, filter, find, not, option_map}
use Rattle.std.specs.Option.{option_map_or}
use Rattle.cpe_name.specs.Eleven.{Values}
use Rattle.cpe_relation.specs.NameRelation.{covers}
use Rattle.cpe_relation.specs.Maybe.{maybe}
use Rattle.cpe_rows.specs.Rows.{Rows, entry_of, has_id}
use Rattle.cpe_rows.specs.Chains.{is_active, chain, ends}
use Rattle.cpe_rows.specs.Verdict.{verdict}
use Rattle.cpe_rows.specs.declared.entry.Entry.{Entry}
use Rattle.cpe_rows.specs.declared.edit.Query.{Query}
use Rattle.cpe_rows.specs.declared.edit.Query.TheVariants as query
use Rattle.cpe_rows.specs.declared.reply.State.{State}
use Rattle.cpe_rows.specs.declared.reply.State.TheVariants.{Active, Deprecated}
use Rattle.cpe_rows.specs.declared.reply.Row.{Row}
use Rattle.cpe_rows.specs.declared.reply.Reply.{Reply}
use Rattle.cpe_rows.specs.declared.reply.Reply.TheVariants as reply

-- the state of an entry: active, or deprecated with a kind
abbrev pub state_of : Entry → State
state_of e = option_map_or (λ d. Deprecated d.kind) e.deprecation Active

-- the summary of an entry
abbrev pub row_of : Entry → Row
row_of e = record { name = e.name; state = state_of e }

-- The name covers the entry. The entry is active, if only active entries are wanted.
abbrev pub is_found : Values → Bool → Entry → Bool
is_found n active_only e = covers n e.name && (not active_only || is_active e)

-- the summaries of the found entries, in their order
abbrev pub rows_found : Values → Bool → List Entry → List Row
rows_found n active_only entries = map row_of (filter (is_found n active_only) entries)

abbrev pub answer : Rows → Query → Reply
answer rows (query.Lookup n) = reply.Lookup n (option_map state_of (entry_of rows n))
answer rows (query.Search n active_only) = reply.Search n (rows_found n active_only rows.entries)
answer rows (query.Items n) = reply.Items n (filter (covers n) rows.items) (filter (maybe n) rows.items)
answer rows (query.Chain n) = reply.Chain n (map row_of (chain rows.entries n)) (ends rows.entries n)
answer rows (query.Show n) = reply.Show n (entry_of rows n)
answer rows (query.Verdict id) = reply.Verdict id (option_map (verdict rows) (find (has_id id) rows.statements))
