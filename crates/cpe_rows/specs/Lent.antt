-- Entries whose parts are borrowed.
use Rattle.std.specs.Option.{option_copied}
use Rattle.cpe_rows.specs.declared.entry.Entry.{Entry}
use Rattle.cpe_rows.specs.declared.entry_ref.EntryRef.{EntryRef}

-- the entry with these borrowed parts
abbrev pub entry_lent : EntryRef → Entry
entry_lent e = record { name = e.name.now; title = e.title.now; provenance = e.provenance.now; deprecation = option_copied e.deprecation }
