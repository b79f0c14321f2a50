-- The lines of the answer to a question for a chain, from the entries of the chain.
use Rattle.std.specs.Prelude.{◌++◌, ℕ, List, [], codes, filter, if◌then◌else◌, length, nat_eq}
use Rattle.std.specs.List.{flat_map}
use Rattle.cpe_rows.specs.cpe_name.Eleven.{Values}
use Rattle.cpe_rows.specs.Answers.{row_of}
use Rattle.cpe_rows.specs.Chains.{is_active}
use Rattle.cpe_rows.specs.Lent.{entry_lent}
use Rattle.cpe_rows.specs.declared.entry.Entry.{Entry}
use Rattle.cpe_rows.specs.declared.entry_ref.EntryRef.{EntryRef}
use Rattle.line_replies.specs.Replies.{chain_line, name_line, row_line}

-- the line of an entry of the chain
abbrev pub step_line : Entry → List ℕ
step_line e = row_line (codes "step ") (row_of e)

-- the line of an active entry, which is an end; nothing for a deprecated entry
abbrev pub end_line : Entry → List ℕ
end_line e = if is_active e then name_line (codes "end ") e.name else []

-- the lines of a chain that has these entries; if there are no entries, the name is its own end
abbrev pub lent_text : Values → List EntryRef → List ℕ
lent_text name links =
    if nat_eq (length links) 0
    then chain_line name 0 1 ++ name_line (codes "end ") name
    else chain_line name (length links) (length (filter (λ e. is_active (entry_lent e)) links))
    ++ flat_map (λ e. step_line (entry_lent e)) links
    ++ flat_map (λ e. end_line (entry_lent e)) links
