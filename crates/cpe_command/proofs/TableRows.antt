-- The table of verdicts is a head, and a line for each statement.
use Rattle.std.proofs.Common.{◌≡◌, ℕ, List, [], ◌++◌, length, slice_get, codes, Option, sym, ap, ◌∙◌, subst, append_assoc}
use Rattle.std.specs.Option.{option_map_or}
use Rattle.std.specs.Fmt.{decimal}
use Rattle.line_session.specs.cpe_io.Writes.{AppendsPrefix}
use Rattle.line_session.specs.Pages.{Pours}
use Rattle.line_session.specs.Table.{rows_text}
use Rattle.cpe_rows.specs.Rows.{Rows}
use Rattle.line_replies.specs.Replies.{statement_line, verdict_table}
use Rattle.cover_lines.proofs.LineRows.{row_each}

abbrev head : ℕ → List ℕ
head count = codes "verdicts " ++ decimal count ++ codes "\n"

abbrev lines : Rows → List ℕ
lines rows = rows_text (λ k. option_map_or (statement_line rows) (slice_get rows.statements k) []) (length rows.statements)

-- the head, followed by the lines, is the table
with_table : (rows : Rows) (count : ℕ) (page page_then : List ℕ) → count ≡ length rows.statements → page_then ≡ page ++ head count
    → page_then ++ lines rows ≡ page ++ verdict_table rows
with_table rows count page page_then counted put =
    ap (λ (text : List ℕ). text ++ lines rows) (put ∙ ap (λ (n : ℕ). page ++ head n) counted)
    ∙ append_assoc page (head (length rows.statements)) (lines rows)
    ∙ ap (λ (text : List ℕ). page ++ (head (length rows.statements) ++ text)) (row_each (statement_line rows) rows.statements)

-- if all lines were appended after the head, the table was
pub table-poured : (rows : Rows) (count : ℕ) (held held_now : Option (List ℕ)) (page page_then page_now : List ℕ)
    → count ≡ length rows.statements → page_then ≡ page ++ head count
    → Pours held held_now page_then page_now (lines rows) → Pours held held_now page page_now (verdict_table rows)
table-poured rows count held held_now page page_then page_now counted put pours =
    record { prefix = pours.prefix; appends = pours.appends; splits = sym (with_table rows count page page_then counted put) ∙ pours.splits }

-- if a prefix of the lines was written after the head, it is a prefix of the table
pub table-begun : (rows : Rows) (count : ℕ) (held held_now : Option (List ℕ)) (page page_then : List ℕ)
    → count ≡ length rows.statements → page_then ≡ page ++ head count
    → AppendsPrefix held held_now (page_then ++ lines rows) → AppendsPrefix held held_now (page ++ verdict_table rows)
table-begun rows count held held_now page page_then counted put =
    subst (λ (text : List ℕ). AppendsPrefix held held_now text) (with_table rows count page page_then counted put)
