-- The certificates of all statements are lines of a table, one for each statement.
use Rattle.std.proofs.Common.{ℕ, List, [], ◌++◌, length, slice_get, Option, subst}
use Rattle.std.specs.Option.{option_map_or}
use Rattle.line_session.specs.cpe_io.Writes.{AppendsPrefix}
use Rattle.line_session.specs.Pages.{Pours}
use Rattle.line_session.specs.Table.{rows_text}
use Rattle.cpe_rows.specs.Rows.{Rows}
use Rattle.line_replies.specs.CertificateReplies.{certificate_line, certificate_lines}
use Rattle.cover_lines.proofs.LineRows.{row_each}

abbrev pub lines : Rows → List ℕ
lines rows = rows_text (λ k. option_map_or (certificate_line rows) (slice_get rows.statements k) []) (length rows.statements)

-- if all lines were appended, all certificates were
pub certificates-poured : (rows : Rows) (held held_now : Option (List ℕ)) (page page_now : List ℕ)
    → Pours held held_now page page_now (lines rows) → Pours held held_now page page_now (certificate_lines rows)
certificates-poured rows held held_now page page_now =
    subst (λ (text : List ℕ). Pours held held_now page page_now text) (row_each (certificate_line rows) rows.statements)

-- if a prefix of the lines was written, it is a prefix of the certificates
pub certificates-begun : (rows : Rows) (held held_now : Option (List ℕ)) (page : List ℕ)
    → AppendsPrefix held held_now (page ++ lines rows) → AppendsPrefix held held_now (page ++ certificate_lines rows)
certificates-begun rows held held_now page =
    subst (λ (text : List ℕ). AppendsPrefix held held_now (page ++ text)) (row_each (certificate_line rows) rows.statements)
