-- What `convert` writes for lines leaves the same rows as the lines.
use Rattle.std.proofs.Common.{◌≡◌, ℕ, ◌+◌, Bool, true, false, nat_le, List, [], ◌∷◌, ◌++◌, length, map, Option, Some, None, if◌then◌else◌, codes, refl, sym, ap, ◌∙◌, append_assoc, append-nil}
use Rattle.std.specs.Prelude.{Result, Ok, Err}
use Rattle.std.specs.List.{AllByRecursion}
use Rattle.std.specs.Str.{IsUtf8}
use Rattle.line_replies.specs.cpe_io.Lines.{has_newline, line_of, lines}
use Rattle.line_replies.proofs.cpe_io.LineLemmas.{pieces-cut}
use Rattle.line_replies.specs.line_session.Folding.{folded_lines}
use Rattle.line_replies.specs.line_session.Session.{Stage, after_next, next_writes, out_from, printed, keeping, refusal, writes, start}
use Rattle.line_replies.specs.line_session.Task.{speech, spoken}
use Rattle.cpe_rows.specs.Rows.{Rows}
use Rattle.cpe_records.specs.declared.member.RecordFault.{RecordFault}
use Rattle.cpe_records.specs.Edited.{edited, line_edited}
use Rattle.cpe_records.specs.Reading.{record_of}
use Rattle.cpe_records.specs.Taken.{IsFormedRecord, is_valid_record}
use Rattle.record_writer.specs.WrittenRecord.{record_json, record_text}
use Rattle.cpe_records.specs.declared.read.Record.{Record}
use Rattle.record_writer.proofs.RecordForms.{record_fits}
use Rattle.cpe_records.proofs.ValidRecords.{read_valid}
use Rattle.line_replies.specs.Reasons.{record_fault_text}
use Rattle.convert_lines.specs.Convert.{convert_line, converted, convert_session, convert_reason_text}
use Rattle.convert_lines.specs.Growing.{IsGrown, IsWhole}
use Rattle.convert_lines.specs.declared.reason.ConvertReason.TheVariants.{Grown}
use Rattle.convert_lines.proofs.Clean.{Clean, clean-has_newline, clean-line_of}
use Rattle.convert_lines.proofs.Printed.{clean-print}
use Rattle.convert_lines.proofs.Refused.{clean_fault, clean-refused_line, no_bytes_no_record, refused_edits, refused_line}

-- either nothing is written, and the line changes nothing; or one line is written, and it changes what the line
-- changes
data Keeps (rows : Rows) (line : Option (List ℕ)) (text : List ℕ) : Type 0 where
  nothing : text ≡ [] → line_edited rows line ≡ rows → Keeps rows line text
  one : (piece : List ℕ) → text ≡ piece ++ 10 ∷ [] → has_newline piece ≡ false → line_edited rows (line_of piece) ≡ line_edited rows line → Keeps rows line text

-- `convert` keeps nothing from line to line
abbrev here : Unit {0}
here = tt

clean_form : (r : Record) → is_valid_record r ≡ true → Clean (record_text r)
unfolding record_text
clean_form r h = clean-print (record_json r) (record_fits r h)

-- a refusal is written as one line, and changes nothing
keeps_refused : (rows : Rows) (line : Option (List ℕ)) (number : ℕ) (reason : List ℕ) → Clean reason → line_edited rows line ≡ rows → Keeps rows line (refusal number reason)
keeps_refused rows line number reason clean still =
    let is_clean = clean-refused_line number reason clean in
    one (refused_line number reason) refl
    (clean-has_newline (refused_line number reason) is_clean)
    (ap (line_edited rows) (clean-line_of (refused_line number reason) is_clean)
    ∙ refused_edits rows number reason (nat_le (length (refused_line number reason)) 65536)
    ∙ sym still)

-- the written form of a record is read as this record
abbrev AreReadBack : Type 0
AreReadBack = (r : Record) → IsFormedRecord r → is_valid_record r ≡ true → IsUtf8 (record_text r) → record_of (record_text r) ≡ Ok r

abbrev AsRecordsAre : Record → Type 0
AsRecordsAre r = IsFormedRecord r × IsUtf8 (record_text r)

module _ (back : AreReadBack) where
  -- a form that is read as a record edits the rows as the record does
  form_edits : (rows : Rows) (r : Record) (form : List ℕ) → record_of form ≡ Ok r → line_edited rows (Some form) ≡ edited rows (Ok r)
  form_edits rows r [] e = ap (edited rows) (sym no_bytes_no_record ∙ e)
  form_edits rows r (x ∷ xs) e = ap (edited rows) e

  keeps_form : (rows : Rows) (line : Option (List ℕ)) (number : ℕ) (r : Record) → is_valid_record r ≡ true → AsRecordsAre r → line_edited rows line ≡ edited rows (Ok r)
      → (convert_line (record_text r) ≡ Err Grown → ⊥) → Keeps rows line (writes false number (keeping here (printed convert_reason_text (convert_line (record_text r)))))
  keeps_form rows line number r valid whole edits grown = go (nat_le (length (record_text r)) 65536) refl
    where
      go : (b : Bool) → nat_le (length (record_text r)) 65536 ≡ b
          → Keeps rows line (writes false number (keeping here (printed convert_reason_text (if b then Ok (record_text r ++ codes "\n") else Err Grown))))
      go true e =
          one (record_text r) refl (clean-has_newline (record_text r) (clean_form r valid))
          (ap (line_edited rows) (clean-line_of (record_text r) (clean_form r valid) ∙ ap (λ b. if b then Some (record_text r) else None) e)
          ∙ form_edits rows r (record_text r) (back r whole.0 valid whole.1) ∙ sym edits)
      go false e = absurd (grown (ap (λ b. if b then Ok (record_text r ++ codes "\n") else Err Grown) e))

  keeps_read : (rows : Rows) (line : Option (List ℕ)) (number : ℕ) (o : Result Record RecordFault) → ((r : Record) → o ≡ Ok r → is_valid_record r ≡ true)
      → ((r : Record) → o ≡ Ok r → AsRecordsAre r)
      → line_edited rows line ≡ edited rows o → (converted o ≡ Err Grown → ⊥) → Keeps rows line (writes false number (keeping here (printed convert_reason_text (converted o))))
  keeps_read rows line number (Ok r) valid whole edits grown = keeps_form rows line number r (valid r refl) (whole r refl) edits grown
  keeps_read rows line number (Err fault) valid whole edits grown = keeps_refused rows line number (record_fault_text fault) (clean_fault fault) edits

  keeps : (rows : Rows) (s : Stage (Unit {0})) (line : Option (List ℕ)) → (IsGrown line → ⊥) → IsWhole line → Keeps rows line (next_writes convert_session s line)
  keeps rows s None grown whole = keeps_refused rows None (s.number + 1) (codes "long") refl refl
  keeps rows s (Some []) grown whole = nothing refl refl
  keeps rows s (Some (x ∷ xs)) grown whole = keeps_read rows (Some (x ∷ xs)) (s.number + 1) (record_of (x ∷ xs)) (read_valid (x ∷ xs)) whole refl grown

  -- what is written for one line, followed by the rest, edits the rows as the line and then the rest do
  folds : (rows : Rows) (line : Option (List ℕ)) (text rest : List ℕ) → Keeps rows line text → folded_lines line_edited rows (lines (text ++ rest)) ≡ folded_lines line_edited (line_edited rows line) (lines rest)
  folds rows line text rest (nothing none still) = ap (λ z. folded_lines line_edited rows (lines (z ++ rest))) none ∙ ap (λ now. folded_lines line_edited now (lines rest)) (sym still)
  folds rows line text rest (one piece is whole same) =
      ap (λ z. folded_lines line_edited rows (lines (z ++ rest))) is
      ∙ ap (λ z. folded_lines line_edited rows (lines z)) (append_assoc piece (10 ∷ []) rest)
      ∙ ap (λ z. folded_lines line_edited rows (map line_of z)) (pieces-cut piece rest whole)
      ∙ ap (λ now. folded_lines line_edited now (lines rest)) same

  out_keeps : (rows : Rows) (s : Stage (Unit {0})) (ls : List (Option (List ℕ))) → AllByRecursion (λ line. IsGrown line → ⊥) ls → AllByRecursion IsWhole ls
      → folded_lines line_edited rows (lines (out_from convert_session s ls)) ≡ folded_lines line_edited rows ls
  out_keeps rows s [] grown whole = refl
  out_keeps rows s (line ∷ more) grown whole =
      folds rows line (next_writes convert_session s line) (out_from convert_session (after_next convert_session s line) more) (keeps rows s line grown.0 whole.0)
      ∙ out_keeps (line_edited rows line) (after_next convert_session s line) more grown.1 whole.1

  pub written_keeps : (rows : Rows) (ls : List (Option (List ℕ))) → AllByRecursion (λ line. IsGrown line → ⊥) ls → AllByRecursion IsWhole ls
      → folded_lines line_edited rows (lines (spoken (speech convert_session tt) ls).text) ≡ folded_lines line_edited rows ls
  written_keeps rows ls grown whole =
      ap (λ z. folded_lines line_edited rows (lines z)) (append-nil (out_from convert_session (start tt) ls)) ∙ out_keeps rows (start tt) ls grown whole
