-- The rows that lines leave are lawful, and their texts are UTF-8.
use Rattle.std.proofs.Common.{◌≡◌, ℕ, List, [], ◌∷◌, Option, Some, None, refl, subst}
use Rattle.std.specs.Prelude.{Result, Ok, Err, IfOk}
use Rattle.cpe_rows.specs.Rows.{Rows, no_rows}
use Rattle.cpe_rows.specs.Accepted.{IsAccepted}
use Rattle.cpe_rows.specs.Step.{step}
use Rattle.cpe_rows.specs.declared.edit.Edit.{Edit}
use Rattle.cpe_rows.specs.declared.fault.EditFault.{EditFault}
use Rattle.cpe_rows.proofs.Accepted.{at_start}
use Rattle.cpe_rows.proofs.KeptLawful.{stays_lawful}
use Rattle.cpe_rows.proofs.Unrefused.{unrefused}
use Rattle.cpe_records.specs.declared.member.RecordFault.{RecordFault}
use Rattle.cpe_records.specs.Edited.{stepped, edited, line_edited}
use Rattle.cpe_records.specs.Reading.{record_of}
use Rattle.cpe_records.specs.declared.read.Record.{Record}
use Rattle.cpe_records.specs.declared.read.Record.TheVariants.{Edit as AnEdit, Query as AQuery}
use Rattle.cpe_records.proofs.ValidRecords.{read_valid}
use Rattle.cpe_command.specs.line_session.Folding.{folded_lines}
use Rattle.snapshot_bytes.specs.States.{AreTexts}
use Rattle.run_laws.specs.Theorems.{AreLawfulTexts}
use Rattle.cpe_records.specs.Read.{IsRead}
use Rattle.cpe_records.proofs.RecordReads.{line_read}
use Rattle.run_laws.proofs.Kept.{texts_stay, texts_at_start}

edit_keeps : (rows : Rows) (line : List ℕ) (e : Edit) → record_of line ≡ Ok (AnEdit e) → AreLawfulTexts rows → AreLawfulTexts (stepped rows (step rows e))
edit_keeps rows line e is h = by (step rows e) refl where
  read : IsRead (AnEdit e)
  read = subst (λ r. IfOk r IsRead) is (line_read line)

  by : (r : Result Rows EditFault) → step rows e ≡ r → AreLawfulTexts (stepped rows r)
  by (Err fault) so = h
  by (Ok next) so =
      let accepted : IsAccepted rows e next = record { lawful = h.lawful; formed = read.0; valid = read_valid line (AnEdit e) is; accepted = so } in
      record { lawful = stays_lawful rows next e accepted; texts = subst AreTexts (unrefused accepted).1 (texts_stay rows e h.texts read.1) }

record_keeps : (rows : Rows) (line : List ℕ) → AreLawfulTexts rows → AreLawfulTexts (edited rows (record_of line))
record_keeps rows line h = by (record_of line) refl where
  by : (r : Result Record RecordFault) → record_of line ≡ r → AreLawfulTexts (edited rows r)
  by (Ok (AnEdit e)) is = edit_keeps rows line e is h
  by (Ok (AQuery q)) is = h
  by (Err fault) is = h

line_keeps : (rows : Rows) (line : Option (List ℕ)) → AreLawfulTexts rows → AreLawfulTexts (line_edited rows line)
line_keeps rows None h = h
line_keeps rows (Some []) h = h
line_keeps rows (Some (x ∷ xs)) h = record_keeps rows (x ∷ xs) h

from : (rows : Rows) (ls : List (Option (List ℕ))) → AreLawfulTexts rows → AreLawfulTexts (folded_lines line_edited rows ls)
from rows [] h = h
from rows (line ∷ more) h = from (line_edited rows line) more (line_keeps rows line h)

pub rows_kept : (ls : List (Option (List ℕ))) → AreLawfulTexts (folded_lines line_edited no_rows ls)
rows_kept ls = from no_rows ls (record { lawful = at_start; texts = texts_at_start })
