-- What `watch` writes for an accepted edit.
use Rattle.std.proofs.Common.{◌≡◌, ℕ, List, ◌++◌, Option, None, Result, Ok, refl, sym, ap, ◌∙◌, subst}
use Rattle.std.specs.List.{flat_map}
use Rattle.line_session.specs.Pages.{IsAppended}
use Rattle.cpe_rows.specs.Rows.{Rows}
use Rattle.cpe_rows.specs.Step.{step}
use Rattle.cpe_rows.specs.Changes.{changes}
use Rattle.cpe_rows.specs.declared.edit.Edit.{Edit}
use Rattle.cpe_rows.specs.declared.fault.EditFault.{EditFault}
use Rattle.cpe_rows.specs.declared.reply.Changed.{Changed}
use Rattle.cpe_rows.specs.declared.statement.Statement.{Statement}
use Rattle.line_replies.specs.Replies.{change_line, changed_id, dropped_id}
use Rattle.cpe_command.specs.declared.records.RecordCommand.TheVariants.{Watch}
use Rattle.cpe_command.specs.Records.{edit_text, record_step}

-- the lines of some changes, by the statements after the edit and the id that the edit removed
abbrev lines : ℕ → List Statement → Option (List ℕ) → List Changed → List ℕ
lines number statements dropped = flat_map (λ c. change_line number (changed_id statements dropped c) c)

-- an edit is accepted, and the lines of its changes were appended: this is what `watch` writes for the edit
pub changes-said : (number : ℕ) (rows next : Rows) (e : Edit) (dropped : Option (List ℕ)) (cs : List Changed) (page page_now : List ℕ)
    → step rows e ≡ Ok next → cs ≡ changes rows e → dropped ≡ dropped_id e → page_now ≡ page ++ lines number next.statements dropped cs
    → IsAppended (record_step (edit_text Watch number rows e) (step rows e)) rows next page page_now None
changes-said number rows next e dropped cs page page_now accepted are drops put =
    subst (λ (stepped : Result Rows EditFault). IsAppended (record_step (edit_text Watch number rows e) stepped) rows next page page_now None) (sym accepted) (
      refl,
      put ∙ ap (λ (d : Option (List ℕ)). page ++ lines number next.statements d cs) drops
          ∙ ap (λ (xs : List Changed). page ++ lines number next.statements (dropped_id e) xs) are,
      refl,
    )
