use Rattle.std.proofs.Common.{ℕ, List, sym, subst}
use Rattle.std.specs.Option.{option_map}
use Rattle.std.proofs.lemmas.Result.{IfOk-weaker}
use Rattle.line_session.specs.Pages.{IsAppended}
use Rattle.cpe_rows.specs.Rows.{Rows}
use Rattle.cpe_rows.specs.Step.{step}
use Rattle.line_replies.specs.Reasons.{reason_text}
use Rattle.cpe_command.specs.Records.{record_step}
use Rattle.cpe_command.proofs.Edits.{quiet_edit}
use Rattle.cpe_command.proofs.records.RecordCommand.say_edit.Goals as goal

-- the command writes nothing for an edit
pub returns-in-Resolve-clause-said : goal.returns-in-Resolve-clause-said
returns-in-Resolve-clause-said g c =
    IfOk-weaker c.make_edit.result _ _
    (λ refused said. subst (λ (text : Rows → List ℕ). IsAppended (record_step text (step c.args.engine.now c.args.edit)) c.args.engine.now c.make_edit.new.engine c.args.page.now c.args.page.now (option_map reason_text refused))
    (sym (quiet_edit c.args.self.now c.args.number c.args.engine.now c.args.edit c.in-Resolve.is)) (said c.args.page.now))
    c.make_edit.ensures.said
