use Rattle.std.proofs.Common.{Option, IfOk, Ok, OnErr, refl, ap, sym, subst, ◌∙◌}
use Rattle.std.proofs.lemmas.Result.{IfOk-weaker}
use Rattle.std.specs.Option.{option_map}
use Rattle.line_session.specs.Pages.{IsBeforeOrAfter, IsAppended}
use Rattle.line_session.specs.Session.{Saying}
use Rattle.cpe_rows.specs.Rows.{Rows}
use Rattle.cpe_records.specs.declared.read.Record.TheVariants.{Edit, Query}
use Rattle.line_replies.specs.Reasons.{reason_text}
use Rattle.line_replies.specs.declared.reason.RecordReason.{RecordReason}
use Rattle.cpe_command.proofs.Edits.{record_says}
use Rattle.cpe_command.proofs.records.RecordCommandSpeaker.say.Goals as goal

pub returns-in-Ok-Edit-clause-said : goal.returns-in-Ok-Edit-clause-said
returns-in-Ok-Edit-clause-said g c =
    subst (λ (saying : Saying Rows). IfOk c.say_edit.result (λ refused. IsAppended saying c.args.state.now c.say_edit.new.engine c.args.page.now c.say_edit.new.page (option_map reason_text refused)))
    (sym (record_says c.args.self.now c.args.line.now.number c.args.state.now c.args.line.now.text.now (Edit c.in-Ok-Edit.edit) (c.in-Ok-Edit.ensures.read ∙ ap Ok c.in-Ok-Edit.field-0-is)))
    c.say_edit.ensures.said

pub returns-in-Ok-Edit-clause-err : goal.returns-in-Ok-Edit-clause-err
returns-in-Ok-Edit-clause-err g c =
    subst (λ (saying : Saying Rows). OnErr c.say_edit.result (IsBeforeOrAfter saying c.args.state.now c.say_edit.new.engine))
    (sym (record_says c.args.self.now c.args.line.now.number c.args.state.now c.args.line.now.text.now (Edit c.in-Ok-Edit.edit) (c.in-Ok-Edit.ensures.read ∙ ap Ok c.in-Ok-Edit.field-0-is)))
    c.say_edit.ensures.err

pub returns-in-Ok-Query-clause-said : goal.returns-in-Ok-Query-clause-said
returns-in-Ok-Query-clause-said g c =
    subst (λ (saying : Saying Rows). IfOk c.say_query.result (λ refused. IsAppended saying c.args.state.now c.args.state.now c.args.page.now c.say_query.new.page (option_map reason_text refused)))
    (sym (record_says c.args.self.now c.args.line.now.number c.args.state.now c.args.line.now.text.now (Query c.in-Ok-Query.query) (c.in-Ok-Query.ensures.read ∙ ap Ok c.in-Ok-Query.field-0-is)))
    (IfOk-weaker c.say_query.result _ _ (λ refused said. (ap (λ (reason : Option RecordReason). option_map reason_text reason) said.0, said.1, refl)) c.say_query.ensures.said)
