use Rattle.std.proofs.Common.{◌≡◌, ◌++◌, subst, sym}
use Rattle.std.specs.Prelude.{OnOk}
use Rattle.json.specs.Tree.{json_tokens}
use Rattle.record_writer.specs.WrittenRecord.{edit_json}
use Rattle.record_writer.proofs.form.put_edit.Goals as goal

pub returns-in-SetCheck : goal.returns-in-SetCheck
returns-in-SetCheck c =
    subst (λ e. OnOk c.put_result.result ((c.put_result.new.writer.before ≡ c.args.writer.now.before) × (c.put_result.new.writer.tokens ≡ c.args.writer.now.tokens ++ json_tokens (edit_json e))))
    (sym c.in-SetCheck.is) c.put_result.ensures

pub returns-in-DropCheck : goal.returns-in-DropCheck
returns-in-DropCheck c =
    subst (λ e. OnOk c.put_dropped_check.result ((c.put_dropped_check.new.writer.before ≡ c.args.writer.now.before) × (c.put_dropped_check.new.writer.tokens ≡ c.args.writer.now.tokens ++ json_tokens (edit_json e))))
    (sym c.in-DropCheck.is) c.put_dropped_check.ensures
