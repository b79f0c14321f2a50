use Rattle.std.proofs.Common.{◌≡◌, ◌+◌, [], None, not, arith, sym, ap, subst, ◌∙◌}
use Rattle.std.proofs.lemmas.Bool.{not-false}
use Rattle.cpe_rows.specs.cpe_name.Eleven.{Values}
use Rattle.cpe_rows.specs.Causes.{causes}
use Rattle.cpe_rows.specs.Rows.{is_checked, is_item}
use Rattle.cpe_rows.specs.Step.{first_some}
use Rattle.cpe_rows.specs.Weight.{key_weight, name_weight}
use Rattle.cpe_rows.specs.declared.edit.Edit.TheVariants as edit
use Rattle.cpe_rows.specs.declared.fault.EditFault.TheVariants as fault
use Rattle.row_weight.specs.Capped.{capped}
use Rattle.row_weight.specs.Gain.{loss}
use Rattle.verdicts.specs.name_registry.Registered.{name_in}
use Rattle.engine_edits.specs.Numbered.{edit_of}
use Rattle.engine_edits.specs.Parts.{rows_in}
use Rattle.engine_edits.specs.declared.numbered.NumberedEdit.{NumberedEdit}
use Rattle.engine_edits.proofs.PartsLemmas.{counted, none_here}
use Rattle.engine_edits.proofs.parts.EngineParts.loss.Goals as goal

pub statement_weight-requires : goal.statement_weight-requires
statement_weight-requires c =
    let small = c.edits_weigh.ensures.loss (rows_in c.args.self.now) (edit.DropStatement c.in-DropStatement.id) in
    let within = c.requires.within in
    omega (arith, small, within)

pub deprecation_weight-requires-clause-few : goal.deprecation_weight-requires-clause-few
deprecation_weight-requires-clause-few c =
    let small = c.edits_weigh.ensures.loss (rows_in c.args.self.now) (edit.Restore (name_in c.args.self.now.registry.table c.in-Change.change.id) [] []) in
    let within = c.requires.within in
    omega (arith, small, within)

pub returns-in-DropItem : goal.returns-in-DropItem
returns-in-DropItem c =
    let rows = rows_in c.args.self.now in
    let table = c.args.self.now.registry.table in
    let n = name_in table c.in-DropItem.id in
    let none = subst (λ (x : NumberedEdit). first_some (causes rows (edit_of table x)) ≡ None) c.in-DropItem.is c.requires.none in
    let there = not-false (is_item rows n) (none_here (not (is_item rows n)) fault.Unknown [] none) in
    let known = c.losses_are_known.ensures.items rows n there in
    let small = c.edits_weigh.ensures.loss rows (edit.DropItem n) in
    let within = c.requires.within in
    c.with_name.ensures
    ∙ ap (λ (m : Values). capped (0 + name_weight m)) c.name.ensures
    ∙ counted (name_weight n) (omega (arith, known, small, within))
    ∙ sym known
    ∙ ap (λ (x : NumberedEdit). loss rows (edit_of table x)) (sym c.in-DropItem.is)

pub returns-in-DropCheck : goal.returns-in-DropCheck
returns-in-DropCheck c =
    let rows = rows_in c.args.self.now in
    let table = c.args.self.now.registry.table in
    let k = c.in-DropCheck.key in
    let none = subst (λ (x : NumberedEdit). first_some (causes rows (edit_of table x)) ≡ None) c.in-DropCheck.is c.requires.none in
    let there = not-false (is_checked rows k) (none_here (not (is_checked rows k)) fault.Unknown [] none) in
    let known = c.losses_are_known.ensures.checks rows k there in
    let small = c.edits_weigh.ensures.loss rows (edit.DropCheck k) in
    let within = c.requires.within in
    c.with_key.ensures ∙ counted (key_weight k) (omega (arith, known, small, within)) ∙ sym known ∙ ap (λ (x : NumberedEdit). loss rows (edit_of table x)) (sym c.in-DropCheck.is)
