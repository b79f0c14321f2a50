use Rattle.std.proofs.Common.{sym, subst, ap, ◌∙◌}
use Rattle.cpe_values.specs.declared.value.Value.{Value}
use Rattle.cpe_fs.specs.Component.{HasComponent}
use Rattle.cpe_fs.proofs.Components.{is_span, value_has, one_value, not_component, is_of_some, reads_value, reads_none, some_value}
use Rattle.cpe_fs.proofs.component.unbind_component.Goals as goal

pub returns-then-not-is_component-clause-only : goal.returns-then-not-is_component-clause-only
returns-then-not-is_component-clause-only c = λ value has. absurd (not_component c.args.text.now (sym c.is_component.ensures ∙ c.if-not-is_component.true) (value, has))

pub returns-then-not-is_component-clause-refused : goal.returns-then-not-is_component-clause-refused
returns-then-not-is_component-clause-refused c = not_component c.args.text.now (sym c.is_component.ensures ∙ c.if-not-is_component.true)

pub returns-then-not-is_component-clause-read : goal.returns-then-not-is_component-clause-read
returns-then-not-is_component-clause-read c = λ fault. reads_none c.args.text.now (sym c.is_component.ensures ∙ c.if-not-is_component.true)

pub value_of-requires : goal.value_of-requires
value_of-requires c = is_span c.args.text.now (sym c.is_component.ensures ∙ c.if-not-is_component.false)

pub returns-in-Ok-clause-found : goal.returns-in-Ok-clause-found
returns-in-Ok-clause-found c =
    subst (λ (v : Value). HasComponent v c.args.text.now) (sym c.in-Ok.ensures) (value_has c.args.text.now (sym c.is_component.ensures ∙ c.if-not-is_component.false))

pub returns-in-Ok-clause-only : goal.returns-in-Ok-clause-only
returns-in-Ok-clause-only c = λ value has. c.in-Ok.ensures ∙ one_value value c.args.text.now has

pub returns-in-Ok-clause-read : goal.returns-in-Ok-clause-read
returns-in-Ok-clause-read c = reads_value c.args.text.now (sym c.is_component.ensures ∙ c.if-not-is_component.false) ∙ ap some_value (sym c.in-Ok.ensures)

pub returns-in-Err-clause-refused : goal.returns-in-Err-clause-refused
returns-in-Err-clause-refused c = is_of_some c.args.text.now (sym c.is_component.ensures ∙ c.if-not-is_component.false)
