use Rattle.std.proofs.Common.{sym, ap, ◌∙◌}
use Rattle.cpe_values.specs.declared.value.Value.TheVariants as value
use Rattle.cpe_uri.proofs.Lent.{value_itself}
use Rattle.cpe_uri.proofs.lend.lend_value.Goals as goal

pub returns-else-is_hyphen : goal.returns-else-is_hyphen
returns-else-is_hyphen c =
    ap value.Text c.text_alone.ensures
    ∙ sym (value_itself c.args.span.now c.requires (sym c.is_empty.ensures ∙ c.if-is_empty.false) (sym c.is_hyphen.ensures ∙ c.if-is_hyphen.false))
