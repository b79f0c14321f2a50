use Rattle.std.proofs.Common.{sym, ◌∙◌}
use Rattle.cpe_values.specs.Borrowed.{text_lent}
use Rattle.cpe_fs.proofs.ValueLemmas.{spells_text, text_read}
use Rattle.cpe_fs.proofs.lend.lend_value.Goals as goal

pub lend_spelling-requires : goal.lend_spelling-requires
lend_spelling-requires c = spells_text c.args.span.now c.requires (sym c.is_only.ensures ∙ c.if-is_only.false) (sym c.is_only-else-is_only.ensures ∙ c.if-is_only-2.false)

pub returns-in_ok-lend_spelling : goal.returns-in_ok-lend_spelling
returns-in_ok-lend_spelling c =
    text_read c.args.span.now (text_lent c.in_ok-lend_spelling.field-0) c.requires (sym c.is_only.ensures ∙ c.if-is_only.false) (sym c.is_only-else-is_only.ensures ∙ c.if-is_only-2.false) c.in_ok-lend_spelling.ensures
