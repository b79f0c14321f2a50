use Rattle.std.proofs.Common.{sym, ◌∙◌}
use Rattle.cpe_fs.proofs.ValueLemmas.{spells_text, text_read}
use Rattle.cpe_fs.proofs.values.value_of.Goals as goal

pub read_spelling-requires : goal.read_spelling-requires
read_spelling-requires c = spells_text c.args.span.now c.requires (sym c.is_only.ensures ∙ c.if-is_only.false) (sym c.is_only-else-is_only.ensures ∙ c.if-is_only-2.false)

pub returns-in_ok-read_spelling : goal.returns-in_ok-read_spelling
returns-in_ok-read_spelling c =
    text_read c.args.span.now c.in_ok-read_spelling.field-0 c.requires (sym c.is_only.ensures ∙ c.if-is_only.false) (sym c.is_only-else-is_only.ensures ∙ c.if-is_only-2.false) c.in_ok-read_spelling.ensures
