use Rattle.std.proofs.Common.{sym, ◌∙◌}
use Rattle.cpe_uri.proofs.ValueLemmas.{spells_text}
use Rattle.cpe_uri.proofs.values.value_of.Goals as goal

pub text_of-requires : goal.text_of-requires
text_of-requires c = spells_text c.args.span.now c.requires (sym c.is_empty.ensures ∙ c.if-is_empty.false) (sym c.is_hyphen.ensures ∙ c.if-is_hyphen.false)
