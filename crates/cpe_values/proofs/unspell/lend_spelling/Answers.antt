use Rattle.std.proofs.Common.{◌≡◌, subst, IfSome}
use Rattle.cpe_values.specs.Borrowed.{text_lent}
use Rattle.cpe_values.specs.Parts.{Parts}
use Rattle.cpe_values.proofs.Unspelled.{lawful_parts, parts_are}
use Rattle.cpe_values.proofs.unspell.lend_spelling.Goals as goal

pub lend_text-requires : goal.lend_text-requires
lend_text-requires c = lawful_parts c.args.bytes.now c.requires

pub returns : goal.returns
returns c = λ style t good spells. subst (λ (u : Parts). IfSome c.lend_text.result (λ text. text_lent text ≡ u)) (parts_are style t c.args.bytes.now good spells) c.lend_text.ensures
