use Rattle.std.proofs.Common.{◌≡◌, subst, IfOk}
use Rattle.cpe_values.specs.Parts.{Parts}
use Rattle.cpe_values.proofs.Unspelled.{lawful_parts, parts_are}
use Rattle.cpe_values.proofs.unspell.read_spelling.Goals as goal

pub read_text-requires : goal.read_text-requires
read_text-requires c = lawful_parts c.args.bytes.now c.requires

pub returns : goal.returns
returns c = λ style t good spells. subst (λ (u : Parts). IfOk c.read_text.result (λ text. text ≡ u)) (parts_are style t c.args.bytes.now good spells) c.read_text.ensures
