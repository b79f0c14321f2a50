use Rattle.std.proofs.Common.{◌≡◌, subst, sym, IfOk, ◌∙◌}
use Rattle.cpe_values.specs.Parts.{Parts}
use Rattle.cpe_values.proofs.Unspelled.{parts_are}
use Rattle.cpe_name.specs.Unwriting.{inner}
use Rattle.cpe_name.proofs.read.text_between_quotes.Goals as goal

pub returns : goal.returns
returns c =
    let is = c.requires.spelling in
    subst (λ (u : Parts). IfOk c.read_spelling.result (λ pattern. pattern ≡ u)) (sym (parts_are is.spelled_in is.text (inner c.args.text.now) is.good is.spells))
    (c.read_spelling.ensures is.spelled_in is.text is.good (is.spells ∙ sym c.between_quotes.ensures))
