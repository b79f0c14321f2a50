use Rattle.std.proofs.Common.{◌≡◌, ℕ, List, take, IfOk, sym, ap, subst, ◌∙◌}
use Rattle.cpe_values.specs.Parts.{Parts}
use Rattle.cpe_values.proofs.Unspelled.{parts_are}
use Rattle.cpe_uri.specs.Rewriting.{rewritten}
use Rattle.cpe_uri.proofs.values.text_of.Goals as goal

pub returns : goal.returns
returns c =
    let is = c.requires in
    let written = ap (λ (u : List ℕ). take c.in_ok-end.end u) c.deref.ensures.value ∙ c.in_ok-end.ensures.written in
    subst (λ (t : Parts). IfOk c.read_spelling.result (λ text. text ≡ t)) (sym (parts_are is.spelled_in is.text (rewritten c.args.span.now) is.good is.spells))
    (c.read_spelling.ensures is.spelled_in is.text is.good (is.spells ∙ sym written))
