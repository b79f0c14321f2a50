use Rattle.std.proofs.Common.{sym, subst, ◌∙◌}
use Rattle.name_grammar.specs.Scanners.{IsScan}
use Rattle.cpe_uri.specs.TextMachine.{text_end}
use Rattle.cpe_uri.proofs.Components.{ended_body}
use Rattle.cpe_uri.proofs.text.scan_text.Goals as goal

pub returns-then-ends_component : goal.returns-then-ends_component
unfolding text_end
returns-then-ends_component c =
    sym (c.begin-state.ensures.same c.args.packed)
    ∙ ended_body c.args.packed c.begin-state.result.0 c.begin-state.result.1.now (sym c.is_in_body.ensures ∙ c.if-is_in_body.true) (sym c.ends_component.ensures ∙ c.if-ends_component.true)

pub returns : goal.returns
unfolding text_end
returns c = subst (IsScan (λ rest. rest.now) c.scan_from.result) (c.begin-state.ensures.same c.args.packed) c.scan_from.ensures
