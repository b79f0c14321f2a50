use Rattle.std.proofs.Common.{◌∙◌, sym, inl, inr}
use Rattle.deprecation_graph.proofs.KeptLemmas.{kept_apart}
use Rattle.deprecation_graph.proofs.check.has_no_step.Goals as goal

pub returns-then-is_empty : goal.returns-then-is_empty
returns-then-is_empty c = λ none. kept_apart c.args.kept.now c.args.from c.args.to c.requires.kept (inr (sym c.is_empty.ensures ∙ none))

pub returns-else-is_empty : goal.returns-else-is_empty
returns-else-is_empty c = λ none. kept_apart c.args.kept.now c.args.from c.args.to c.requires.kept (inl (sym c.is_empty-else-is_empty.ensures ∙ none))
