use Rattle.std.proofs.Common.{◌∙◌}
use Rattle.std.proofs.lemmas.Result.{IfOk-weaker}
use Rattle.deprecation_graph.proofs.KeptLemmas.{kept_chain_below, kept_ends_read}
use Rattle.deprecation_graph.proofs.check.find_ends.Goals as goal

pub keep_active-requires : goal.keep_active-requires
keep_active-requires c = kept_chain_below c.args.kept.now c.args.change c.args.start c.deref.result.now c.deref-2.result.now c.requires.kept c.requires.closed c.requires.start c.deref.ensures.value (c.deref-2.ensures.value ∙ c.in_ok-chain.ensures)

pub returns : goal.returns
returns c = IfOk-weaker c.keep_active.result _ _ (λ v e. kept_ends_read c.args.kept.now c.args.change c.args.start c.deref.result.now c.deref-2.result.now v.items c.requires.kept c.deref.ensures.value (c.deref-2.ensures.value ∙ c.in_ok-chain.ensures) e) c.keep_active.ensures
