use Rattle.std.proofs.Common.{◌∙◌, None, ap, eqb}
use Rattle.std.specs.List.{list_any}
use Rattle.deprecation_graph.proofs.KeptLemmas.{closed_lists, kept_closed, kept_answer}
use Rattle.deprecation_graph.proofs.check.is_led_to.Goals as goal

pub find_all-requires-clause-closed : goal.find_all-requires-clause-closed
find_all-requires-clause-closed c = closed_lists c.args.kept.now None c.requires.kept (kept_closed c.args.kept.now c.requires.kept)

pub returns : goal.returns
returns c = c.contains.ensures.value ∙ ap (list_any (λ x. eqb x c.args.to)) c.deref.ensures.value ∙ kept_answer c.args.kept.now c.args.from c.args.to c.in_ok-chain.chain.items c.requires.kept c.requires.from c.in_ok-chain.ensures
