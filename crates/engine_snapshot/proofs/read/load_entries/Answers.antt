use Rattle.std.proofs.Common.{refl, sym, ◌∙◌}
use Rattle.std.proofs.lemmas.Result.{IfErr-weaker, IfOk-weaker}
use Rattle.engine_snapshot.proofs.EntriesLemmas.{are_loaded, is_bare, is_even, none_given, none_put}
use Rattle.engine_snapshot.proofs.read.load_entries.Goals as goal

pub give_all-requires-clause-bare : goal.give_all-requires-clause-bare
give_all-requires-clause-bare g c = is_bare _ _ _ _ _ _ c.new-engine.ensures c.in-Ok.ensures.ok refl

pub give_all-requires-clause-even : goal.give_all-requires-clause-even
give_all-requires-clause-even g c = is_even _ _ _ _ _ _ c.new-engine.ensures c.in-Ok.ensures.ok refl

pub returns-in-Ok-clause-loaded : goal.returns-in-Ok-clause-loaded
returns-in-Ok-clause-loaded g c =
    IfOk-weaker c.give_all.result _ _ (λ e given. are_loaded _ _ _ _ _ _ c.new-engine.ensures c.in-Ok.ensures.ok refl e given) c.give_all.ensures.ok

pub returns-in-Ok-clause-refused : goal.returns-in-Ok-clause-refused
returns-in-Ok-clause-refused g c =
    IfErr-weaker c.give_all.result _ _ (λ f refused is. none_given _ _ _ _ _ _ c.new-engine.ensures c.in-Ok.ensures.ok refl (refused is)) c.give_all.ensures.refused

pub returns-in-Err-clause-refused : goal.returns-in-Err-clause-refused
returns-in-Err-clause-refused g c = λ is. none_put _ _ c.new-engine.ensures (c.in-Err.ensures.refused (sym c.let_both_go.ensures ∙ is))
