use Rattle.std.proofs.Common.{ℕ, List, ◌++◌, take, sym, ap, ◌∙◌}
use Rattle.cpe_command.proofs.RelationTexts.{all_put}
use Rattle.cpe_command.proofs.pairs.put_all.Goals as goal

pub returns-then-are_equal_late-clause-words : goal.returns-then-are_equal_late-clause-words
returns-then-are_equal_late-clause-words c =
    all_put c.args.relations.now _ _ _ c.put_each-behind_early.ensures.words
    (c.put.ensures.written ∙ ap (λ (u : List ℕ). take c.put_each-behind_early.result c.put_each-behind_early.new.room ++ u) (sym (c.are_equal_late.ensures c.if-are_equal_late.true)))

pub returns-clause-words : goal.returns-clause-words
returns-clause-words c = all_put c.args.relations.now _ _ _ c.put_each-behind_early.ensures.words c.put_each.ensures.words
