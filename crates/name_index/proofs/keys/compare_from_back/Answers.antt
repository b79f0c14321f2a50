use Rattle.std.proofs.Common.{sym, ◌∙◌, rules}
use Rattle.name_index.proofs.Texts.{longer_back}
use Rattle.name_index.proofs.keys.compare_from_back.Goals as goal

pub returns-in_default-right : goal.returns-in_default-right
returns-in_default-right c = sym (longer_back c.loop-left.left.now c.loop-left.right.now (search rules) (search rules)) ∙ c.loop-left.invariant
