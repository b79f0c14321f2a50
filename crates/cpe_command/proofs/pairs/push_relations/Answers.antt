use Rattle.std.proofs.Common.{ℕ, List, ◌++◌, ap, ◌∙◌}
use Rattle.std.proofs.lemmas.Result.{IfOk-weaker}
use Rattle.cpe_fs.specs.cpe_name.Borrowed.{name_lent}
use Rattle.cpe_command.proofs.RelationTexts.{line_is}
use Rattle.cpe_command.proofs.pairs.push_relations.Goals as goal

pub returns : goal.returns
returns c =
    let same = line_is c.compare_lent-whole.result.0 c.compare_lent-whole.result.1 (name_lent c.args.source.now) (name_lent c.args.target.now) c.compare_lent-whole.ensures.name c.compare_lent-whole.ensures.each in
    IfOk-weaker c.with_room.result _ _ (λ refused puts. (puts.0 ∙ ap (λ (t : List ℕ). c.args.page.now ++ t) same, puts.1)) c.with_room.ensures.ok
