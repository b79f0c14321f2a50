use Rattle.std.proofs.Common.{sym, ◌∙◌}
use Rattle.std.proofs.lemmas.Bool.{OnTrue_at}
use Rattle.name_index.specs.Places.{flat}
use Rattle.name_index.proofs.PartedLists.{filter_none, first_passes, only_second, second_fails}
use Rattle.name_index.proofs.BlockLemmas.{between_is, reversed}
use Rattle.name_index.proofs.piece.piece_between.Goals as goal
use Rattle.name_index.proofs.piece.piece_between.Goals.{then-all_pass-via-then-all_pass, then-all_pass-via-else-all_pass+then-none_pass}

pub returns-then-all_pass : goal.returns-then-all_pass
returns-then-all_pass g c =
    let first = g.A.Test.passes c.args.first.now in
    let second = g.B.Test.passes c.args.second.now in
    let all = flat c.args.blocks.now in
    c.none.ensures
    ∙ sym (
    filter_none (only_second first second) all (elim c.then-all_pass.branch [
      | then-all_pass-via-then-all_pass w ↦ first_passes first second all (OnTrue_at w.if-all_pass.true c.all_pass.ensures)
      | then-all_pass-via-else-all_pass+then-none_pass w ↦ second_fails first second all (OnTrue_at w.if-none_pass.true w.none_pass.ensures)
    ])
    )

pub returns-then-not-is_before : goal.returns-then-not-is_before
returns-then-not-is_before g c =
    let from = c.find-from in
    let to = c.find-to in
    c.none-then-not-is_before.ensures
    ∙ reversed (g.A.Test.passes c.args.first.now) (g.B.Test.passes c.args.second.now) c.args.blocks.now from.result.block to.result.block from.result.at to.result.at from.ensures.inside
    from.ensures.passing from.ensures.failing to.ensures.passing to.ensures.failing (sym c.is_before.ensures ∙ c.if-not-is_before.true)

pub returns : goal.returns
returns g c =
    let from = c.find-from in
    let to = c.find-to in
    between_is (g.A.Test.passes c.args.first.now) (g.B.Test.passes c.args.second.now) c.args.blocks.now from.result.block to.result.block from.result.at to.result.at from.ensures.inside
    from.ensures.passing from.ensures.failing to.ensures.passing to.ensures.failing c.piece_from.result c.piece_from.ensures.front c.piece_from.ensures.back
