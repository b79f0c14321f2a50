use Rattle.std.proofs.Common.{List, ℕ, length, sym, ap, ◌∙◌, arith}
use Rattle.std.specs.List.{slice_index_or}
use Rattle.std.proofs.lemmas.Bool.{OnTrue_from, not-true}
use Rattle.name_index.proofs.BlockLemmas.{none_passing}
use Rattle.name_index.proofs.search.none_pass.Goals as goal

pub returns-in-len1-up : goal.returns-in-len1-up
returns-in-len1-up g c =
    let passes = g.T.Test.passes c.args.test.now in
    OnTrue_from _ _ (λ h.
    none_passing passes c.args.blocks.now (omega (arith, c.in-len1-up.len_at_least, ap length c.block_of.ensures)) c.requires.parted
    (sym (ap (λ (xs : List ℕ). passes (slice_index_or xs 0 0)) c.block_of.ensures) ∙ sym c.test.ensures ∙ not-true c.test.result h))
