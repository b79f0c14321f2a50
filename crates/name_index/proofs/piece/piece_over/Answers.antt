use Rattle.std.proofs.Common.{◌≡◌, ◌-◌, ◌+◌, ℕ, List, ◌++◌, take, drop, refl, sym, ap, ◌∙◌, arith}
use Rattle.name_index.specs.Places.{Block, flat, block_at, before, numbers_behind}
use Rattle.name_index.proofs.BlockLemmas.{over_front, over_back, over}
use Rattle.name_index.proofs.piece.piece_over.Goals as goal

pub returns : goal.returns
returns c =
    let bs = c.args.blocks.now in
    let i = c.args.from.block in
    let j = c.args.to.block in
    let n = j - (i + 1) in
    let here = c.back_of.ensures ∙ ap (drop c.args.from.at) c.block_of.ensures in
    let last = c.front_of.ensures ∙ ap (take c.args.to.at) c.block_of-2.ensures in
    let same : over bs i c.args.from.at (i + 1) n j c.args.to.at ≡ c.back_of.result.now ++ (flat c.blocks_from.result.now ++ c.front_of.result.now) =
    sym (ap (λ (u : List ℕ). u ++ (flat c.blocks_from.result.now ++ c.front_of.result.now)) here
    ∙ ap (λ (u : List Block). drop c.args.from.at (block_at bs i) ++ (flat u ++ c.front_of.result.now)) c.blocks_from.ensures
    ∙ ap (λ (u : List ℕ). drop c.args.from.at (block_at bs i) ++ (flat (take n (drop (i + 1) bs)) ++ u)) last) in
    record {
      front = over_front bs i (i + 1) n j c.args.from.at c.args.to.at refl (omega (arith, c.requires.later)) c.requires.inside ∙ ap (λ (u : List ℕ). before bs i c.args.from.at ++ u) same;
      back = over_back bs i (i + 1) n j c.args.from.at c.args.to.at refl (omega (arith, c.requires.later)) c.requires.inside ∙ ap (λ (u : List ℕ). u ++ numbers_behind bs j c.args.to.at) same;
    }
