use Rattle.std.proofs.Common.{◌≡◌, ◌-◌, ℕ, List, [], ◌++◌, take, drop, sym, ap, ◌∙◌, append-nil}
use Rattle.name_index.specs.Places.{block_at, before, numbers_behind}
use Rattle.name_index.proofs.BlockLemmas.{within_front, within_back}
use Rattle.name_index.proofs.piece.piece_within.Goals as goal

pub returns : goal.returns
returns c =
    let bs = c.args.blocks.now in
    let same : take (c.args.to - c.args.from) (drop c.args.from (block_at bs c.args.block)) ≡ c.part_of.result.now ++ [] =
    sym (append-nil c.part_of.result.now ∙ c.part_of.ensures ∙ ap (λ (u : List ℕ). take (c.args.to - c.args.from) (drop c.args.from u)) c.block_of.ensures) in
    record {
      front = within_front bs c.args.block c.args.from c.args.to c.requires.inside c.requires.from ∙ ap (λ (u : List ℕ). before bs c.args.block c.args.from ++ u) same;
      back = within_back bs c.args.block c.args.from c.args.to c.requires.inside c.requires.from ∙ ap (λ (u : List ℕ). u ++ numbers_behind bs c.args.block c.args.to) same;
    }
