use Rattle.std.proofs.Common.{◌∷◌, take, drop, sym, ap, ◌∙◌}
use Rattle.advise_versions.specs.Pieces.{Number, version_pieces, without_zeros}
use Rattle.advise_versions.proofs.RunLemmas.{number_first}
use Rattle.advise_versions.proofs.piece.number.Goals as goal

pub returns-clause-pieces : goal.returns-clause-pieces
returns-clause-pieces c =
    let s = c.args.text.now in
    number_first s c.requires
    ∙ sym ((λ i. Number (c.without_zeros.ensures i) ∷ version_pieces (c.behind.ensures i)) ∙ ap (λ n. Number (without_zeros (take n s)) ∷ version_pieces (drop n s)) c.count_digits-count.ensures.count)
