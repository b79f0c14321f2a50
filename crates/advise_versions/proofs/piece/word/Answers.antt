use Rattle.std.proofs.Common.{◌∷◌, take, drop, sym, ap, ◌∙◌}
use Rattle.std.specs.Str.{str_to_ascii_lowercase}
use Rattle.advise_versions.specs.Pieces.{Word, version_pieces}
use Rattle.advise_versions.proofs.RunLemmas.{word_first}
use Rattle.advise_versions.proofs.piece.word.Goals as goal

pub returns-clause-pieces : goal.returns-clause-pieces
returns-clause-pieces c =
    let s = c.args.text.now in
    let count = c.count_letters-count.result in
    word_first s c.requires.digit c.requires.letter
    ∙ sym ((λ i. Word (str_to_ascii_lowercase (take count s)) ∷ version_pieces (c.behind.ensures i)) ∙ ap (λ n. Word (str_to_ascii_lowercase (take n s)) ∷ version_pieces (drop n s)) c.count_letters-count.ensures.count)
