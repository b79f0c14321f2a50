use Rattle.std.proofs.Common.{rules}
use Rattle.std.proofs.lemmas.List.Sorted.{answers_always}
use Rattle.cover_lines.proofs.SortLemmas.{before, sorted_is, weak_order}
use Rattle.cover_lines.proofs.rows.sort.Goals as goal

pub returns : goal.returns
returns c =
    sorted_is c.one_text.ensures.name c.args.rows.now.items c.sort_unstable_by.new.self.items c.requires.names c.requires.different c.sort_unstable_by.ensures.permutation
    (c.sort_unstable_by.ensures.sorted before weak_order (answers_always _ _ _ (λ f a r g h. search rules)))
