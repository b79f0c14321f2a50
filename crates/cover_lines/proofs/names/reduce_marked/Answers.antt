use Rattle.std.proofs.Common.{not, ◌∙◌, ap, List, sym, subst}
use Rattle.std.specs.List.{IsDistinct}
use Rattle.std.proofs.lemmas.Result.{IfOk-weaker}
use Rattle.cpe_rows.specs.cpe_name.Eleven.{Values}
use Rattle.cpe_rows.specs.cpe_name.Equal.{same_name}
use Rattle.cover_lines.specs.Cover.{is_covered_by_some, ordered}
use Rattle.cover_lines.specs.Laws.{AreWellFormed}
use Rattle.cover_lines.proofs.CoverLemmas.{lower_cover}
use Rattle.cover_lines.proofs.SortLemmas.{filter_distinct, filter_names}
use Rattle.cover_lines.proofs.names.reduce_marked.Goals as goal

pub sort-requires-clause-names : goal.sort-requires-clause-names
sort-requires-clause-names c = let names = c.args.names.now in subst AreWellFormed (sym c.in_ok-rows.ensures) (filter_names (λ (n : Values). not (is_covered_by_some names n)) names c.requires.named)

pub sort-requires-clause-different : goal.sort-requires-clause-different
sort-requires-clause-different c = let names = c.args.names.now in subst (λ (ns : List Values). IsDistinct same_name ns) (sym c.in_ok-rows.ensures) (filter_distinct (λ (n : Values). not (is_covered_by_some names n)) names c.lawful.ensures)

pub returns : goal.returns
returns c = IfOk-weaker c.into_names.result _ _ (λ r e. e ∙ c.sort.ensures ∙ ap ordered c.in_ok-rows.ensures ∙ lower_cover c.args.names.now c.requires.lower) c.into_names.ensures
