use Rattle.std.proofs.Common.{◌≡◌, ◌≤◌, ◌+◌, List, drop, get_or, sym, ap, subst, ◌∙◌}
use Rattle.std.specs.List.{AllByRecursion, list_any}
use Rattle.cpe_rows.specs.cpe_relation.Maybe.{maybe}
use Rattle.cpe_rows.specs.cpe_relation.NameRelation.{covers}
use Rattle.name_index.specs.declared.table.NameId.{NameId}
use Rattle.name_index.specs.Index.{name_id}
use Rattle.level_board.specs.Board.{probe_times}
use Rattle.cpe_rows.specs.Truth.{or_of}
use Rattle.cpe_rows.specs.Verdict.{truth}
use Rattle.cpe_rows.specs.declared.truth.Truth.{Truth}
use Rattle.fact_laws.specs.Shown.{name_at, names_at}
use Rattle.fact_boards.specs.Lists.{truth_of_names}
use Rattle.fact_boards.proofs.Steps.{first_there}
use Rattle.fact_boards.proofs.Truths.{first_truth, grouped}
use Rattle.fact_boards.proofs.lists.truth_by.Goals as goal

pub loop-id-preserved : goal.loop-id-preserved
loop-id-preserved c some =
    let numbers = c.args.numbers.now in
    let i = c.loop-id.id-index in
    let x : NameId = get_or numbers i (name_id 0) in
    let rest = drop (i + 1) numbers in
    let here = first_there numbers i (name_id 0) c.loop-id-test.true in
    let so_far = c.loop-id.invariant some in
    let on = subst (λ (ns : List NameId). AllByRecursion (λ (y : NameId). 1 ≤ probe_times c.args.board.now y.0) ns) here so_far.0 in
    let before : Truth = c.loop-id.truth in
    let joined_now : c.or_of-truth.result ≡ or_of before c.truth_at.result = c.or_of-truth.ensures in (
      on.1,
      λ names there fits shows.
          let n = name_at names x in
          let others = truth_of_names (names_at names rest) there in
          let one : Truth = truth (list_any (covers n) there) (list_any (maybe n) there) in
          so_far.1 names there fits shows
          ∙ ap (λ (ns : List NameId). or_of before (truth_of_names (names_at names ns) there)) here
          ∙ ap (or_of before) (first_truth n (names_at names rest) there)
          ∙ sym (grouped before one others)
          ∙ ap (λ (t : Truth). or_of t others) (ap (or_of before) (sym (c.truth_at.ensures on.0 names there fits shows)) ∙ sym joined_now),
    )
