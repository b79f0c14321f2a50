-- Lemmas: the looks of a board, counted by names.
use Rattle.std.proofs.Common.{◌≡◌, ℕ, ◌+◌, List, ap, sym, ◌∙◌}
use Rattle.cpe_rows.specs.cpe_name.Eleven.{Values}
use Rattle.name_index.specs.declared.products.Side.{Side}
use Rattle.name_index.proofs.Sums.{sum_agree}
use Rattle.name_index.specs.declared.table.NameId.{NameId}
use Rattle.name_index.specs.Index.{times_held}
use Rattle.name_index.specs.Table.{IsNameTable, Names}
use Rattle.name_index.proofs.Postings.{sum_map}
use Rattle.fact_laws.specs.Shown.{different, name_at, names_at, near_names, one_if_some, Shows}
use Rattle.fact_laws.proofs.Different.{near_different}
use Rattle.fact_boards.specs.Lists.{fact_looks, looks_at}
use Rattle.fact_boards.specs.Kept.{looks_by}

pub looks_are : (names : Names) (times : ℕ → ℕ) (list : List Values) (held : List (ℕ × ℕ)) (side : Side) (numbers : List NameId) → IsNameTable names → ((id : ℕ) → times_held held id ≡ one_if_some (times id)) → Shows names times list
    → fact_looks names side held numbers ≡ looks_by side list (names_at names numbers)
looks_are names times list held side numbers are on s =
    sum_agree (looks_at names side held) (λ (x : NameId). 1 + near_names side (name_at names x).product (different list)) (λ x. ap (λ (n : ℕ). 1 + n) (near_different names times list held are on s side (name_at names x).product)) numbers
    ∙ sym (sum_map (λ (n : Values). 1 + near_names side n.product (different list)) (name_at names) numbers)
