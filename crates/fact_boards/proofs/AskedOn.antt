-- Lemmas: if a statement refers to a fact, the names to which the fact leads are probes.
use Rattle.std.proofs.Common.{◌≡◌, ℕ, ◌≤◌, Bool, true, cond, List, [], ◌∷◌, refl, ap, arith}
use Rattle.std.specs.List.{AllByRecursion, flat_map, sum_by}
use Rattle.cpe_rows.specs.cpe_name.Eleven.{Values}
use Rattle.cpe_rows.specs.cpe_name.Equal.{same_name}
use Rattle.name_index.specs.declared.table.NameId.{NameId}
use Rattle.name_index.specs.Table.{IsNameTable, Names, kept_at}
use Rattle.level_board.specs.Board.{Board, probe_times}
use Rattle.cpe_rows.specs.Rows.{Rows}
use Rattle.cpe_rows.specs.declared.statement.Mode.{Mode}
use Rattle.fact_laws.specs.Shown.{name_at, names_at, times_named}
use Rattle.fact_laws.proofs.Shown.{live_is, named_first, same_names}
use Rattle.fact_laws.specs.Asked.{asked, statement_facts, is_referred, leads}
use Rattle.fact_laws.proofs.Counted.{counted, first_removed}
use Rattle.fact_laws.proofs.Names.{sum_flat}
use Rattle.fact_boards.specs.Kept.{AreFactNames, ShowsRows}

-- a sum over the names of one element is at most the sum over the names of all elements
covered_by_all : (g : Values → List Values) (x : Values) (list : List Values) (f : Values → ℕ) → 1 ≤ times_named x list → sum_by f (g x) ≤ sum_by f (flat_map g list)
covered_by_all g x list f h = omega (arith, sum_flat f g list, first_removed (λ (y : Values). sum_by f (g y)) x list h)

pub facts_on : (names : Names) (board : Board) (rows : Rows) (mode : Mode) (fact : Values) (numbers : List NameId) → IsNameTable names → ShowsRows names board rows mode → is_referred mode rows.statements fact ≡ true
    → AreFactNames names numbers → names_at names numbers ≡ leads rows.entries mode fact → AllByRecursion (λ (x : NameId). 1 ≤ probe_times board x.0) numbers
facts_on names board rows mode fact numbers are s referred live e = go numbers live (λ n. omega arith)
  where
    present : 1 ≤ times_named fact (statement_facts mode rows.statements)
    present = omega (arith, counted mode rows.statements fact, ap {B = ℕ} (λ (b : Bool). cond b 1 0) referred)

    all_asked : (n : Values) → times_named n (names_at names numbers) ≤ times_named n (asked rows mode)
    all_asked n = omega (arith, covered_by_all (leads rows.entries mode) fact (statement_facts mode rows.statements) (λ (m : Values). cond (same_name n m) 1 0) present, ap (times_named n) e)

    go : (some : List NameId) → AreFactNames names some → ((n : Values) → times_named n (names_at names some) ≤ times_named n (names_at names numbers)) → AllByRecursion (λ (x : NameId). 1 ≤ probe_times board x.0) some
    go [] alive within = tt
    go (x ∷ some) alive within =
        let n = name_at names x in (
          omega (
            arith,
            s.asked.counts x.0 (kept_at names x.0) (live_is names x.0 alive.0),
            all_asked n,
            within n,
            named_first n n (names_at names some),
            ap {B = ℕ} (λ (b : Bool). cond b 1 0) (same_names n n refl),
          ),
          go some alive.1 (λ m. omega (arith, within m, named_first m n (names_at names some))),
        )
