-- What `drill` writes: twelve lines, each with a word and its number.
use Rattle.std.specs.Prelude.{ℕ, List, [], ◌∷◌, ◌++◌, codes, map, count_by}
use Rattle.std.specs.List.{flat_map}
use Rattle.std.specs.Fmt.{decimal}
use Rattle.cpe_rows.specs.Rows.{Rows}
use Rattle.cpe_rows.specs.Counts.{counts_of}
use Rattle.cpe_rows.specs.Truth.{same_truth}
use Rattle.cpe_rows.specs.Verdict.{verdict}
use Rattle.cpe_rows.specs.declared.counts.Counts.{Counts}
use Rattle.cpe_rows.specs.declared.truth.Truth.{Truth}
use Rattle.cpe_rows.specs.declared.truth.Truth.TheVariants.{True, False, Error, Unknown}
use Rattle.drill_lines.specs.declared.tally.Tally.{Tally}
use Rattle.drill_lines.specs.Outcome.{rows_behind, refusals, findings, summed}

-- the line of a word and a number
abbrev pub number_line : List ℕ → ℕ → List ℕ
number_line word number = word ++ codes " " ++ decimal number ++ codes "\n"

-- how many of the truths are equal to this one
abbrev pub truth_times : Truth → List Truth → ℕ
truth_times truth truths = count_by (same_truth truth) truths

-- how many of the truths are TRUE, FALSE, ERROR and UNKNOWN
abbrev pub tally_of : List Truth → Tally
tally_of truths = record { trues = truth_times True truths; falses = truth_times False truths; errors = truth_times Error truths; unknowns = truth_times Unknown truths }

-- the twelve lines of these numbers
abbrev pub summary_of : (count refused found : ℕ) → Counts → Tally → List ℕ
summary_of count refused found counts tally =
    flat_map (λ (line : List ℕ × ℕ). number_line line.0 line.1) (
    (codes "drill", count)
    ∷ (codes "refused", refused)
    ∷ (codes "entries", counts.entries)
    ∷ (codes "deprecated", counts.deprecated)
    ∷ (codes "items", counts.items)
    ∷ (codes "statements", counts.statements)
    ∷ (codes "checks", counts.checks)
    ∷ (codes "found", found)
    ∷ (codes "TRUE", tally.trues)
    ∷ (codes "FALSE", tally.falses)
    ∷ (codes "ERROR", tally.errors)
    ∷ (codes "UNKNOWN", tally.unknowns)
    ∷ [])

-- the verdicts of all statements, in order
abbrev pub verdicts : Rows → List Truth
verdicts rows = map (verdict rows) rows.statements

-- the twelve lines of these three numbers and of the rows
unfoldable pub summary : (count refused found : ℕ) → Rows → List ℕ
summary count refused found rows = summary_of count refused found (counts_of rows) (tally_of (verdicts rows))

-- what `drill` writes for the first n lines
abbrev pub drill_text : ℕ → List ℕ
drill_text n = summary n (summed refusals n) (summed findings n) (rows_behind n)
