-- The session over the generated records writes only its summary, refuses no line, and keeps the outcome.
use Rattle.std.proofs.Common.{◌≡◌, ℕ, ◌+◌, ◌≤◌, zero, suc, Bool, false, ◌||◌, List, [], ◌∷◌, ◌++◌, length, Option, Some, refl, sym, ap, ◌∙◌, arith}
use Rattle.line_session.specs.declared.status.Status.{Status}
use Rattle.line_session.specs.declared.status.Status.TheVariants.{Done, SomeRefused, Usage, ReadFault, WriteFault, Memory, Endless}
use Rattle.line_session.specs.Session.{Stage, line_says, state_after, next_writes, after_next, stage_after, out_from, start, text_cost, costs, total_cost}
use Rattle.line_session.specs.Table.{made_lines}
use Rattle.line_session.specs.Task.{Transcript, speech, spoken}
use Rattle.line_session.specs.Statuses.{status_of}
use Rattle.line_session.specs.Ran.{LeftByPrefix, ReachedBy}
use Rattle.line_session.proofs.SessionLemmas.{prefix_made, stage_after-append, out_from-append, folded-append, costs-append}
use Rattle.cpe_rows.specs.Rows.{Rows, no_rows}
use Rattle.cpe_records.specs.Edited.{line_edited}
use Rattle.drill_lines.specs.declared.drilled.Drilled.{Drilled}
use Rattle.drill_lines.specs.Generated.{generated}
use Rattle.drill_lines.specs.Looks.{record_looks}
use Rattle.drill_lines.specs.Outcome.{rows_behind, refusals, findings, for_line, summed}
use Rattle.drill_lines.specs.Summary.{summary, drill_text}
use Rattle.drill_lines.specs.Drill.{undrilled, drill_session, drill_transcript, LeavesRows}

-- the rows after one more line
rows_more : (n : ℕ) → line_edited (rows_behind n) (Some (generated n)) ≡ rows_behind (suc n)
unfolding rows_behind
rows_more n = sym (folded-append line_edited no_rows (made_lines generated n) (Some (generated n) ∷ []))

-- the outcome of the first n lines
abbrev outcome : ℕ → Drilled
outcome n = record { engine = rows_behind n; refused = summed refusals n; found = summed findings n }

-- the outcome after one more line
abbrev with_text : Drilled → List ℕ → Drilled
with_text d text = record {
  engine = line_edited d.engine (Some text);
  refused = d.refused + for_line refusals d.engine text;
  found = d.found + for_line findings d.engine text;
}

module _ (count : ℕ) where
  changes : (d : Drilled) (number : ℕ) (text : List ℕ) → state_after d (line_says (drill_session count) d number (Some text)) ≡ with_text d text
  changes d number [] =
      let refused : d.refused ≡ d.refused + 0 = omega arith in
      let found : d.found ≡ d.found + 0 = omega arith in
      ap (λ (k : ℕ). let r : Drilled = record { engine = d.engine; refused = k; found = d.found } in r) refused
      ∙ ap (λ (k : ℕ). let r : Drilled = record { engine = d.engine; refused = d.refused + 0; found = k } in r) found
  changes d number (x ∷ xs) = refl

  refuses_none : (s : Stage Drilled) (text : List ℕ) → s.refused ≡ false → (after_next (drill_session count) s (Some text)).refused ≡ false
  refuses_none s [] none = ap (λ b. b || false) none
  refuses_none s (x ∷ xs) none = ap (λ b. b || false) none

  writes_nothing : (s : Stage Drilled) (text : List ℕ) → next_writes (drill_session count) s (Some text) ≡ []
  writes_nothing s [] = refl
  writes_nothing s (x ∷ xs) = refl

  abbrev behind : ℕ → Stage Drilled
  behind n = stage_after (drill_session count) (start undrilled) (made_lines generated n)

  behind_more : (n : ℕ) → behind (suc n) ≡ after_next (drill_session count) (behind n) (Some (generated n))
  behind_more n = stage_after-append (drill_session count) (start undrilled) (made_lines generated n) (Some (generated n) ∷ [])

  outcome_more : (n : ℕ) → with_text (outcome n) (generated n) ≡ outcome (suc n)
  unfolding summed
  outcome_more n = ap (λ (rows : Rows). let r : Drilled = record { engine = rows; refused = summed refusals (suc n); found = summed findings (suc n) } in r) (rows_more n)

  nothing_drilled : undrilled ≡ outcome 0
  unfolding summed rows_behind
  nothing_drilled = refl

  sums_to : (n : ℕ) → (behind n).state ≡ outcome n
  sums_to zero = nothing_drilled
  sums_to (suc n) =
      ap (λ (s : Stage Drilled). s.state) (behind_more n)
      ∙ changes (behind n).state ((behind n).number + 1) (generated n)
      ∙ ap (λ (d : Drilled). with_text d (generated n)) (sums_to n)
      ∙ outcome_more n

  none_refused : (n : ℕ) → (behind n).refused ≡ false
  none_refused zero = refl
  none_refused (suc n) = ap (λ (s : Stage Drilled). s.refused) (behind_more n) ∙ refuses_none (behind n) (generated n) (none_refused n)

  nothing_written : (n : ℕ) → out_from (drill_session count) (start undrilled) (made_lines generated n) ≡ []
  nothing_written zero = refl
  nothing_written (suc n) =
      out_from-append (drill_session count) (start undrilled) (made_lines generated n) (Some (generated n) ∷ [])
      ∙ ap (λ (text : List ℕ). text ++ (next_writes (drill_session count) (behind n) (Some (generated n)) ++ [])) (nothing_written n)
      ∙ ap (λ (text : List ℕ). text ++ []) (writes_nothing (behind n) (generated n))

  costed : (d : Drilled) (number : ℕ) (text : List ℕ) → text_cost (drill_session count) d number text ≡ for_line record_looks d.engine text
  costed d number [] = refl
  costed d number (x ∷ xs) = refl

  abbrev cost_of_line : ℕ → ℕ
  cost_of_line n = for_line record_looks (rows_behind n) (generated n)

  cost_more : (n : ℕ) → summed record_looks (suc n) ≡ summed record_looks n + cost_of_line n
  unfolding summed
  cost_more n = refl

  line_costs : (n : ℕ) → text_cost (drill_session count) (behind n).state ((behind n).number + 1) (generated n) ≡ cost_of_line n
  line_costs n = costed (behind n).state ((behind n).number + 1) (generated n) ∙ ap (λ (d : Drilled). for_line record_looks d.engine (generated n)) (sums_to n)

  costs_nothing : 0 ≡ summed record_looks 0
  unfolding summed
  costs_nothing = refl

  cost : (n : ℕ) → costs (drill_session count) (start undrilled) (made_lines generated n) ≡ summed record_looks n
  cost zero = costs_nothing
  cost (suc n) =
      omega (arith, costs-append (drill_session count) (start undrilled) (made_lines generated n) (Some (generated n) ∷ []), line_costs n, cost n, cost_more n)

-- the looks of all lines are the sum over the lines
pub drill_cost : (n : ℕ) → total_cost (drill_session n) undrilled (made_lines generated n) ≡ summed record_looks n
drill_cost n = omega (arith, cost n n)

-- the transcript of the session is what `drill` writes
pub drill_is_spoken : (n : ℕ) → spoken (speech (drill_session n) undrilled) (made_lines generated n) ≡ drill_transcript n
drill_is_spoken n =
    ap (λ (text : List ℕ). let t : Transcript = record { text = text ++ summary n (behind n n).state.refused (behind n n).state.found (behind n n).state.engine; status = status_of (behind n n).refused } in t) (nothing_written n n)
    ∙ ap (λ (d : Drilled). let t : Transcript = record { text = summary n d.refused d.found d.engine; status = status_of (behind n n).refused } in t) (sums_to n n)
    ∙ ap (λ (b : Bool). let t : Transcript = record { text = drill_text n; status = status_of b } in t) (none_refused n n)

prefix-leaves : (n : ℕ) (now : Drilled) → LeftByPrefix (drill_session n) undrilled now (made_lines generated n) → (k : ℕ) × (k ≤ n) × (now.engine ≡ rows_behind k)
prefix-leaves n now left =
    let first = prefix_made generated n left.answered left.later left.splits in
    let k = length left.answered in (
      k,
      first.0,
      ap (λ (d : Drilled). d.engine) (
          left.state ∙ ap (λ (ls : List (Option (List ℕ))). (stage_after (drill_session n) (start undrilled) ls).state) first.1 ∙ sums_to n k
          ),
    )

-- the rows at the end are those after all lines; or, if a write failed or memory ran out, those after the first k lines,
-- for some k
pub drill-leaves : (n : ℕ) (now : Drilled) {steps steps_now : ℕ} (status : Status)
    → ReachedBy (drill_session n) undrilled now steps steps_now (made_lines generated n) (made_lines generated n) status → LeavesRows n now.engine status
drill-leaves n now Done reached = ap (λ (d : Drilled). d.engine) (reached.state ∙ sums_to n n)
drill-leaves n now SomeRefused reached = ap (λ (d : Drilled). d.engine) (reached.state ∙ sums_to n n)
drill-leaves n now Usage reached = absurd reached.state
drill-leaves n now ReadFault reached = ap (λ (d : Drilled). d.engine) (reached.state ∙ sums_to n n)
drill-leaves n now Endless reached = ap (λ (d : Drilled). d.engine) (reached.state ∙ sums_to n n)
drill-leaves n now WriteFault reached = prefix-leaves n now reached.state
drill-leaves n now Memory reached = prefix-leaves n now reached.state
