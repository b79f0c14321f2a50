use Rattle.std.proofs.Common.{ℕ, Bool, List}
use Rattle.name_index.specs.Table.{IsNameTable, kept_at, Names}
use Rattle.cpe_rows.specs.Rows.{Rows}
use Rattle.cpe_rows.specs.Verdict.{fact_truth}
use Rattle.cpe_rows.specs.declared.statement.Mode.TheVariants.{Follow}
use Rattle.fact_boards.specs.level_board.Board.{AreAnswers}
use Rattle.facts.specs.Leads.{AreLedBut, ChangesTo, SameUsers}
use Rattle.facts.proofs.lead.lead_facts.Given as goal

abbrev pub invariant-loop-led : goal.invariant-loop-led
invariant-loop-led l = record {
  facts : (names : Names) (next : Rows) (tickets : List ℕ) (passes : ℕ → Bool) → IsNameTable names → AreAnswers l.board
      → AreLedBut names l.board l.fn.facts next tickets passes l.fn.all.items → AreLedBut names l.board l.facts next tickets passes l.led-iterator.rest.items;
  same : SameUsers l.fn.facts l.facts;
  changes : (names : Names) (next : Rows) (tickets : List ℕ) (passes : ℕ → Bool) → IsNameTable names → AreAnswers l.board
      → AreLedBut names l.board l.fn.facts next tickets passes l.fn.all.items → ChangesTo l.fn.facts l.facts (λ q. fact_truth next Follow (kept_at names q).name);
}
