-- Verdicts (NIST IR 7698), and the rows of which they are.
use Rattle.std.specs.Prelude.{◌≡◌, ℕ, List, [], map}
use Rattle.std.specs.List.{AllByRecursion, flat_map}
use Rattle.name_index.specs.declared.table.NameId.{NameId}
use Rattle.name_index.specs.Table.{Names}
use Rattle.cpe_rows.specs.FactNames.{fact_names}
use Rattle.cpe_rows.specs.Rows.{Rows}
use Rattle.cpe_rows.specs.declared.entry.Entry.{Entry}
use Rattle.cpe_rows.specs.declared.statement.Mode.{Mode}
use Rattle.cpe_rows.specs.declared.statement.Statement.{Statement}
use Rattle.cpe_rows.specs.declared.test.CheckKey.{CheckKey}
use Rattle.cpe_rows.specs.declared.truth.Truth.{Truth}
use Rattle.facts.specs.fact_laws.Shown.{names_at}
use Rattle.fact_boards.specs.Kept.{AreFactNames, AreSound}
use Rattle.facts.specs.fact_rows.Facts.{truth_of_fact, users_of}
use Rattle.facts.specs.Facts.{AreUsed, FactsNow, HasFacts, table_of}
use Rattle.statement_rows.specs.Askers.{AreAskers}
use Rattle.statement_rows.specs.Readings.{FactTruths}
use Rattle.statement_rows.specs.State.{AreJudged, State, StatementRow}

-- the facts of both modes, and the statements with the results of checks
pub record VerdictsNow : Type 0 where
  pub facts : FactsNow
  pub statements : State

abbrev pub statements_in : VerdictsNow → List Statement
statements_in v = map (λ j. j.statement) v.statements.rows

abbrev pub checks_in : VerdictsNow → List (CheckKey × Truth)
checks_in v = v.statements.checks

-- the verdicts that callers know
abbrev pub known_in : VerdictsNow → List Truth
known_in v = map (λ j. j.known) v.statements.rows

-- the tickets of the statements
abbrev pub tickets_in : List StatementRow → List ℕ
tickets_in rows = map (λ j. j.ticket) rows

-- the truths that are kept of facts
abbrev pub truths_in : FactsNow → FactTruths
truths_in f = λ mode q. truth_of_fact (table_of f mode) q

-- the tickets of the statements that use a fact of a mode whose truth the last edit replaced
abbrev pub users_of_changed : FactsNow → Mode → List ℕ
users_of_changed f mode = flat_map (λ (id : NameId). users_of (table_of f mode) id.0) (table_of f mode).changed

-- The numbers of a statement's fact references are those of its names.
pub record IsNumbered (names : Names) (j : StatementRow) : Type 0 where
  pub live : AreFactNames names j.ids
  pub named : names_at names j.ids ≡ fact_names j.statement.test

-- Nothing is kept that no statement needs: no fact, and no list of the statements that ask for a check.
pub record AreNeeded (v : VerdictsNow) : Type 0 where
  pub facts : AreUsed v.facts
  pub askers : AreAskers v.statements.askers

-- Statements and results are those of the rows, and each verdict is that of the rows. `only` is a
-- condition on what else is kept: which facts, and which lists of the statements that ask for a check.
pub record HasVerdictsBy (only : Type 0) (names : Names) (v : VerdictsNow) (rows : Rows) : Type 0 where
  pub statements : statements_in v ≡ rows.statements
  pub checks : checks_in v ≡ rows.checks
  pub numbered : AllByRecursion (IsNumbered names) v.statements.rows
  pub facts : HasFacts names v.facts rows (tickets_in v.statements.rows)
  -- the boards are right
  pub sound : AreSound v.facts.boards
  pub judged : AreJudged v.statements (truths_in v.facts)
  pub needed : only

-- The same, and nothing else is kept.
abbrev pub HasVerdicts : Names → VerdictsNow → Rows → Type 0
HasVerdicts names v rows = HasVerdictsBy (AreNeeded v) names v rows

-- rows that are these entries alone
abbrev pub only_entries : List Entry → Rows
only_entries es = record { entries = es; items = []; statements = []; checks = [] }

-- what callers see of the statements is unchanged
pub record SameStatements (old new : VerdictsNow) : Type 0 where
  pub statements : statements_in new ≡ statements_in old
  pub checks : checks_in new ≡ checks_in old
  pub known : known_in new ≡ known_in old
