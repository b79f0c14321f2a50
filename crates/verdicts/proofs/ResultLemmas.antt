-- What a new result leaves of the statements.
use Rattle.std.proofs.Common.{◌≡◌, ℕ, Bool, List, [], ◌∷◌, length, map, drop, get_or, refl, sym, ap, subst, ◌∙◌, arith}
use Rattle.std.specs.List.{AllByRecursion}
use Rattle.name_index.specs.declared.table.NameId.{NameId}
use Rattle.name_index.specs.Table.{Names}
use Rattle.cpe_rows.specs.Rows.{Rows}
use Rattle.cpe_rows.specs.declared.statement.Statement.{Statement}
use Rattle.cpe_rows.specs.declared.statement.Mode.{Mode}
use Rattle.cpe_rows.specs.declared.statement.Mode.TheVariants.{Plain, Follow}
use Rattle.cpe_rows.specs.declared.test.CheckKey.{CheckKey}
use Rattle.cpe_rows.specs.declared.truth.Truth.{Truth}
use Rattle.facts.specs.level_board.Board.{Board}
use Rattle.facts.specs.fact_rows.Facts.{FactTable}
use Rattle.cpe_rows.specs.FactNames.{fact_names}
use Rattle.facts.specs.fact_laws.Shown.{names_at}
use Rattle.fact_boards.specs.Kept.{AreFactNames, AreSound}
use Rattle.facts.specs.Facts.{AreUsed, FactsNow, FactsOf, HasFacts}
use Rattle.statement_rows.specs.Askers.{AreAskers}
use Rattle.statement_rows.specs.State.{AreJudged, State, StatementRow, without_verdict}
use Rattle.verdicts.specs.Verdicts.{HasVerdicts, IsNumbered, statements_in, tickets_in, truths_in, VerdictsNow}

-- all of a row but its verdict
abbrev Rest : Type 0
Rest = Statement × List NameId × ℕ × Truth

map_of : {B : Type 0} (g : Rest → B) (js : List StatementRow) → map g (map without_verdict js) ≡ map (λ (j : StatementRow). g (without_verdict j)) js
map_of g [] = refl
map_of {B = B} g (j ∷ js) = ap (λ (xs : List B). g (without_verdict j) ∷ xs) (map_of g js)

-- what is read of rows without their verdicts is the same if these are
same_read : {B : Type 0} (g : Rest → B) (js ks : List StatementRow) → map without_verdict js ≡ map without_verdict ks → map (λ (j : StatementRow). g (without_verdict j)) js ≡ map (λ (j : StatementRow). g (without_verdict j)) ks
same_read g js ks same = sym (map_of g js) ∙ ap (map g) same ∙ map_of g ks

pub same_statements : (js ks : List StatementRow) → map without_verdict js ≡ map without_verdict ks → map (λ (j : StatementRow). j.statement) js ≡ map (λ (j : StatementRow). j.statement) ks
same_statements = same_read (λ (r : Rest). r.0)

pub same_tickets : (js ks : List StatementRow) → map without_verdict js ≡ map without_verdict ks → tickets_in js ≡ tickets_in ks
same_tickets = same_read (λ (r : Rest). r.2)

pub same_known : (js ks : List StatementRow) → map without_verdict js ≡ map without_verdict ks → map (λ (j : StatementRow). j.known) js ≡ map (λ (j : StatementRow). j.known) ks
same_known = same_read (λ (r : Rest). r.3)

numbered_still : (names : Names) (js ks : List StatementRow) → map without_verdict ks ≡ map without_verdict js → AllByRecursion (IsNumbered names) js → AllByRecursion (IsNumbered names) ks
numbered_still names [] [] e all = tt
numbered_still names [] (k ∷ ks) e all = absurd (omega (arith, ap length e))
numbered_still names (j ∷ js) [] e all = absurd (omega (arith, ap length e))
numbered_still names (j ∷ js) (k ∷ ks) e all =
    let head : without_verdict j ≡ without_verdict k = sym (ap (λ (rs : List Rest). get_or rs 0 (without_verdict j)) e) in (
      record { live = subst (λ (r : Rest). AreFactNames names r.1) head all.0.live; named = subst (λ (r : Rest). names_at names r.1 ≡ fact_names r.0.test) head all.0.named },
      numbered_still names js ks (ap (drop 1) e) all.1,
    )

-- ---- facts ask for no result

abbrev pub with_checks : Rows → List (CheckKey × Truth) → Rows
with_checks rows checks = record { entries = rows.entries; items = rows.items; statements = rows.statements; checks = checks }

mode_over : (names : Names) (board : Board) (t : FactTable) (rows : Rows) (checks : List (CheckKey × Truth)) (tickets : List ℕ) (mode : Mode) → FactsOf names board t rows tickets mode → FactsOf names board t (with_checks rows checks) tickets mode
mode_over names board t rows checks tickets mode s = record {
  shows = record { asked = s.shows.asked; there = s.shows.there };
  fits = s.fits;
  live = s.live;
  users = s.users;
  leads_there = s.leads_there;
  linked = s.linked;
  truths = s.truths;
}

pub facts_over : (names : Names) (f : FactsNow) (rows : Rows) (checks : List (CheckKey × Truth)) (tickets : List ℕ) → HasFacts names f rows tickets → HasFacts names f (with_checks rows checks) tickets
facts_over names f rows checks tickets s = record {
  plain = mode_over names f.boards.plain f.plain rows checks tickets Plain s.plain;
  follow = mode_over names f.boards.follow f.follow rows checks tickets Follow s.follow;
  settled = s.settled;
  numbered = s.numbered;
}

-- verdicts once a result changed, by which they were judged
pub with_results : (names : Names) (v : VerdictsNow) (new : State) (next : Rows) → AllByRecursion (IsNumbered names) v.statements.rows → HasFacts names v.facts next (tickets_in v.statements.rows) → AreUsed v.facts → AreAskers new.askers → AreSound v.facts.boards → statements_in v ≡ next.statements
    → map without_verdict new.rows ≡ map without_verdict v.statements.rows → new.checks ≡ next.checks → AreJudged new (truths_in v.facts) → HasVerdicts names (record { facts = v.facts; statements = new }) next
with_results names v new next numbered facts used askers sound statements same checks judged = record {
  statements = same_statements new.rows v.statements.rows same ∙ statements;
  checks = checks;
  numbered = numbered_still names v.statements.rows new.rows same numbered;
  facts = subst (HasFacts names v.facts next) (sym (same_tickets new.rows v.statements.rows same)) facts;
  needed = record { facts = used; askers = askers };
  sound = sound;
  judged = judged;
}

-- verdicts once there may be room for one more result
pub with_result_room : (names : Names) (v : VerdictsNow) (room : Bool) (rows : Rows) → HasVerdicts names v rows → HasVerdicts names (record { facts = v.facts; statements = record v.statements { result_room = room } }) rows
with_result_room names v room rows h = record {
  statements = h.statements;
  checks = h.checks;
  numbered = h.numbered;
  facts = h.facts;
  needed = record { facts = h.needed.facts; askers = h.needed.askers };
  sound = h.sound;
  judged = h.judged;
}
