-- Statements are removed, and the facts that they alone use.
use Rattle.std.specs.Prelude.{◌≡◌, ◌≤◌, ◌&&◌, ℕ, List, [], map, find, Option, Some, None}
use Rattle.std.specs.List.{flat_map}
use Rattle.std.specs.Option.{option_map}
use Rattle.name_index.specs.declared.table.NameId.{NameId}
use Rattle.name_index.specs.Table.{Names}
use Rattle.cpe_rows.specs.After.{after, without_first}
use Rattle.cpe_rows.specs.FactNames.{fact_names}
use Rattle.cpe_rows.specs.Rows.{has_id, Rows}
use Rattle.cpe_rows.specs.declared.edit.Edit.TheVariants as edit
use Rattle.cpe_rows.specs.declared.statement.Mode.{Mode}
use Rattle.cpe_rows.specs.declared.statement.Statement.{Statement}
use Rattle.facts.specs.fact_laws.Shown.{names_at, times_in_list}
use Rattle.fact_boards.specs.Kept.{AreFactNames}
use Rattle.facts.specs.fact_rows.Facts.{has_end_of_fact, leads_of, users_of}
use Rattle.facts.specs.ticket_list.Tickets.{is_empty, without}
use Rattle.facts.specs.Facts.{FactsNow, table_of}
use Rattle.statement_rows.specs.State.{is_of, use_of}
use Rattle.verdicts.specs.Verdicts.{HasVerdicts, known_in, statements_in, VerdictsNow}
use Rattle.verdicts.specs.declared.removal.Removal.{Removal}

-- What is removed with a statement of this mode, which uses the facts of these numbers by this ticket.
pub record IsRemovalOf (f : FactsNow) (mode : Mode) (ids : List NameId) (ticket : ℕ) (r : Removal) : Type 0 where
  -- the last facts are exactly those of its facts that no other ticket uses
  pub alone : (q : ℕ) → has_end_of_fact r.last.items q ≡ (has_end_of_fact ids q && is_empty (without ticket (users_of (table_of f mode) q)))
  -- each of them is there once
  pub once : (q : ℕ) → times_in_list q r.last.items ≤ 1
  -- the names asked are those to which they lead, fact after fact
  pub asked : r.asked.items ≡ flat_map (λ (x : NameId). leads_of mode (table_of f mode) x.0) r.last.items

-- the same, if there is a statement; or else nothing is removed
abbrev pub RemovesWith : FactsNow → Option (Mode × List NameId × ℕ) → Removal → Type 0
RemovesWith f None r = (r.last.items ≡ []) × (r.asked.items ≡ [])
RemovesWith f (Some u) r = IsRemovalOf f u.0 u.1 u.2 r

-- it is what is removed with the statement of this id
abbrev pub IsRemoval : VerdictsNow → List ℕ → Removal → Type 0
IsRemoval v id r = RemovesWith v.facts (option_map use_of (find (is_of id) v.statements.rows)) r

-- The statement of this id was removed; the numbers are those of its fact references. `before` and `now` are counts of steps.
pub record StatementRemoved (table : Names) (old new : VerdictsNow) (id : List ℕ) (ids : List NameId) (before now : ℕ) : Type 0 where
  -- the verdicts are those of the rows without it
  pub verdicts : (rows : Rows) → HasVerdicts table old rows → HasVerdicts table new (after rows (edit.DropStatement id))
  -- the numbers are those of names, in the order of its test
  pub live : AreFactNames table ids
  pub named : (s : Statement) → find (has_id id) (statements_in old) ≡ Some s → names_at table ids ≡ fact_names s.test
  -- callers know the same verdicts of the others
  pub known : known_in new ≡ map (λ j. j.known) (without_first (is_of id) old.statements.rows)
  -- there are no looks
  pub steps : now ≡ before
