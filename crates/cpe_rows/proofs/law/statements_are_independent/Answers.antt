use Rattle.std.proofs.Common.{◌++◌, ◌∷◌, []}
use Rattle.cpe_rows.specs.Rows.{has_id}
use Rattle.cpe_rows.specs.After.{without_first}
use Rattle.cpe_rows.proofs.Alone.{alone, put_alone, dropped_alone}
use Rattle.cpe_rows.proofs.law.statements_are_independent.Goals as goal

pub returns-clause-put : goal.returns-clause-put
returns-clause-put c rows new s = alone rows (rows.statements ++ new ∷ []) s.mode s.test

pub returns-clause-dropped : goal.returns-clause-dropped
returns-clause-dropped c rows id s = alone rows (without_first (has_id id) rows.statements) s.mode s.test

pub returns-clause-put_changes : goal.returns-clause-put_changes
returns-clause-put_changes c = put_alone

pub returns-clause-dropped_changes : goal.returns-clause-dropped_changes
returns-clause-dropped_changes c = dropped_alone
