-- The verdicts that an accepted edit changes, in the order of the statements. Places count from 0.
use Rattle.std.specs.Prelude.{ℕ, ◌+◌, List, [], ◌∷◌, ◌++◌, length, map, find, if◌then◌else◌, Option, Some, None, position}
use Rattle.cpe_rows.specs.Rows.{Rows, has_id}
use Rattle.cpe_rows.specs.After.{after}
use Rattle.cpe_rows.specs.Truth.{same_truth}
use Rattle.cpe_rows.specs.Verdict.{verdict}
use Rattle.cpe_rows.specs.declared.truth.Truth.{Truth}
use Rattle.cpe_rows.specs.declared.statement.Statement.{Statement}
use Rattle.cpe_rows.specs.declared.edit.Edit.{Edit}
use Rattle.cpe_rows.specs.declared.edit.Edit.TheVariants as edit
use Rattle.cpe_rows.specs.declared.reply.Changed.{Changed}

-- a change of a statement's verdict: the statement's place, and the verdicts before and after the edit
abbrev pub change : ℕ → Option Truth → Option Truth → Changed
change place before now = record { place = place; before = before; after = now }

-- the changes between two lists of truths; the first element has place n
abbrev pub differing : ℕ → List Truth → List Truth → List Changed
differing n [] us = []
differing n (t ∷ ts) [] = []
differing n (t ∷ ts) (u ∷ us) = if same_truth t u then differing (n + 1) ts us else change n (Some t) (Some u) ∷ differing (n + 1) ts us

-- the change of a removed statement, with its place before the edit
abbrev pub dropped : Rows → Option ℕ → Option Statement → List Changed
dropped rows (Some k) (Some s) = change k (Some (verdict rows s)) None ∷ []
dropped rows k s = []

-- the changes among these statements: those whose verdict differs before and after
abbrev pub others : Rows → Rows → List Statement → List Changed
others rows next statements = differing 0 (map (verdict rows) statements) (map (verdict next) statements)

-- An added statement has no verdict before the edit. A removed statement has none after it. By the law
-- `statements_are_independent`, its change is then the only one.
abbrev pub changes : Rows → Edit → List Changed
changes rows (edit.PutStatement s) =
    let next = after rows (edit.PutStatement s) in
    others rows next rows.statements ++ change (length rows.statements) None (Some (verdict next s)) ∷ []
changes rows (edit.DropStatement id) =
    let next = after rows (edit.DropStatement id) in
    dropped rows (position (has_id id) rows.statements) (find (has_id id) rows.statements) ++ others rows next next.statements
changes rows e = others rows (after rows e) rows.statements
