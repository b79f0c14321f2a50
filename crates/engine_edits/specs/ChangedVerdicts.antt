-- The changed verdict if a statement is added or removed.
use Rattle.std.specs.Prelude.{ℕ, List, [], ◌∷◌, Option, Some, None}
use Rattle.cpe_rows.specs.Changes.{change}
use Rattle.cpe_rows.specs.declared.reply.Changed.{Changed}
use Rattle.cpe_rows.specs.declared.truth.Truth.{Truth}

-- a statement is added at this place, and then has this verdict
abbrev pub put_by : ℕ → Option Truth → List Changed
put_by place (Some t) = change place None (Some t) ∷ []
put_by place None = []

-- a statement is removed from this place, and had this verdict
abbrev pub dropped_by : Option ℕ → Option Truth → List Changed
dropped_by (Some place) (Some t) = change place (Some t) None ∷ []
dropped_by place t = []
