-- The truth of a test (NIST IR 7698), read from a list that has the truths of its fact references in their order; and the checks for
-- which a test asks.
use Rattle.std.specs.Prelude.{ℕ, Bool, nat_eq, List, [], ◌∷◌, map}
use Rattle.std.specs.List.{flat_map, list_any}
use Rattle.cpe_rows.specs.Evaluation.{joined, negated}
use Rattle.cpe_rows.specs.Rows.{same_key}
use Rattle.cpe_rows.specs.declared.statement.Mode.{Mode}
use Rattle.cpe_rows.specs.declared.truth.Truth.{Truth}
use Rattle.cpe_rows.specs.declared.truth.Truth.TheVariants.{Unknown}
use Rattle.cpe_rows.specs.declared.test.CheckKey.{CheckKey}
use Rattle.cpe_rows.specs.declared.test.Test.{Test}
use Rattle.cpe_rows.specs.declared.test.Test.TheOpen.{Test-F}
use Rattle.cpe_rows.specs.declared.test.Test.TheFolds.{fold-Test}
use Rattle.name_index.specs.declared.table.NameId.{NameId}

-- the truths of facts, by the mode of a statement and the number of a name
abbrev pub FactTruths : Type 0
FactTruths = Mode → ℕ → Truth

-- the truths of the facts of these numbers, in the mode
abbrev pub truths_of : FactTruths → Mode → List NameId → List Truth
truths_of truth mode ids = map (λ (id : NameId). truth mode id.0) ids

-- the number is one of these
abbrev pub has_fact : List NameId → ℕ → Bool
has_fact ids q = list_any (λ (id : NameId). nat_eq id.0 q) ids

-- a truth, and the truths that are left for what follows
abbrev pub TruthReading : Type 0
TruthReading = List Truth → Truth × List Truth

-- a fact reference takes the next truth
abbrev pub next_truth : TruthReading
next_truth [] = (Unknown, [])
next_truth (t ∷ ts) = (t, ts)

-- each child takes its truths from those that the children before it left
abbrev pub truths_along : List TruthReading → List Truth → List Truth × List Truth
truths_along [] ts = ([], ts)
truths_along (r ∷ rs) ts = ((r ts).0 ∷ (truths_along rs (r ts).1).0, (truths_along rs (r ts).1).1)

-- one level of a test: a logical test joins the truths of its children, and a check reference takes no truth from the list
abbrev pub reading_step : (CheckKey → Truth) → Test-F TruthReading → TruthReading
reading_step check (Test-F.Logic operator negate of) = λ ts. (negated negate (joined operator (truths_along of ts).0), (truths_along of ts).1)
reading_step check (Test-F.Fact name) = next_truth
reading_step check (Test-F.Check key) = λ ts. (check key, ts)

-- how a test reads its truth from the truths of its fact references
abbrev pub reading : (CheckKey → Truth) → Test → TruthReading
reading check = fold-Test TruthReading (reading_step check)

-- one level of a test: the keys of its children, or its own
abbrev pub asked_keys_step : Test-F (List CheckKey) → List CheckKey
asked_keys_step (Test-F.Logic operator negate of) = flat_map (λ keys. keys) of
asked_keys_step (Test-F.Fact name) = []
asked_keys_step (Test-F.Check key) = key ∷ []

-- the keys of the check references of a test, in the order of its arrays
abbrev pub check_keys : Test → List CheckKey
check_keys = fold-Test (List CheckKey) asked_keys_step

-- the check is one of these
abbrev pub is_asked : List CheckKey → CheckKey → Bool
is_asked keys q = list_any (λ key. same_key key q) keys
