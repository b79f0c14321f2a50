-- The truths of a test (NIST IR 7698) for each result that its checks may have.
use Rattle.std.specs.Prelude.{Bool, false, List, [], ◌∷◌}
use Rattle.std.specs.List.{list_all}
use Rattle.cpe_rows.specs.Rows.{same_key}
use Rattle.cpe_rows.specs.declared.truth.Truth.{Truth}
use Rattle.cpe_rows.specs.declared.truth.Truth.TheVariants.{True, False, Error, Unknown}
use Rattle.cpe_rows.specs.declared.test.CheckKey.{CheckKey}
use Rattle.cpe_rows.specs.declared.test.Test.{Test}
use Rattle.statement_rows.specs.declared.by_result.ByResult.{ByResult}
use Rattle.statement_rows.specs.Readings.{reading}

-- the truth at one result
abbrev pub at_result : ByResult → Truth → Truth
at_result v True = v.on_true
at_result v False = v.on_false
at_result v Error = v.on_error
at_result v Unknown = v.on_unknown

-- the value of a function at each result
abbrev pub each_result : (Truth → Truth) → ByResult
each_result f = record { on_true = f True; on_false = f False; on_error = f Error; on_unknown = f Unknown }

-- the truth of a test if each of its checks has the result
abbrev pub truth_with : Test → List Truth → Truth → Truth
truth_with test ts t = (reading (λ key. t) test ts).0

-- there is a key, and all others are the same
abbrev pub asks_one : List CheckKey → Bool
asks_one [] = false
asks_one (key ∷ keys) = list_all (same_key key) keys
