-- Appending tokens to those that a writer has.
use Rattle.std.specs.Prelude.{◌≡◌, ◌++◌, List, Result, OnOk}
use Rattle.json.specs.Token.{Token}
use Rattle.json.specs.Written.{Written}

-- These tokens were appended, and what the writer had before its first token is unchanged. If memory ran out, nothing
-- is claimed.
abbrev pub AppendsTokens : {E : Type 0} → Result (Unit {0}) E → Written → Written → List Token → Type 0
AppendsTokens r old new ts = OnOk r ((new.before ≡ old.before) × (new.tokens ≡ old.tokens ++ ts))
