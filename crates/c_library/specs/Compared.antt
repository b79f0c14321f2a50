-- The relations that are found for two texts.
use Rattle.std.specs.Prelude.{◌≡◌, ℕ, Ok, Err}
use Rattle.std.specs.declared.result.Result.{Result}
use Rattle.cpe_rows.specs.cpe_name.Eleven.{Values}
use Rattle.cpe_rows.specs.cpe_name.declared.attribute.Attribute.{Attribute}
use Rattle.cpe_rows.specs.cpe_name.Names.{value_of}
use Rattle.cpe_relation.specs.Table.{relation}
use Rattle.cpe_relation.specs.NameRelation.{name_relation, relation_of}
use Rattle.c_library.specs.declared.call_result.CallResult.{CallResult}
use Rattle.c_library.specs.declared.pairs.Compared.{Compared}
use Rattle.c_library.specs.Pairs.{OfBoth}

-- these are the relations of the two names
pub record AreRelations (a b : Values) (compared : Compared) : Type 0 where
  pub whole : compared.whole ≡ name_relation a b
  pub each : (w : Attribute) → relation_of compared.each w ≡ relation (value_of a w) (value_of b w)

-- these are the relations of the names that the texts have; or the result is the place of the first text that no name
-- has, or that memory ran out
abbrev pub IsCompared : Result Values ℕ → Result Values ℕ → Result Compared CallResult → Type 0
IsCompared (Ok a) (Ok b) (Ok compared) = AreRelations a b compared
IsCompared (Ok a) (Err place) (Ok compared) = ⊥
IsCompared (Err place) b (Ok compared) = ⊥
IsCompared a b (Err call_result) = OfBoth (λ source target number. ⊥) a b call_result
