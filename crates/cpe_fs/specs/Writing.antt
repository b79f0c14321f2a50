-- What a function writes into a room for a text, from a place on: another text of the same name.
use Rattle.std.specs.Prelude.{◌≡◌, ℕ, ◌≤◌, List, ◌++◌, length, take, Option, None, Result, IfOk, IfErr, IfSome, OnErr, MatchOption, MatchResult}
use Rattle.std.specs.Option.{option_map}
use Rattle.std.specs.Result.{result_map_both}
use Rattle.cpe_name.specs.Eleven.{Values}
use Rattle.cpe_name.specs.Text.{output_text}
use Rattle.cpe_name.specs.WfnText.{WfnText, IsWfnText}
use Rattle.cpe_name.specs.Binding.{PutsBy, WritesBy}

-- If a name `Has` the text, its output text is written into the room, from `at` to at most `most`. If no name has the
-- text, the result is the place of the text, as in `Leaves`.
pub record WritesOutput (Has : Values → List ℕ → Type 0) (Leaves : List ℕ → ℕ → Type 0) (says : List ℕ → Result (List ℕ) ℕ) (text : List ℕ) (at most : ℕ) (old new : List ℕ) (result : Result ℕ ℕ) : Type 0 where
  -- the written bytes are the output text of a name that has this text
  pub found : IfOk result (λ end. PutsBy Has output_text text (take at old) (take end new))
  -- if a name has this text, its output text is written
  pub only : (name : Values) → Has name text → MatchResult result (λ end. take end new ≡ take at old ++ output_text name) (λ place. ⊥)
  -- an error is the place of the text, which no name has
  pub refused : IfErr result (Leaves text)
  -- the written bytes, or the error, are what the function `says` returns
  pub said : result_map_both (λ end. take end new) (λ (place : ℕ). place) result ≡ result_map_both (λ said. take at old ++ said) (λ (place : ℕ). place) (says text)
  -- the written bytes end at `most` or before
  pub within : IfOk result (λ end. end ≤ most)
  -- the length of the room is unchanged
  pub length : length new ≡ length old
  -- the room is unchanged if the text is refused
  pub unchanged : OnErr result (new ≡ old)

-- If a name has the text, what `bind` returns for this name is written into the room, from `at` to at most `most`. If
-- no name has the text, the result is nothing.
pub record WritesBound (bind : Values → List ℕ) (says : List ℕ → Option (List ℕ)) (text : List ℕ) (at most : ℕ) (old new : List ℕ) (result : Option ℕ) : Type 0 where
  -- the written bytes are what `bind` returns for a name that has this text
  pub found : IfSome result (λ end. WritesBy bind text (take at old) (take end new))
  -- if a name has this text, what `bind` returns for the name is written
  pub only : (name : Values) → WfnText name text → MatchOption result ⊥ (λ end. take end new ≡ take at old ++ bind name)
  -- if the result is nothing, no name has the text
  pub none : result ≡ None → ¬ (IsWfnText text)
  -- the written bytes are what the function `says` returns, if it returns any
  pub said : option_map (λ end. take end new) result ≡ option_map (λ said. take at old ++ said) (says text)
  -- the written bytes end at `most` or before
  pub within : IfSome result (λ end. end ≤ most)
  -- the length of the room is unchanged
  pub length : length new ≡ length old
  -- the room is unchanged if nothing is written
  pub unchanged : result ≡ None → new ≡ old
