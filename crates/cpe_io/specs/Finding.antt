-- What a call that finds a line does.
use Rattle.std.specs.Prelude.{◌≡◌, ℕ, ◌+◌, ◌<◌, ◌≤◌, true, List, [], IfSome, Err, None}
use Rattle.std.specs.declared.option.Option.{Option}
use Rattle.std.specs.Io.KnownBytes.{IsAtEnd}
use Rattle.cpe_io.specs.declared.line.LineFault.TheVariants as fault
use Rattle.cpe_io.specs.Causes.{Rose}
use Rattle.cpe_io.specs.Shown.{Answer, text_of}
use Rattle.cpe_io.specs.Reading.{ReaderState, AnswersLine, IsFirstOf, IsSpent, TakesBytes, rest_of_source}

-- A call returns the first line of the bytes that were kept and those that the source returned, or the end, or a fault.
-- After a fault it returns this fault from then on. `left` are the bytes that the source still has, and `faults` is the
-- source's count of faults.
pub record FindsLine (left left_now : Option (List ℕ)) (faults faults_now : ℕ) (old now : ReaderState) (answer : Answer) : Type 0 where
  pub takes : TakesBytes left left_now old now (AnswersLine old now answer)
  pub first : (old.ended ≡ true → IsAtEnd left) → IsFirstOf answer (rest_of_source old left) (rest_of_source now left_now)
  pub text : now.text ≡ text_of answer
  pub end : (old.ended ≡ true → IsAtEnd left) → now.ended ≡ true → IsAtEnd left_now
  pub below : now.ended ≡ true → now.taken < now.budget
  pub later : faults ≤ faults_now
  pub once : faults_now ≤ faults + 1
  pub still : (answer ≡ Err fault.Read → ⊥) → faults_now ≡ faults
  pub cause : answer ≡ Err fault.Read → old.fault ≡ None → Rose faults faults_now
  pub endless : old.fault ≡ None → IsSpent old → answer ≡ Err fault.Endless
  pub again : IfSome old.fault (λ f. (answer ≡ Err f) × (now ≡ record old { text = [] }))
