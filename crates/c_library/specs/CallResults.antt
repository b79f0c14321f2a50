-- The results of calls, as C gets them.
use Rattle.std.specs.Prelude.{◌≡◌, ℕ, ◌<◌, List, Ok, Err, length, take}
use Rattle.std.specs.declared.result.Result.{Result}
use Rattle.c_library.specs.declared.call_result.CallResult.{CallResult}
use Rattle.c_library.specs.declared.call_result.CallResult.TheVariants.{Done, Short, Refused, TargetRefused, Memory, NoCommand, NotALine, Over}
use Rattle.c_library.specs.declared.call_result.Answer.{Answer}

-- the code of each result
abbrev pub call_code : CallResult → ℕ
call_code (Done number) = 0
call_code (Short number) = 1
call_code (Refused place) = 2
call_code (TargetRefused place) = 3
call_code Memory = 4
call_code NoCommand = 5
call_code NotALine = 6
call_code Over = 7

-- the number beside the code
abbrev pub call_number : CallResult → ℕ
call_number (Done number) = number
call_number (Short number) = number
call_number (Refused place) = place
call_number (TargetRefused place) = place
call_number Memory = 0
call_number NoCommand = 0
call_number NotALine = 0
call_number Over = 0

-- the code and the number, as C gets them
abbrev pub in_c : CallResult → Answer
in_c call_result = record { code = call_code call_result; number = call_number call_result }

-- the buffer begins with the text, if it is large enough; otherwise it is unchanged, and the number is the length of
-- the text
abbrev pub FitsBuffer : List ℕ → List ℕ → List ℕ → CallResult → Type 0
FitsBuffer text room room_now (Done number) = (take number room_now ≡ text) × (number ≡ length text)
FitsBuffer text room room_now (Short number) = (number ≡ length text) × (length room < length text) × (room_now ≡ room)
FitsBuffer text room room_now call_result = ⊥

-- the buffer gets the text, or the number is the place of the refusal; memory may run out at any time
abbrev pub FillsBuffer : Result (List ℕ) ℕ → List ℕ → List ℕ → CallResult → Type 0
FillsBuffer (Err at) room room_now (Refused place) = place ≡ at
FillsBuffer (Err at) room room_now Memory = Unit {0}
FillsBuffer (Err at) room room_now call_result = ⊥
FillsBuffer (Ok text) room room_now Memory = Unit {0}
FillsBuffer (Ok text) room room_now call_result = FitsBuffer text room room_now call_result

-- C gets the code and the number of a result, and this is true for the result
abbrev pub ReturnsCode : (CallResult → Type 0) → Answer → Type 0
ReturnsCode IsSo answer = (call_result : CallResult) × (answer ≡ in_c call_result) × IsSo call_result
