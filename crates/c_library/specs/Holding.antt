-- What C keeps before a call and after it.
use Rattle.std.specs.Prelude.{◌≡◌, ℕ, true, false, List, Some, None}
use Rattle.std.specs.declared.option.Option.{Option}
use Rattle.cpe_command.specs.Meaning.{meaning}
use Rattle.c_library.specs.declared.call_result.CallResult.{CallResult}
use Rattle.c_library.specs.declared.call_result.CallResult.TheVariants.{Done, Memory, NoCommand}
use Rattle.c_library.specs.declared.call_result.Answer.{Answer}
use Rattle.c_library.specs.CallResults.{ReturnsCode}
use Rattle.c_library.specs.declared.talk.Talk.{Talk}
use Rattle.c_library.specs.Beginning.{answers_lines, Opens, words_of}

-- C keeps a session before the call, and one after it; `Does` relates these two and the result
abbrev pub Moves : Option Talk → Option Talk → (Talk → Talk → CallResult → Type 0) → Answer → Type 0
Moves None now Does answer = ⊥
Moves (Some old) None Does answer = ⊥
Moves (Some old) (Some new) Does answer = ReturnsCode (Does old new) answer

-- this session is kept now; or memory ran out, and what was kept is unchanged
abbrev pub IsSessionKept : Talk → Option Talk → Option Talk → CallResult → Type 0
IsSessionKept talk was now (Done number) = (number ≡ 0) × (now ≡ Some talk)
IsSessionKept talk was now Memory = now ≡ was
IsSessionKept talk was now call_result = ⊥

-- a session of these words is kept now; or what was kept is unchanged, because memory ran out or the words name no
-- command that answers lines
abbrev pub BeginsCall : List ℕ → List ℕ → Option Talk → Option Talk → CallResult → Type 0
BeginsCall word second was (Some talk) (Done number) = (number ≡ 0) × (answers_lines (meaning (words_of word second)).task ≡ true) × Opens (words_of word second) talk
BeginsCall word second was None (Done number) = ⊥
BeginsCall word second was now Memory = now ≡ was
BeginsCall word second was now NoCommand = (now ≡ was) × (answers_lines (meaning (words_of word second)).task ≡ false)
BeginsCall word second was now call_result = ⊥
