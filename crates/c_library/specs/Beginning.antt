-- How a session begins.
use Rattle.std.specs.Prelude.{◌≡◌, ℕ, Bool, true, false, List, [], ◌∷◌, Some, None}
use Rattle.std.specs.declared.option.Option.{Option}
use Rattle.line_session.specs.cpe_io.Lines.{lines}
use Rattle.line_session.specs.Task.{Task, Fixed, Lines, Whole, Says}
use Rattle.cpe_rows.specs.Rows.{no_rows}
use Rattle.cpe_command.specs.advise_ranges.Rows.{no_advice_rows as no_advice}
use Rattle.cpe_command.specs.declared.command.Command.{Command}
use Rattle.cpe_command.specs.declared.command.Command.TheVariants as command
use Rattle.cpe_command.specs.Meaning.{meaning}
use Rattle.c_library.specs.declared.speaking.Speaking.{Speaking}
use Rattle.c_library.specs.declared.speaking.Speaking.TheVariants as speaking
use Rattle.c_library.specs.declared.talk.Talk.{Talk}
use Rattle.c_library.specs.declared.talk.Phase.TheVariants.{Open}
use Rattle.c_library.specs.Talks.{is_continued}

-- the words of a command line: one word, or two words if the second isn't empty
abbrev pub words_of : List ℕ → List ℕ → List (List ℕ)
words_of word [] = word ∷ []
words_of word (x ∷ xs) = word ∷ (x ∷ xs) ∷ []

-- whether a task answers its lines one by one
abbrev pub answers_lines : Task → Bool
answers_lines (Fixed all) = false
answers_lines (Lines speech) = true
answers_lines (Whole says) = false

-- the command that answers the lines, with its state before the first line; none if the command answers no lines
abbrev pub speaking_for : Option Command → Option Speaking
speaking_for (Some (command.Name name)) = Some (speaking.Name name)
speaking_for (Some command.Compare) = Some speaking.Compare
speaking_for (Some (command.Records record_command)) = Some (speaking.Records record_command no_rows)
speaking_for (Some command.Convert) = Some speaking.Convert
speaking_for (Some command.Advise) = Some (speaking.Advise no_advice)
speaking_for (Some command.Load) = None
speaking_for (Some command.Cover) = Some (speaking.Cover [])
speaking_for (Some (command.Make count)) = None
speaking_for (Some (command.Drill count)) = None
speaking_for None = None

-- the session is open, and for any lines it would write what a run with these words writes for them
pub record Opens (words : List (List ℕ)) (talk : Talk) : Type 0 where
  pub phase : talk.phase ≡ Open
  pub says : (bytes : List ℕ) → Says (meaning words).task bytes (is_continued talk.speaking talk.progress (lines bytes))
