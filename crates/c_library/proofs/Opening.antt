-- A session before its first line would write what a run of its command writes.
use Rattle.std.proofs.Common.{◌≡◌, ℕ, Bool, true, false, List, [], Option, Some, None, refl, sym, ap, ◌∙◌}
use Rattle.std.specs.Prelude.{if◌then◌else◌, is_some}
use Rattle.std.proofs.lemmas.Bool.{true≢false}
use Rattle.line_session.specs.cpe_io.Lines.{lines}
use Rattle.line_session.specs.Session.{Session}
use Rattle.line_session.specs.Task.{Says, speech, spoken}
use Rattle.line_session.specs.Pages.{stage_of}
use Rattle.line_session.specs.declared.progress.Progress.{Progress}
use Rattle.cpe_command.specs.declared.command.Command.{Command}
use Rattle.cpe_command.specs.declared.command.Command.TheVariants as command
use Rattle.cpe_command.specs.Command.{with_count}
use Rattle.cpe_command.specs.Meaning.{meaning_of}
use Rattle.cpe_command.specs.Names.{name_session}
use Rattle.cpe_command.specs.Pairs.{pair_session}
use Rattle.cpe_command.specs.Records.{record_session}
use Rattle.cpe_command.specs.convert_lines.Convert.{convert_session}
use Rattle.cpe_command.specs.advise_ranges.Records.{advice_session}
use Rattle.cpe_command.specs.cover_lines.Lines.{cover_session}
use Rattle.cpe_rows.specs.Rows.{no_rows}
use Rattle.cpe_command.specs.advise_ranges.Rows.{no_advice_rows as no_advice}
use Rattle.c_library.specs.declared.speaking.Speaking.{Speaking}
use Rattle.c_library.specs.declared.speaking.Speaking.TheVariants as speaking
use Rattle.c_library.specs.Beginning.{answers_lines, speaking_for}
use Rattle.c_library.specs.Talks.{is_continued, spoken_from}

-- no session begins for `make` or `drill`, because these commands generate their lines
by_tests : (make drill : Bool) (count : ℕ) → speaking_for (if make then Some (command.Make count) else (if drill then Some (command.Drill count) else None)) ≡ None
by_tests true drill count = refl
by_tests false true count = refl
by_tests false false count = refl

pub counted_begins : (word : List ℕ) (count : Option ℕ) → speaking_for (with_count word count) ≡ None
counted_begins word None = refl
counted_begins word (Some count) = by_tests _ _ count

abbrev or_this : Speaking → Option Speaking → Speaking
or_this other None = other
or_this other (Some who) = who

module _ (progress : Progress) (number : progress.number ≡ 0) (refused : progress.refused ≡ false) (bytes : List ℕ) where
  from_start : {State : Type 0} (session : Session State) (first : State) → spoken_from session (stage_of progress first) (lines bytes) ≡ spoken (speech session first) (lines bytes)
  from_start session first = λ i. spoken_from session (record { number = number i; refused = refused i; state = first }) (lines bytes)

  is_this : (who first : Speaking) → Some who ≡ Some first → is_continued who progress (lines bytes) ≡ is_continued first progress (lines bytes)
  is_this who first same = ap (λ (o : Option Speaking). is_continued (or_this who o) progress (lines bytes)) same

  pub begins_says : (it : Option Command) (who : Speaking) → Some who ≡ speaking_for it → Says (meaning_of it).task bytes (is_continued who progress (lines bytes))
  begins_says (Some (command.Name name)) who same = is_this who (speaking.Name name) same ∙ from_start (name_session name) tt
  begins_says (Some command.Compare) who same = is_this who speaking.Compare same ∙ from_start pair_session tt
  begins_says (Some (command.Records c)) who same = is_this who (speaking.Records c no_rows) same ∙ from_start (record_session c) no_rows
  begins_says (Some command.Convert) who same = is_this who speaking.Convert same ∙ from_start convert_session tt
  begins_says (Some command.Advise) who same = is_this who (speaking.Advise no_advice) same ∙ from_start advice_session no_advice
  begins_says (Some command.Load) who same = absurd (true≢false (ap is_some same))
  begins_says (Some command.Cover) who same = is_this who (speaking.Cover []) same ∙ from_start cover_session []
  begins_says (Some (command.Make count)) who same = absurd (true≢false (ap is_some same))
  begins_says (Some (command.Drill count)) who same = absurd (true≢false (ap is_some same))
  begins_says None who same = absurd (true≢false (ap is_some same))

pub begins_lines : (it : Option Command) (who : Speaking) → Some who ≡ speaking_for it → answers_lines (meaning_of it).task ≡ true
begins_lines (Some (command.Name name)) who same = refl
begins_lines (Some command.Compare) who same = refl
begins_lines (Some (command.Records c)) who same = refl
begins_lines (Some command.Convert) who same = refl
begins_lines (Some command.Advise) who same = refl
begins_lines (Some command.Load) who same = absurd (true≢false (ap is_some same))
begins_lines (Some command.Cover) who same = refl
begins_lines (Some (command.Make count)) who same = absurd (true≢false (ap is_some same))
begins_lines (Some (command.Drill count)) who same = absurd (true≢false (ap is_some same))
begins_lines None who same = absurd (true≢false (ap is_some same))

pub begins_none : (it : Option Command) → None ≡ speaking_for it → answers_lines (meaning_of it).task ≡ false
begins_none (Some (command.Name name)) same = absurd (true≢false (sym (ap is_some same)))
begins_none (Some command.Compare) same = absurd (true≢false (sym (ap is_some same)))
begins_none (Some (command.Records c)) same = absurd (true≢false (sym (ap is_some same)))
begins_none (Some command.Convert) same = absurd (true≢false (sym (ap is_some same)))
begins_none (Some command.Advise) same = absurd (true≢false (sym (ap is_some same)))
begins_none (Some command.Load) same = refl
begins_none (Some command.Cover) same = absurd (true≢false (sym (ap is_some same)))
begins_none (Some (command.Make count)) same = refl
begins_none (Some (command.Drill count)) same = refl
begins_none None same = refl
