-- What a session would still write, if its lines are given one by one.
use Rattle.std.specs.Prelude.{ℕ, List, ◌++◌}
use Rattle.std.specs.declared.option.Option.{Option}
use Rattle.line_session.specs.Session.{Session, Stage, stage_after, out_from}
use Rattle.line_session.specs.Statuses.{status_of}
use Rattle.line_session.specs.Task.{Transcript}
use Rattle.line_session.specs.Pages.{stage_of}
use Rattle.line_session.specs.declared.progress.Progress.{Progress}
use Rattle.cpe_command.specs.convert_lines.Convert.{convert_session}
use Rattle.cpe_command.specs.advise_ranges.Records.{advice_session}
use Rattle.cpe_command.specs.cover_lines.Lines.{cover_session}
use Rattle.cpe_command.specs.Names.{name_session}
use Rattle.cpe_command.specs.Pairs.{pair_session}
use Rattle.cpe_command.specs.Records.{record_session}
use Rattle.c_library.specs.declared.speaking.Speaking.{Speaking}
use Rattle.c_library.specs.declared.speaking.Speaking.TheVariants.{Name, Compare, Records, Convert, Advise, Cover}

-- what is written for these lines and at their end, from this stage on, and the status
abbrev pub spoken_from : {State : Type 0} → Session State → Stage State → List (Option (List ℕ)) → Transcript
spoken_from session s ls = record {
  text = out_from session s ls ++ session.ends (stage_after session s ls).state;
  status = status_of (stage_after session s ls).refused;
}

-- what the session's command writes for these lines and at their end, from this state and progress on, and the status
abbrev pub is_continued : Speaking → Progress → List (Option (List ℕ)) → Transcript
is_continued (Name command) progress = spoken_from (name_session command) (stage_of progress tt)
is_continued Compare progress = spoken_from pair_session (stage_of progress tt)
is_continued (Records command rows) progress = spoken_from (record_session command) (stage_of progress rows)
is_continued Convert progress = spoken_from convert_session (stage_of progress tt)
is_continued (Advise rows) progress = spoken_from advice_session (stage_of progress rows)
is_continued (Cover names) progress = spoken_from cover_session (stage_of progress names)

-- a text, and then this transcript
abbrev pub written_before : List ℕ → Transcript → Transcript
written_before text more = record { text = text ++ more.text; status = more.status }
