-- What a line of a record writes, and how it changes the items and advisories.
use Rattle.std.specs.Prelude.{ℕ, List, [], false, Ok, Err}
use Rattle.std.specs.declared.result.Result.{Result}
use Rattle.line_session.specs.cpe_io.Lines.{lines}
use Rattle.line_session.specs.Session.{Session, Saying, total_cost}
use Rattle.advise_ranges.specs.Rows.{AdviceRows, no_advice_rows}
use Rattle.advise_ranges.specs.Step.{advise_step}
use Rattle.advise_ranges.specs.Answers.{advice_answer, advice_looks}
use Rattle.advise_ranges.specs.Reading.{advice_of}
use Rattle.advise_ranges.specs.declared.edit.AdviceFault.{AdviceFault}
use Rattle.advise_ranges.specs.declared.member.AdviceReadFault.{AdviceReadFault}
use Rattle.advise_ranges.specs.declared.read.Advice.{Advice}
use Rattle.advise_ranges.specs.declared.read.Advice.TheVariants.{Edit, Query}
use Rattle.advise_ranges.specs.Lines.{advice_reply_text}
use Rattle.advise_ranges.specs.Reasons.{read_fault_text, advice_fault_text}

-- an accepted edit writes nothing, and a refused one has its fault as the reason
abbrev pub advice_step : Result AdviceRows AdviceFault → Saying AdviceRows
advice_step (Ok next) = Ok ([], next)
advice_step (Err fault) = Err (advice_fault_text fault)

-- an edit changes the rows, a question is answered, and a line that is no record is refused
abbrev pub by_advice : AdviceRows → Result Advice AdviceReadFault → Saying AdviceRows
by_advice rows (Ok (Edit e)) = advice_step (advise_step rows e)
by_advice rows (Ok (Query query)) = Ok (advice_reply_text (advice_answer rows query), rows)
by_advice rows (Err fault) = Err (read_fault_text fault)

-- the most looks at names: for a question the looks of its answer in these rows, and for an edit none
abbrev pub advice_cost : AdviceRows → Result Advice AdviceReadFault → ℕ
advice_cost rows (Ok (Edit e)) = 0
advice_cost rows (Ok (Query query)) = advice_looks rows query
advice_cost rows (Err fault) = 0

abbrev pub advice_session : Session AdviceRows
advice_session = record {
  says = λ rows number text. by_advice rows (advice_of text);
  quiet = false;
  ends = λ rows. [];
  cost = λ rows number text. advice_cost rows (advice_of text);
  end_cost = λ rows. 0;
}

-- the most steps that the lines of these bytes may take; each line has the rows that the lines before it leave
abbrev pub advice_steps : List ℕ → ℕ
advice_steps taken = total_cost advice_session no_advice_rows (lines taken)
