-- If the buffer got a text, or its length was returned, memory did not run out.
use Rattle.std.proofs.Common.{◌≡◌, ℕ, List, [], ◌∷◌, Option}
use Rattle.line_session.specs.cpe_io.Lines.{line_of}
use Rattle.line_session.specs.Statuses.{status_number}
use Rattle.line_session.specs.declared.status.Status.{Status}
use Rattle.c_library.specs.declared.call_result.CallResult.{CallResult}
use Rattle.c_library.specs.declared.call_result.CallResult.TheVariants as call_result
use Rattle.c_library.specs.CallResults.{FitsBuffer}
use Rattle.c_library.specs.declared.talk.Talk.{Talk}
use Rattle.c_library.specs.declared.talk.Phase.TheVariants.{Open, Ended}
use Rattle.c_library.specs.Talk.{EndsCall, SpeaksCall}
use Rattle.c_library.specs.Talks.{written_before, is_continued}

module _ (old new : Talk) (room room_now : List ℕ) where
  pub Says-fits : (piece : List ℕ) (it : CallResult) → FitsBuffer new.progress.page room room_now it → new.phase ≡ Open
      → ((more : List (Option (List ℕ))) → is_continued old.speaking old.progress (line_of piece ∷ more) ≡ written_before new.progress.page (is_continued new.speaking new.progress more))
      → SpeaksCall old new piece room room_now it
  Says-fits piece (call_result.Done n) fits stays says = (fits, stays, says)
  Says-fits piece (call_result.Short n) fits stays says = (fits, stays, says)
  Says-fits piece (call_result.Refused n) fits stays says = absurd fits
  Says-fits piece (call_result.TargetRefused n) fits stays says = absurd fits
  Says-fits piece call_result.Memory fits stays says = absurd fits
  Says-fits piece call_result.NoCommand fits stays says = absurd fits
  Says-fits piece call_result.NotALine fits stays says = absurd fits
  Says-fits piece call_result.Over fits stays says = absurd fits

  pub Ends-fits : (number : ℕ) (it : CallResult) → FitsBuffer new.progress.page room room_now it → new.phase ≡ Ended
      → ((status : Status) × (number ≡ status_number status) × (is_continued old.speaking old.progress [] ≡ record { text = new.progress.page; status = status }))
      → EndsCall old new room room_now number it
  Ends-fits number (call_result.Done n) fits ended says = (fits, ended, says)
  Ends-fits number (call_result.Short n) fits ended says = (fits, ended, says)
  Ends-fits number (call_result.Refused n) fits ended says = absurd fits
  Ends-fits number (call_result.TargetRefused n) fits ended says = absurd fits
  Ends-fits number call_result.Memory fits ended says = absurd fits
  Ends-fits number call_result.NoCommand fits ended says = absurd fits
  Ends-fits number call_result.NotALine fits ended says = absurd fits
  Ends-fits number call_result.Over fits ended says = absurd fits
