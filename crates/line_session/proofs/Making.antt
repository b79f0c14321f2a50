-- Lemmas about a session over lines that a table makes.
use Rattle.std.proofs.Common.{◌≡◌, ℕ, ◌+◌, ◌<◌, ◌≤◌, suc, List, [], ◌++◌, Option, Some, None, refl, sym, ap, subst, arith}
use Rattle.std.proofs.KnownBytes.{Consumes-nil, Appends-trans}
use Rattle.cpe_io.specs.declared.sink.SinkFault.{SinkFault}
use Rattle.cpe_io.specs.declared.sink.SinkFault.TheVariants as sink
use Rattle.cpe_io.specs.Writes.{AppendsPrefix}
use Rattle.line_session.specs.declared.status.Status.{Status}
use Rattle.line_session.specs.declared.status.Status.TheVariants as status
use Rattle.line_session.specs.Session.{Session, Stage, next_says, next_writes, after_next, next_cost, total_cost}
use Rattle.line_session.specs.Task.{Transcript, Fixed, speech, spoken}
use Rattle.line_session.specs.Table.{made_lines}
use Rattle.step_count.specs.Within.{StepsWithin}
use Rattle.line_session.specs.Pages.{Pours, Finishes, IsBeforeOrAfter}
use Rattle.line_session.specs.Ran.{Ran, HasWritten, ReachedBy, StateAt, LeftByPrefix}
use Rattle.line_session.specs.Statuses.{of_sink_fault}
use Rattle.line_session.proofs.SessionLemmas.{lines_behind, length-made}
use Rattle.line_session.proofs.Answered.{Answered, left_so_far, left_before_or_after, Answered-poured, Answered-line, answered_number, begins_prefix, begins_written, within_all, within_next, EndReported, Answered-ended}

fault_kept : (fault : SinkFault) (all : Transcript) (left : Option (List ℕ)) (written : List ℕ) → HasWritten (Fixed all) left [] written (of_sink_fault fault)
fault_kept sink.Failed all left written = tt
fault_kept sink.Memory all left written = tt

ended_written : (ending : Status) (all : Transcript) (left : Option (List ℕ)) (written : List ℕ) → EndReported all written ending → HasWritten (Fixed all) left [] written ending
ended_written status.Done all left written reported = (reported, refl)
ended_written status.SomeRefused all left written reported = (reported, refl)
ended_written status.WriteFault all left written reported = tt
ended_written status.Memory all left written reported = tt
ended_written status.Usage all left written reported = absurd reported
ended_written status.ReadFault all left written reported = absurd reported
ended_written status.Endless all left written reported = absurd reported

module _ (line : ℕ → List ℕ) (k : ℕ) {State : Type 0} {held0 held : Option (List ℕ)} {session : Session State} {first : State} {steps0 steps : ℕ} {text : List ℕ} {s : Stage State}
    (answered : Answered held0 held session first steps0 steps (made_lines line k) text s) where
  pub made_number : s.number ≡ k
  made_number = omega (arith, answered_number answered, length-made line k)

  -- lemma: one more line was answered, and a prefix of the page was written to the sink
  pub Answered-made : {held_now : Option (List ℕ)} {text_then text_now : List ℕ} {s_now : Stage State} {steps_now : ℕ}
      → text_then ≡ text ++ next_writes session s (Some (line k)) → s_now ≡ after_next session s (Some (line k)) → StepsWithin steps steps_now (next_cost session s (Some (line k)))
      → Pours held held_now text_then text_now [] → Answered held0 held_now session first steps0 steps_now (made_lines line (k + 1)) text_now s_now
  Answered-made {held_now = held_now} {text_now = text_now} {s_now = s_now} {steps_now = steps_now} text_is s_is counts pours =
      let next : suc k ≡ k + 1 = omega arith in
      subst (λ (j : ℕ). Answered held0 held_now session first steps0 steps_now (made_lines line j) text_now s_now) next
      (Answered-poured (Answered-line answered (Some (line k)) text_is s_is counts) pours)

  module _ (n : ℕ) (within : k ≤ n) where
    pub made_within : steps ≤ steps0 + total_cost session first (made_lines line n)
    made_within = let behind = lines_behind line k n within in within_all answered (made_lines line n) behind.0 behind.1

    -- lemma: the session has the state after the first k lines
    pub made_left : LeftByPrefix session first s.state (made_lines line n)
    made_left = let behind = lines_behind line k n within in left_so_far answered (made_lines line n) behind.0 behind.1

    -- lemma: a run ended because memory ran out
    pub Ran-made_memory : {state_now : State} {steps_now : ℕ} (left : Option (List ℕ)) → LeftByPrefix session first state_now (made_lines line n) → steps ≤ steps_now → steps_now ≤ steps0 + total_cost session first (made_lines line n)
        → Ran left left held0 held (Fixed (spoken (speech session first) (made_lines line n)))
        (λ taken st. ReachedBy session first state_now steps0 steps_now (made_lines line n) (made_lines line n) st) status.Memory
    Ran-made_memory left state_left more few = record {
      taken = [];
      written = answered.written;
      took = Consumes-nil left;
      wrote = answered.wrote;
      present = tt;
      begins = let behind = lines_behind line k n within in begins_written answered (made_lines line n) behind.0 behind.1;
      besides = record { state = state_left; later = omega (arith, answered.later, more); within = few };
    }

    fault_left : (fault : SinkFault) → StateAt session first s.state (made_lines line n) (made_lines line n) (of_sink_fault fault)
    fault_left sink.Failed = made_left
    fault_left sink.Memory = made_left

    -- lemma: a run ended because the sink had a fault
    pub Ran-made_fault : {held_now : Option (List ℕ)} (left : Option (List ℕ)) (fault : SinkFault) (ending : Status) → ending ≡ of_sink_fault fault → AppendsPrefix held held_now text
        → Ran left left held0 held_now (Fixed (spoken (speech session first) (made_lines line n)))
        (λ taken st. ReachedBy session first s.state steps0 steps (made_lines line n) (made_lines line n) st) ending
    Ran-made_fault {held_now = held_now} left fault ending is prefix =
        let all = spoken (speech session first) (made_lines line n) in
        let behind = lines_behind line k n within in
        record {
          taken = [];
          written = answered.written ++ prefix.prefix;
          took = Consumes-nil left;
          wrote = Appends-trans held0 held held_now answered.written prefix.prefix answered.wrote prefix.appends;
          present = subst (λ (st : Status). HasWritten (Fixed all) left [] (answered.written ++ prefix.prefix) st) (sym is) (fault_kept fault all left (answered.written ++ prefix.prefix));
          begins = begins_prefix answered (made_lines line n) behind.0 behind.1 prefix.prefix prefix.begins;
          besides = record {
            state = subst (λ (st : Status). StateAt session first s.state (made_lines line n) (made_lines line n) st) (sym is) (fault_left fault);
            later = answered.later;
            within = made_within;
          };
        }

  -- lemma: the session has the state after the first lines, if line k changed the state or left it unchanged
  pub made_left_next : {state_now : State} (n : ℕ) → k < n → IsBeforeOrAfter (next_says session s (Some (line k))) s.state state_now → LeftByPrefix session first state_now (made_lines line n)
  made_left_next n below left =
      let behind = lines_behind line (suc k) n (omega (arith, below)) in
      left_before_or_after answered (Some (line k)) left (made_lines line n) behind.0 behind.1

  -- lemma: after line k the steps are at most those that all lines may take
  pub made_within_next : {steps_now : ℕ} (n : ℕ) → k < n → steps_now ≤ steps + next_cost session s (Some (line k)) → steps_now ≤ steps0 + total_cost session first (made_lines line n)
  made_within_next n below more =
      let behind = lines_behind line (suc k) n (omega (arith, below)) in
      within_next answered (Some (line k)) (made_lines line n) behind.0 behind.1 more

  -- lemma: a run ended after all lines were answered
  pub Ran-made_end : {held_now : Option (List ℕ)} {steps_now : ℕ} (n : ℕ) → k ≡ n → (left : Option (List ℕ)) (ending : Status) → Finishes held held_now (text ++ session.ends s.state) s.refused ending
      → StepsWithin steps steps_now (session.end_cost s.state)
      → Ran left left held0 held_now (Fixed (spoken (speech session first) (made_lines line n))) (λ taken st. ReachedBy session first s.state steps0 steps_now (made_lines line n) (made_lines line n) st) ending
  Ran-made_end n is left ending finishes counts =
      let all = spoken (speech session first) (made_lines line n) in
      let ended = Answered-ended answered (made_lines line n) (ap (made_lines line) (sym is)) {whole_ones = made_lines line n} counts ending finishes in
      record {
        taken = [];
        written = ended.written;
        took = Consumes-nil left;
        wrote = ended.wrote;
        present = ended_written ending all left ended.written ended.reported;
        begins = ended.begins;
        besides = ended.reached;
      }
