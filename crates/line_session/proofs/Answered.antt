-- Lemmas: the progress of a session, whether its lines are read or made: which lines were answered, what was written,
-- and the state.
use Rattle.std.proofs.Common.{◌≡◌, ℕ, ◌+◌, ◌≤◌, Bool, false, List, [], ◌∷◌, ◌++◌, length, Option, sym, ap, ◌∙◌, subst, inl, inr, arith, append_assoc, append-nil}
use Rattle.std.specs.Io.KnownBytes.{Appends}
use Rattle.std.proofs.KnownBytes.{Appends-nil, Appends-trans}
use Rattle.cpe_io.specs.Writes.{BeginsWith, AppendsPrefix}
use Rattle.line_session.specs.declared.status.Status.{Status}
use Rattle.line_session.specs.declared.status.Status.TheVariants as status
use Rattle.line_session.specs.Session.{Session, Stage, next_says, next_writes, after_next, start, stage_after, out_from, next_cost, costs, total_cost}
use Rattle.line_session.specs.Task.{Transcript, Fixed, Says, speech, spoken}
use Rattle.step_count.specs.Within.{StepsWithin}
use Rattle.line_session.specs.Pages.{Pours, Finishes, IsBeforeOrAfter}
use Rattle.line_session.specs.Ran.{ReachedBy, StateAt, LeftByPrefix}
use Rattle.line_session.specs.Statuses.{status_of}
use Rattle.line_session.proofs.SessionLemmas.{stage_after-append, out_from-append, costs-append, number-after}

-- The lines `seen` were answered, and `written` was written to the sink. The gathered output `text` follows what was
-- written.
pub record Answered {State : Type 0} (held0 held : Option (List ℕ)) (session : Session State) (first : State) (steps0 steps : ℕ) (seen : List (Option (List ℕ))) (text : List ℕ) (s : Stage State) : Type 0 where
  pub written : List ℕ
  pub wrote : Appends held0 held written
  pub so_far : written ++ text ≡ out_from session (start first) seen
  pub stage : s ≡ stage_after session (start first) seen
  pub later : steps0 ≤ steps
  pub spent : steps ≤ steps0 + costs session (start first) seen

pub Answered-none : {State : Type 0} (held : Option (List ℕ)) (session : Session State) (first : State) (steps : ℕ) (text : List ℕ) (number : ℕ) (refused : Bool)
    → text ≡ [] → number ≡ 0 → refused ≡ false → Answered held held session first steps steps [] text (record { number = number; refused = refused; state = first })
Answered-none held session first steps text number refused none counted none_refused = record {
  written = [];
  wrote = Appends-nil held;
  so_far = none;
  stage = λ i. record { number = counted i; refused = none_refused i; state = first };
  later = omega arith;
  spent = omega arith;
}

-- at the end, text and status are those of all lines, unless the status is that of a fault
abbrev pub EndReported : Transcript → List ℕ → Status → Type 0
EndReported all written status.Done = Says (Fixed all) [] (record { text = written; status = status.Done })
EndReported all written status.SomeRefused = Says (Fixed all) [] (record { text = written; status = status.SomeRefused })
EndReported all written status.WriteFault = Unit {0}
EndReported all written status.Memory = Unit {0}
EndReported all written ending = ⊥

-- the session ended after all of these lines
pub record Ended {State : Type 0} (held0 held_now : Option (List ℕ)) (session : Session State) (first now : State) (steps0 steps_now : ℕ) (all whole_ones : List (Option (List ℕ))) (ending : Status) : Type 0 where
  pub written : List ℕ
  pub wrote : Appends held0 held_now written
  pub begins : BeginsWith (spoken (speech session first) all).text written
  pub reported : EndReported (spoken (speech session first) all) written ending
  pub reached : ReachedBy session first now steps0 steps_now all whole_ones ending

module _ {State : Type 0} {held0 held : Option (List ℕ)} {session : Session State} {first : State} {steps0 steps : ℕ} {seen : List (Option (List ℕ))} {text : List ℕ} {s : Stage State}
    (answered : Answered held0 held session first steps0 steps seen text s) where
  pub answered_number : s.number ≡ length seen
  answered_number = omega (arith, ap (λ (t : Stage State). t.number) answered.stage, number-after session (start first) seen)

  -- lemma: the state is that after the first lines, also after one more line that changes the state or leaves it
  -- unchanged
  pub left_so_far : (all later : List (Option (List ℕ))) → all ≡ seen ++ later → LeftByPrefix session first s.state all
  left_so_far all later splits = record { answered = seen; later = later; splits = splits; state = ap (λ (t : Stage State). t.state) answered.stage }

  pub left_before_or_after : {state_now : State} (line : Option (List ℕ)) → IsBeforeOrAfter (next_says session s line) s.state state_now → (all later : List (Option (List ℕ))) → all ≡ (seen ++ line ∷ []) ++ later
      → LeftByPrefix session first state_now all
  left_before_or_after line (inl before) all later splits =
      let so_far = left_so_far all (line ∷ later) (splits ∙ append_assoc seen (line ∷ []) later) in
      record { answered = so_far.answered; later = so_far.later; splits = so_far.splits; state = before ∙ so_far.state }
  left_before_or_after line (inr behind) all later splits = record {
    answered = seen ++ line ∷ [];
    later = later;
    splits = splits;
    state = behind ∙ ap (λ (t : Stage State). (after_next session t line).state) answered.stage ∙ ap (λ (t : Stage State). t.state) (sym (stage_after-append session (start first) seen (line ∷ [])));
  }

  -- lemma: `Answered` is still true after a prefix of the page was written to the sink
  pub Answered-poured : {held_now : Option (List ℕ)} {kept : List ℕ} → Pours held held_now text kept [] → Answered held0 held_now session first steps0 steps seen kept s
  Answered-poured {held_now = held_now} {kept = kept} pours = record {
    written = answered.written ++ pours.prefix;
    wrote = Appends-trans held0 held held_now answered.written pours.prefix answered.wrote pours.appends;
    so_far = append_assoc answered.written pours.prefix kept ∙ ap (λ (l : List ℕ). answered.written ++ l) (sym pours.splits ∙ append-nil text) ∙ answered.so_far;
    stage = answered.stage;
    later = answered.later;
    spent = answered.spent;
  }

  -- lemma: after one more line, the steps are at most those that the lines so far may take
  spent_more : {steps_now : ℕ} (line : Option (List ℕ)) → steps_now ≤ steps + next_cost session s line → steps_now ≤ steps0 + costs session (start first) (seen ++ line ∷ [])
  spent_more line within =
      omega (arith, within, answered.spent, costs-append session (start first) seen (line ∷ []), ap (λ (t : Stage State). next_cost session t line) answered.stage)

  -- lemma: `Answered` is true after one more line was answered
  pub Answered-line : {text_now : List ℕ} {s_now : Stage State} {steps_now : ℕ} (line : Option (List ℕ)) → text_now ≡ text ++ next_writes session s line → s_now ≡ after_next session s line
      → StepsWithin steps steps_now (next_cost session s line) → Answered held0 held session first steps0 steps_now (seen ++ line ∷ []) text_now s_now
  Answered-line line text_is s_is counts = record {
    written = answered.written;
    wrote = answered.wrote;
    so_far = ap (λ (l : List ℕ). answered.written ++ l) text_is ∙ sym (append_assoc answered.written text (next_writes session s line))
        ∙ ap (λ (l : List ℕ). l ++ next_writes session s line) answered.so_far
        ∙ ap (λ (t : Stage State). out_from session (start first) seen ++ next_writes session t line) answered.stage
        ∙ ap (λ (l : List ℕ). out_from session (start first) seen ++ l) (sym (append-nil (next_writes session (stage_after session (start first) seen) line)))
        ∙ sym (out_from-append session (start first) seen (line ∷ []));
    stage = s_is ∙ ap (λ (t : Stage State). after_next session t line) answered.stage ∙ sym (stage_after-append session (start first) seen (line ∷ []));
    later = omega (arith, answered.later, counts.0);
    spent = spent_more line counts.1;
  }

  -- all lines are the lines of `seen` and the lines of `later`
  module _ (all later : List (Option (List ℕ))) (splits : all ≡ seen ++ later) where
    -- what the later lines and the end of the session have yet to write
    rest : List ℕ
    rest = out_from session s later ++ session.ends (stage_after session (start first) all).state

    is_continued : (spoken (speech session first) all).text ≡ answered.written ++ (text ++ rest)
    unfolding rest
    is_continued =
        let end = session.ends (stage_after session (start first) all).state in
        ap (λ (l : List ℕ). l ++ end) (
        ap (out_from session (start first)) splits
        ∙ out_from-append session (start first) seen later
        ∙ ap (λ (l : List ℕ). l ++ out_from session (stage_after session (start first) seen) later) (sym answered.so_far)
        ∙ ap (λ (t : Stage State). (answered.written ++ text) ++ out_from session t later) (sym answered.stage)
        )
        ∙ append_assoc (answered.written ++ text) (out_from session s later) end
        ∙ append_assoc answered.written text (out_from session s later ++ end)

    -- lemma: what was written, and then a prefix of the page, is a prefix of what all lines write
    pub begins_prefix : (prefix : List ℕ) → BeginsWith text prefix → BeginsWith (spoken (speech session first) all).text (answered.written ++ prefix)
    begins_prefix prefix begins = record {
      rest = begins.rest ++ rest;
      splits = is_continued ∙ ap (λ (t : List ℕ). answered.written ++ (t ++ rest)) begins.splits
          ∙ ap (λ (t : List ℕ). answered.written ++ t) (append_assoc prefix begins.rest rest)
          ∙ sym (append_assoc answered.written prefix (begins.rest ++ rest));
    }

    pub begins_written : BeginsWith (spoken (speech session first) all).text answered.written
    begins_written = record { rest = text ++ rest; splits = is_continued }

    pub within_all : steps ≤ steps0 + total_cost session first all
    within_all =
        subst (λ (ls : List (Option (List ℕ))). steps ≤ steps0 + total_cost session first ls) (sym splits)
        (omega (arith, answered.spent, costs-append session (start first) seen later))

  -- lemma: the steps after one more line are at most those that all lines may take
  pub within_next : {steps_now : ℕ} (line : Option (List ℕ)) (all later : List (Option (List ℕ))) → all ≡ (seen ++ line ∷ []) ++ later
      → steps_now ≤ steps + next_cost session s line → steps_now ≤ steps0 + total_cost session first all
  within_next {steps_now = steps_now} line all later splits within =
      subst (λ (ls : List (Option (List ℕ))). steps_now ≤ steps0 + total_cost session first ls) (sym splits)
      (omega (arith, spent_more line within, costs-append session (start first) (seen ++ line ∷ []) later))

  -- all lines were answered
  module _ (all : List (Option (List ℕ))) (same : all ≡ seen) where
    end_text : (spoken (speech session first) all).text ≡ answered.written ++ (text ++ session.ends s.state)
    end_text =
        ap (λ (ls : List (Option (List ℕ))). out_from session (start first) ls ++ session.ends (stage_after session (start first) ls).state) same
        ∙ ap (λ (t : Stage State). out_from session (start first) seen ++ session.ends t.state) (sym answered.stage)
        ∙ ap (λ (l : List ℕ). l ++ session.ends s.state) (sym answered.so_far)
        ∙ append_assoc answered.written text (session.ends s.state)

    end_status : (spoken (speech session first) all).status ≡ status_of s.refused
    end_status = ap (λ (ls : List (Option (List ℕ))). status_of (stage_after session (start first) ls).refused) same ∙ ap (λ (t : Stage State). status_of t.refused) (sym answered.stage)

    end_state : s.state ≡ (stage_after session (start first) all).state
    end_state = ap (λ (t : Stage State). t.state) answered.stage ∙ ap (λ (ls : List (Option (List ℕ))). (stage_after session (start first) ls).state) (sym same)

    left_by_all : LeftByPrefix session first s.state all
    left_by_all = record { answered = all; later = []; splits = sym (append-nil all); state = end_state }

    end_within : {steps_now : ℕ} → StepsWithin steps steps_now (session.end_cost s.state) → steps_now ≤ steps0 + total_cost session first all
    end_within {steps_now = steps_now} counts =
        subst (λ (ls : List (Option (List ℕ))). steps_now ≤ steps0 + total_cost session first ls) (sym same)
        (omega (arith, counts.1, answered.spent, ap (λ (t : Stage State). session.end_cost t.state) answered.stage))

    end_begins : (prefix : List ℕ) → BeginsWith (text ++ session.ends s.state) prefix → BeginsWith (spoken (speech session first) all).text (answered.written ++ prefix)
    end_begins prefix begins = record {
      rest = begins.rest;
      splits = end_text ∙ ap (λ (t : List ℕ). answered.written ++ t) begins.splits ∙ sym (append_assoc answered.written prefix begins.rest);
    }

    module _ {held_now : Option (List ℕ)} {steps_now : ℕ} {whole_ones : List (Option (List ℕ))} (counts : StepsWithin steps steps_now (session.end_cost s.state)) where
      ended_all : (ending : Status) → ((written : List ℕ) → Says (Fixed (spoken (speech session first) all)) [] (record { text = written; status = ending }) → EndReported (spoken (speech session first) all) written ending)
          → (s.state ≡ (stage_after session (start first) all).state → StateAt session first s.state all whole_ones ending)
          → Appends held held_now (text ++ session.ends s.state) → status_of s.refused ≡ ending → Ended held0 held_now session first s.state steps0 steps_now all whole_ones ending
      ended_all ending reports left appends is =
          let end = text ++ session.ends s.state in
          record {
            written = answered.written ++ end;
            wrote = Appends-trans held0 held held_now answered.written end answered.wrote appends;
            begins = end_begins end (record { rest = []; splits = sym (append-nil end) });
            reported = reports (answered.written ++ end) (λ i. record { text = sym end_text i; status = (sym is ∙ sym end_status) i });
            reached = record { state = left end_state; later = omega (arith, answered.later, counts.0); within = end_within counts };
          }

      ended_prefix : (ending : Status) → ((written : List ℕ) → EndReported (spoken (speech session first) all) written ending) → StateAt session first s.state all whole_ones ending
          → AppendsPrefix held held_now (text ++ session.ends s.state) → Ended held0 held_now session first s.state steps0 steps_now all whole_ones ending
      ended_prefix ending reports left prefix = record {
        written = answered.written ++ prefix.prefix;
        wrote = Appends-trans held0 held held_now answered.written prefix.prefix answered.wrote prefix.appends;
        begins = end_begins prefix.prefix prefix.begins;
        reported = reports (answered.written ++ prefix.prefix);
        reached = record { state = left; later = omega (arith, answered.later, counts.0); within = end_within counts };
      }

      pub Answered-ended : (ending : Status) → Finishes held held_now (text ++ session.ends s.state) s.refused ending → Ended held0 held_now session first s.state steps0 steps_now all whole_ones ending
      Answered-ended status.Done finishes = ended_all status.Done (λ written it. it) (λ it. it) finishes.0 finishes.1
      Answered-ended status.SomeRefused finishes = ended_all status.SomeRefused (λ written it. it) (λ it. it) finishes.0 finishes.1
      Answered-ended status.WriteFault finishes = ended_prefix status.WriteFault (λ _. tt) left_by_all finishes
      Answered-ended status.Memory finishes = ended_prefix status.Memory (λ _. tt) left_by_all finishes
      Answered-ended status.Usage finishes = absurd finishes
      Answered-ended status.ReadFault finishes = absurd finishes
      Answered-ended status.Endless finishes = absurd finishes
