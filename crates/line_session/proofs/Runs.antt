-- Lemmas about runs that read nothing, and about further properties of runs.
use Rattle.std.proofs.Common.{◌≡◌, ◌⊎◌, ℕ, ◌+◌, ◌^◌, ◌<◌, ◌≤◌, List, [], ◌∷◌, ◌++◌, length, Option, Some, None, Result, refl, sym, ap, ◌∙◌, subst, inl, inr, arith, append-nil, length-append}
use Rattle.std.specs.Io.KnownBytes.{Consumes, Appends, IsAtEnd}
use Rattle.std.proofs.KnownBytes.{Consumes-nil}
use Rattle.cpe_io.specs.Writes.{BeginsWith, AppendsPrefix}
use Rattle.cpe_io.specs.declared.sink.SinkFault.{SinkFault}
use Rattle.cpe_io.specs.declared.sink.SinkFault.TheVariants as sink
use Rattle.line_session.specs.declared.status.Status.{Status}
use Rattle.line_session.specs.declared.status.Status.TheVariants as ending
use Rattle.line_session.specs.Session.{Session, stateless, Stage, after_next, costs, start, stage_after, total_cost}
use Rattle.line_session.specs.Statuses.{IsEnding, of_sink_fault}
use Rattle.line_session.specs.Task.{Task, Transcript, Speech, Fixed, Lines, Says}
use Rattle.cpe_io.specs.Lines.{lines, whole_lines}
use Rattle.step_count.specs.Within.{StepsWithin}
use Rattle.line_session.specs.Folding.{ChangesBy, CostsBy, FoldsPrefix, IsFolded, summed_by}
use Rattle.line_session.proofs.SessionLemmas.{state-folded, costs-summed}
use Rattle.line_session.specs.Heard.{AnswersRun, EndsAs}
use Rattle.line_session.specs.Ran.{Ran, HasWritten, Anything, LeftByPrefix, Reached, Completes}

-- lemma: a run has a further property, if its known further property implies it
pub Ran-besides : {left left_now held held_now : Option (List ℕ)} {job : Task} {Besides Leaves_now : List ℕ → Status → Type 0} {status : Status}
    → Ran left left_now held held_now job Besides status → ((taken : List ℕ) → Besides taken status → Leaves_now taken status) → Ran left left_now held held_now job Leaves_now status
Ran-besides ran leads = record {
  taken = ran.taken;
  written = ran.written;
  took = ran.took;
  wrote = ran.wrote;
  present = ran.present;
  begins = ran.begins;
  besides = leads ran.taken ran.besides;
}

module _ (left held held_now : Option (List ℕ)) (all : Transcript) where
  written_fault : (fault : SinkFault) (taken written : List ℕ) → HasWritten (Fixed all) left taken written (of_sink_fault fault)
  written_fault sink.Failed taken written = tt
  written_fault sink.Memory taken written = tt

  with_status : {status : Status} → status ≡ all.status → Says (Fixed all) [] (record { text = all.text; status = status })
  with_status is = λ i. record { text = all.text; status = is i }

  written_present : (status : Status) → status ≡ all.status → IsEnding status → HasWritten (Fixed all) left [] all.text status
  written_present ending.Done is ends = (with_status is, refl)
  written_present ending.SomeRefused is ends = (with_status is, refl)
  written_present ending.Usage is ends = (with_status is, refl)
  written_present ending.ReadFault is ends = absurd ends
  written_present ending.WriteFault is ends = absurd ends
  written_present ending.Memory is ends = absurd ends
  written_present ending.Endless is ends = absurd ends

  pub Ran-written : IsEnding all.status → Appends held held_now all.text → Ran left left held held_now (Fixed all) Anything all.status
  Ran-written ends appends = record {
    taken = [];
    written = all.text;
    took = Consumes-nil left;
    wrote = appends;
    present = written_present all.status refl ends;
    begins = record { rest = []; splits = sym (append-nil all.text) };
    besides = tt;
  }

  pub Ran-written_fault : (fault : SinkFault) (status : Status) → status ≡ of_sink_fault fault → AppendsPrefix held held_now all.text → Ran left left held held_now (Fixed all) Anything status
  Ran-written_fault fault status is prefix = record {
    taken = [];
    written = prefix.prefix;
    took = Consumes-nil left;
    wrote = prefix.appends;
    present = subst (λ (st : Status). HasWritten (Fixed all) left [] prefix.prefix st) (sym is) (written_fault fault [] prefix.prefix);
    begins = prefix.begins;
    besides = tt;
  }

-- lemma: a run without a fault of source or sink has the status of its text, or memory ran out
pub Ran-written_completes : {left left_now held held_now : Option (List ℕ)} {all : Transcript} {Besides : List ℕ → Status → Type 0} (status : Status) → Ran left left_now held held_now (Fixed all) Besides status
    → (status ≡ ending.ReadFault → ⊥) → (status ≡ ending.WriteFault → ⊥) → (status ≡ all.status) ⊎ (status ≡ ending.Memory)
Ran-written_completes ending.Done ran read write = inl (ap (λ (it : Transcript). it.status) ran.present.0)
Ran-written_completes ending.SomeRefused ran read write = inl (ap (λ (it : Transcript). it.status) ran.present.0)
Ran-written_completes ending.Usage ran read write = inl (ap (λ (it : Transcript). it.status) ran.present.0)
Ran-written_completes ending.ReadFault ran read write = absurd (read refl)
Ran-written_completes ending.WriteFault ran read write = absurd (write refl)
Ran-written_completes ending.Endless ran read write = absurd ran.present.0
Ran-written_completes ending.Memory ran read write = inr refl

-- lemma: a run that wrote a fixed text answered an input, if that text is the only transcript that may be written for
-- it
pub Answers-written : {held held_now : Option (List ℕ)} {all : Transcript} {Says_it : Transcript → Type 0} (status : Status) → Ran (Some []) (Some []) held held_now (Fixed all) Anything status
    → (all.status ≡ ending.Usage → ⊥) → Says_it all → ((it : Transcript) → Says_it it → it ≡ all) → AnswersRun held held_now Says_it status
Answers-written {all = all} {Says_it = Says_it} status ran no_usage says only = record {
  written = ran.written;
  wrote = ran.wrote;
  ends = ends status ran.present;
  begins = λ it says_it. subst (λ (t : Transcript). BeginsWith t.text ran.written) (sym (only it says_it)) ran.begins;
}
  where
    ends : (st : Status) → HasWritten (Fixed all) (Some []) ran.taken ran.written st → EndsAs Says_it ran.written st
    ends ending.Done present = subst Says_it (sym present.0) says
    ends ending.SomeRefused present = subst Says_it (sym present.0) says
    ends ending.Usage present = absurd (no_usage (sym (ap (λ (it : Transcript). it.status) present.0)))
    ends ending.ReadFault present = absurd present
    ends ending.WriteFault present = tt
    ends ending.Memory present = tt
    ends ending.Endless present = absurd present.0

-- lemma: the limit of the lines' steps is 0, if that of every text is 0
pub costs-none : {State : Type 0} (session : Session State) → ((state : State) (number : ℕ) (text : List ℕ) → session.cost state number text ≡ 0)
    → (s : Stage State) (ls : List (Option (List ℕ))) → costs session s ls ≡ 0
costs-none session none s [] = refl
costs-none session none s (None ∷ ls) = omega (arith, costs-none session none (after_next session s None) ls)
costs-none session none s (Some [] ∷ ls) = omega (arith, costs-none session none (after_next session s (Some [])) ls)
costs-none session none s (Some (x ∷ xs) ∷ ls) =
    omega (arith, none s.state (s.number + 1) (x ∷ xs), costs-none session none (after_next session s (Some (x ∷ xs))) ls)

pub total_cost-none : {State : Type 0} (session : Session State) (first : State) → ((state : State) (number : ℕ) (text : List ℕ) → session.cost state number text ≡ 0) → ((state : State) → session.end_cost state ≡ 0)
    → (ls : List (Option (List ℕ))) → total_cost session first ls ≡ 0
total_cost-none session first none end ls = omega (arith, costs-none session none (start first) ls, end (stage_after session (start first) ls).state)

-- lemma: the limit of the steps is 0 in a session without a state
pub total_cost-stateless : (says : List ℕ → Result (List ℕ) (List ℕ)) (ls : List (Option (List ℕ))) → total_cost (stateless says) tt ls ≡ 0
total_cost-stateless says ls = total_cost-none (stateless says) tt (λ state number text. refl) (λ state. refl) ls

-- lemma: at the end of the input, all remaining bytes were taken
all_taken : (bytes taken : List ℕ) (left_now : Option (List ℕ)) → Consumes (Some bytes) left_now taken → IsAtEnd left_now → bytes ≡ taken
all_taken bytes taken None took end = absurd took
all_taken bytes taken (Some l) took end = took ∙ ap (λ (r : List ℕ). taken ++ r) end ∙ append-nil taken

few_taken : (bytes taken : List ℕ) (left_now : Option (List ℕ)) → Consumes (Some bytes) left_now taken → length taken ≤ length bytes
few_taken bytes taken None took = absurd took
few_taken bytes taken (Some l) took = omega (arith, ap length took, length-append taken l)

module _ {left_now held held_now : Option (List ℕ)} {job : Task} {Besides : List ℕ → Status → Type 0} where
  completes_end : {left : Option (List ℕ)} {status : Status} → (ran : Ran left left_now held held_now job Besides status) → Says job ran.taken (record { text = ran.written; status = status }) → IsAtEnd left_now → length ran.taken < 2 ^ 40 → Completes left job status
  completes_end {left = None} ran says end few = tt
  completes_end {left = Some bytes} {status = status} ran says end few =
      let all = all_taken bytes ran.taken left_now ran.took end in
      (λ below. inl (ran.written, subst (λ (b : List ℕ). Says job b (record { text = ran.written; status = status })) (sym all) says), λ above. absurd (omega (arith, few, above, ap length all)))

  completes_endless : {left : Option (List ℕ)} → (ran : Ran left left_now held held_now job Besides ending.Endless) → length ran.taken ≡ 2 ^ 40 → Completes left job ending.Endless
  completes_endless {left = None} ran is = tt
  completes_endless {left = Some bytes} ran is =
      let few = few_taken bytes ran.taken left_now ran.took in
      (λ below. absurd (omega (arith, below, few, is)), λ above. inl refl)

completes_memory : (left : Option (List ℕ)) (job : Task) → Completes left job ending.Memory
completes_memory None job = tt
completes_memory (Some bytes) job = (λ below. inr refl, λ above. inr refl)

-- lemma: a run over lines is complete, if no fault of source or sink ended it
pub Ran-completes : {left left_now held held_now : Option (List ℕ)} {speech : Speech} {Besides : List ℕ → Status → Type 0} (status : Status) → Ran left left_now held held_now (Lines speech) Besides status
    → (status ≡ ending.ReadFault → ⊥) → (status ≡ ending.WriteFault → ⊥) → Completes left (Lines speech) status
Ran-completes ending.Done ran read write = completes_end ran ran.present.0 ran.present.1.0 ran.present.1.1
Ran-completes ending.SomeRefused ran read write = completes_end ran ran.present.0 ran.present.1.0 ran.present.1.1
Ran-completes ending.Usage ran read write = completes_end ran ran.present.0 ran.present.1.0 ran.present.1.1
Ran-completes ending.ReadFault ran read write = absurd (read refl)
Ran-completes ending.WriteFault ran read write = absurd (write refl)
Ran-completes ending.Endless ran read write = completes_endless ran ran.present.1
Ran-completes {left = left} {speech = speech} ending.Memory ran read write = completes_memory left (Lines speech)

pub Reached-stateless : (says : List ℕ → Result (List ℕ) (List ℕ)) (taken : List ℕ) {now : Unit {0}} {steps steps_now : ℕ} {status : Status} → Reached (stateless says) tt now steps steps_now taken status → steps_now ≡ steps
Reached-stateless says taken reached = omega (arith, reached.later, reached.within, total_cost-stateless says (lines taken))

prefix_folded : {State : Type 0} (session : Session State) (change : State → Option (List ℕ) → State) → ChangesBy session change
    → (first now : State) (all : List (Option (List ℕ))) → LeftByPrefix session first now all → FoldsPrefix change first now all
prefix_folded session change changes first now all left = record {
  answered = left.answered;
  later = left.later;
  splits = left.splits;
  state = left.state ∙ state-folded session change changes (start first) left.answered;
}

-- lemma: the state of a session is the fold of its lines, if each line changes the state by a function of state and
-- the line
pub Reached-folded : {State : Type 0} (session : Session State) (change : State → Option (List ℕ) → State) → ChangesBy session change
    → (first now : State) (taken : List ℕ) {steps steps_now : ℕ} (status : Status) → Reached session first now steps steps_now taken status → IsFolded change first now taken status
Reached-folded session change changes first now taken ending.Done reached = reached.state ∙ state-folded session change changes (start first) (lines taken)
Reached-folded session change changes first now taken ending.SomeRefused reached = reached.state ∙ state-folded session change changes (start first) (lines taken)
Reached-folded session change changes first now taken ending.Usage reached = reached.state
Reached-folded session change changes first now taken ending.ReadFault reached = reached.state ∙ state-folded session change changes (start first) (whole_lines taken)
Reached-folded session change changes first now taken ending.Endless reached = reached.state ∙ state-folded session change changes (start first) (whole_lines taken)
Reached-folded session change changes first now taken ending.WriteFault reached = prefix_folded session change changes first now (lines taken) reached.state
Reached-folded session change changes first now taken ending.Memory reached = prefix_folded session change changes first now (lines taken) reached.state

-- lemma: the steps of a run are at most the sum of the steps of its lines, if the end of the session takes none
pub Reached-within : {State : Type 0} (session : Session State) (change : State → Option (List ℕ) → State) (cost : State → Option (List ℕ) → ℕ) → ChangesBy session change → CostsBy session cost
    → ((state : State) → session.end_cost state ≡ 0) → (first now : State) (taken : List ℕ) {steps steps_now : ℕ} (status : Status) → Reached session first now steps steps_now taken status
    → StepsWithin steps steps_now (summed_by change cost first (lines taken))
Reached-within session change cost changes costed none first now taken status reached =
    let sum = costs-summed session change cost changes costed (start first) (lines taken) in
    let end = none (stage_after session (start first) (lines taken)).state in
    (reached.later, omega (arith, reached.within, sum, end))
