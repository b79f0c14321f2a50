-- Lemmas about a session over lines that are read: the invariant of its loop, and what a run leaves at each exit of the
-- loop.
use Rattle.std.proofs.Common.{◌≡◌, ℕ, ◌+◌, ◌-◌, ◌^◌, ◌<◌, ◌≤◌, Bool, true, false, List, [], ◌∷◌, ◌++◌, length, Option, Some, None, Ok, Err, OnOk, OnErr, is_err, is_none, IfSome, refl, sym, ap, ◌∙◌, subst, inl, inr, arith, append_assoc, append-nil, length-append}
use Rattle.std.specs.declared.result.Result.{Result}
use Rattle.std.proofs.lemmas.Bool.{true≢false}
use Rattle.std.specs.Io.KnownBytes.{Consumes, IsAtEnd}
use Rattle.std.proofs.KnownBytes.{Consumes-nil, Consumes-trans, Appends-nil, Appends-trans}
use Rattle.cpe_io.specs.declared.line.LineFault.{LineFault}
use Rattle.cpe_io.specs.declared.line.LineFault.TheVariants as fault
use Rattle.cpe_io.specs.declared.sink.SinkFault.{SinkFault}
use Rattle.cpe_io.specs.declared.sink.SinkFault.TheVariants as sink
use Rattle.cpe_io.specs.Lines.{has_newline, lines, whole_lines}
use Rattle.cpe_io.specs.Reading.{ReaderState, new_reading, IsLastLine, GivesLine, TakesBytes, FirstFault, IsCutShort}
use Rattle.cpe_io.specs.Writes.{BeginsWith, AppendsPrefix}
use Rattle.cpe_io.proofs.NewlineLemmas.{clean_prefix}
use Rattle.cpe_io.proofs.LineLemmas.{lines-cut, whole-cut, shorter-cut, lines-last, whole-none}
use Rattle.line_session.specs.declared.status.Status.{Status}
use Rattle.line_session.specs.declared.status.Status.TheVariants as status
use Rattle.line_session.specs.Session.{Session, Stage, next_says, next_writes, after_next, start, stage_after, out_from, next_cost}
use Rattle.line_session.specs.Task.{task, Transcript, Says, speech, spoken}
use Rattle.step_count.specs.Within.{StepsWithin}
use Rattle.line_session.specs.Pages.{Pours, Finishes, IsBeforeOrAfter}
use Rattle.line_session.specs.Ran.{Ran, HasWritten, Reached, StateAt, LeftByPrefix}
use Rattle.line_session.specs.Statuses.{of_line_fault, of_sink_fault}
use Rattle.line_session.proofs.Answered.{Answered, left_so_far, left_before_or_after, Answered-none, Answered-poured, Answered-line, answered_number, begins_prefix, begins_written, within_all, within_next, EndReported, Answered-ended}

-- The bytes `bytes` were taken, and the lines `seen` in them were answered. The reader keeps the rest of the bytes.
pub record Going {State : Type 0} (left0 left held0 held : Option (List ℕ)) (session : Session State) (first : State) (steps0 steps : ℕ) (reader : ReaderState) (text : List ℕ) (s : Stage State) : Type 0 where
  pub bytes : List ℕ
  pub seen : List (Option (List ℕ))
  pub answered : Answered held0 held session first steps0 steps seen text s
  pub took : Consumes left0 left bytes
  pub lines_go : (more : List ℕ) → (reader.ended ≡ true → more ≡ []) → lines (bytes ++ more) ≡ seen ++ lines (reader.kept ++ more)
  pub whole_go : reader.ended ≡ false → (more : List ℕ) → whole_lines (bytes ++ more) ≡ seen ++ whole_lines (reader.kept ++ more)
  pub few : length seen + length reader.kept ≤ length bytes
  pub taken : reader.taken ≡ length bytes
  pub within : reader.taken ≤ reader.budget
  pub budget : reader.budget ≡ 2 ^ 40
  pub fault : reader.fault ≡ None
  pub end : reader.ended ≡ true → IsAtEnd left
  pub below : reader.ended ≡ true → reader.taken < reader.budget

pub Going-start : {State : Type 0} (left held : Option (List ℕ)) (session : Session State) (first : State) (steps : ℕ) (reader : ReaderState) (text : List ℕ) (number : ℕ) (refused : Bool)
    → reader ≡ new_reading (2 ^ 40) → text ≡ [] → number ≡ 0 → refused ≡ false → Going left left held held session first steps steps reader text (record { number = number; refused = refused; state = first })
Going-start left held session first steps reader text number refused new none counted none_refused = record {
  bytes = [];
  seen = [];
  answered = Answered-none held session first steps text number refused none counted none_refused;
  took = Consumes-nil left;
  lines_go = λ more _. ap (λ (r : ReaderState). lines (r.kept ++ more)) (sym new);
  whole_go = λ _ more. ap (λ (r : ReaderState). whole_lines (r.kept ++ more)) (sym new);
  few = omega (arith, ap (λ (r : ReaderState). length r.kept) new);
  taken = ap (λ (r : ReaderState). r.taken) new;
  within = omega (arith, ap (λ (r : ReaderState). r.taken) new);
  budget = ap (λ (r : ReaderState). r.budget) new;
  fault = ap (λ (r : ReaderState). r.fault) new;
  end = λ ended. absurd (true≢false (sym ended ∙ ap (λ (r : ReaderState). r.ended) new));
  below = λ ended. absurd (true≢false (sym ended ∙ ap (λ (r : ReaderState). r.ended) new));
}

-- lemma: a run that did nothing, because memory ran out
pub Ran-start : {State : Type 0} (left held : Option (List ℕ)) (session : Session State) (first : State) (steps : ℕ) → Ran left left held held (task session first) (Reached session first first steps steps) status.Memory
Ran-start left held session first steps = record {
  taken = [];
  written = [];
  took = Consumes-nil left;
  wrote = Appends-nil held;
  present = tt;
  begins = begins_none left;
  besides = record { state = record { answered = []; later = lines []; splits = refl; state = refl }; later = omega arith; within = omega arith };
}
  where
    begins_none : (left : Option (List ℕ)) → IfSome left (λ (bytes : List ℕ). (it : Transcript) → Says (task session first) bytes it → BeginsWith it.text [])
    begins_none None = tt
    begins_none (Some bytes) = λ it says. record { rest = it.text; splits = refl }

sink_fault_kept : {State : Type 0} (fault : SinkFault) (session : Session State) (first : State) (left_now : Option (List ℕ)) (taken written : List ℕ) → HasWritten (task session first) left_now taken written (of_sink_fault fault)
sink_fault_kept sink.Failed session first left_now taken written = tt
sink_fault_kept sink.Memory session first left_now taken written = tt

ended_written : {State : Type 0} (ending : Status) (session : Session State) (first : State) (left_now : Option (List ℕ)) (taken written : List ℕ) → EndReported (spoken (speech session first) (lines taken)) written ending
    → IsAtEnd left_now → length taken < 2 ^ 40 → HasWritten (task session first) left_now taken written ending
ended_written status.Done session first left_now taken written reported end few = (reported, (end, few))
ended_written status.SomeRefused session first left_now taken written reported end few = (reported, (end, few))
ended_written status.WriteFault session first left_now taken written reported end few = tt
ended_written status.Memory session first left_now taken written reported end few = tt
ended_written status.Usage session first left_now taken written reported end few = absurd reported
ended_written status.ReadFault session first left_now taken written reported end few = absurd reported
ended_written status.Endless session first left_now taken written reported end few = absurd reported

-- lemma: after a fault of the sink, the session has the state after the first lines
sink_fault_left : {State : Type 0} (fault : SinkFault) (session : Session State) (first now : State) (taken : List ℕ) → LeftByPrefix session first now (lines taken) → StateAt session first now (lines taken) (whole_lines taken) (of_sink_fault fault)
sink_fault_left sink.Failed session first now taken left = left
sink_fault_left sink.Memory session first now taken left = left

module _ {State : Type 0} {left0 left held0 held : Option (List ℕ)} {session : Session State} {first : State} {steps0 steps : ℕ} {reader : ReaderState} {text : List ℕ} {s : Stage State}
    (going : Going left0 left held0 held session first steps0 steps reader text s) where
  -- lemma: the loop's invariant is still true after a prefix of the page was written to the sink
  pub Going-flushed : {held_now : Option (List ℕ)} {kept : List ℕ} → Pours held held_now text kept [] → Going left0 left held0 held_now session first steps0 steps reader kept s
  Going-flushed flushes = record {
    bytes = going.bytes;
    seen = going.seen;
    answered = Answered-poured going.answered flushes;
    took = going.took;
    lines_go = going.lines_go;
    whole_go = going.whole_go;
    few = going.few;
    taken = going.taken;
    within = going.within;
    budget = going.budget;
    fault = going.fault;
    end = going.end;
    below = going.below;
  }

  -- lemma: the number of lines is less than 2^64, because each line takes at least one byte
  pub number_is_small : s.number + 1 < 2 ^ 64
  number_is_small = omega (arith, going.few, going.taken, going.within, going.budget, answered_number going.answered)

  -- lemma: a text is a prefix of each transcript, if it is a prefix of what all lines write for all possible later
  -- lines
  begins_reported : (left_reported left_now : Option (List ℕ)) → Consumes left_reported left_now going.bytes → (reader.ended ≡ true → IsAtEnd left_now) → (written : List ℕ)
      → ((all later : List (Option (List ℕ))) → all ≡ going.seen ++ later → BeginsWith (spoken (speech session first) all).text written)
      → IfSome left_reported (λ (bytes : List ℕ). (it : Transcript) → Says (task session first) bytes it → BeginsWith it.text written)
  begins_reported None left_now took end written begins = tt
  begins_reported (Some b) None took end written begins = absurd took
  begins_reported (Some b) (Some l) took end written begins = λ it says.
      subst (λ (t : Transcript). BeginsWith t.text written) (sym says) (begins (lines b) (lines (reader.kept ++ l)) (ap lines took ∙ going.lines_go l end))

  -- lemma: the lines of the taken bytes begin with the lines that were answered
  lines_taken : lines going.bytes ≡ going.seen ++ lines (reader.kept ++ [])
  lines_taken = ap lines (sym (append-nil going.bytes)) ∙ going.lines_go [] (λ _. refl)

  -- lemma: a run ended because the sink had a fault
  pub Ran-sink_fault : {held_now : Option (List ℕ)} {status : Status} (fault : SinkFault) → status ≡ of_sink_fault fault
      → AppendsPrefix held held_now text → Ran left0 left held0 held_now (task session first) (Reached session first s.state steps0 steps) status
  Ran-sink_fault {held_now = held_now} fault is prefix =
      let answered = going.answered in
      let written = answered.written ++ prefix.prefix in
      record {
        taken = going.bytes;
        written = written;
        took = going.took;
        wrote = Appends-trans held0 held held_now answered.written prefix.prefix answered.wrote prefix.appends;
        present = subst (λ (st : Status). HasWritten (task session first) left going.bytes written st) (sym is) (sink_fault_kept fault session first left going.bytes written);
        begins = begins_reported left0 left going.took going.end written (λ all later splits. begins_prefix answered all later splits prefix.prefix prefix.begins);
        besides = record {
          state = subst (λ (st : Status). StateAt session first s.state (lines going.bytes) (whole_lines going.bytes) st) (sym is) (sink_fault_left fault session first s.state going.bytes (left_so_far answered (lines going.bytes) (lines (reader.kept ++ [])) lines_taken));
          later = answered.later;
          within = within_all answered (lines going.bytes) (lines (reader.kept ++ [])) lines_taken;
        };
      }

not_true : (b : Bool) → (b ≡ true → ⊥) → b ≡ false
not_true true never = absurd (never refl)
not_true false never = refl

clean_left : (xs ys : List ℕ) → has_newline (xs ++ ys) ≡ false → has_newline xs ≡ false
clean_left xs ys none = not_true (has_newline xs) (λ has. clean_prefix xs ys has none)

-- lemmas about a call of `find_line`
module _ {State : Type 0} {left0 left left_now held0 held : Option (List ℕ)} {session : Session State} {first : State} {steps0 steps : ℕ} {reader now : ReaderState} {text : List ℕ} {s : Stage State} {Said : List ℕ → Type 0}
    (going : Going left0 left held0 held session first steps0 steps reader text s) (takes : TakesBytes left left_now reader now Said)
    (ends : (reader.ended ≡ true → IsAtEnd left) → now.ended ≡ true → IsAtEnd left_now) (lower : now.ended ≡ true → now.taken < now.budget) where
  took_all : Consumes left0 left_now (going.bytes ++ takes.bytes)
  took_all = Consumes-trans left0 left left_now going.bytes takes.bytes going.took takes.took

  joined : (x : List ℕ) → (reader.ended ≡ true → takes.bytes ++ x ≡ []) → lines ((going.bytes ++ takes.bytes) ++ x) ≡ going.seen ++ lines ((reader.kept ++ takes.bytes) ++ x)
  joined x ended =
      ap lines (append_assoc going.bytes takes.bytes x) ∙ going.lines_go (takes.bytes ++ x) ended
      ∙ ap (λ (l : List ℕ). going.seen ++ lines l) (sym (append_assoc reader.kept takes.bytes x))

  joined_whole : reader.ended ≡ false → (x : List ℕ) → whole_lines ((going.bytes ++ takes.bytes) ++ x) ≡ going.seen ++ whole_lines ((reader.kept ++ takes.bytes) ++ x)
  joined_whole open_end x =
      ap whole_lines (append_assoc going.bytes takes.bytes x) ∙ going.whole_go open_end (takes.bytes ++ x)
      ∙ ap (λ (l : List ℕ). going.seen ++ whole_lines l) (sym (append_assoc reader.kept takes.bytes x))

  counted : now.taken ≡ length (going.bytes ++ takes.bytes)
  counted = omega (arith, takes.counts.taken, going.taken, length-append going.bytes takes.bytes)

  -- lemma: if the input is not at its end after the call, it was not before the call
  was_open : now.ended ≡ false → reader.ended ≡ false
  was_open open_end = not_true reader.ended (λ ended. true≢false (sym (takes.at_end ended).1 ∙ open_end))

  -- lemma: if the input was at its end before the call, the call takes no bytes and none follow
  none_more : (x : List ℕ) → (now.ended ≡ true → x ≡ []) → reader.ended ≡ true → takes.bytes ++ x ≡ []
  none_more x none ended =
      let at_end = takes.at_end ended in
      ap (λ (l : List ℕ). l ++ x) at_end.0 ∙ none at_end.1

  last_line : (line : Option (List ℕ)) → IsLastLine (reader.kept ++ takes.bytes) line → now.kept ≡ [] → (x : List ℕ) → x ≡ []
      → lines ((going.bytes ++ takes.bytes) ++ x) ≡ (going.seen ++ line ∷ []) ++ lines (now.kept ++ x)
  last_line line last kept x none =
      joined x (none_more x (λ _. none))
      ∙ ap (λ (l : List ℕ). going.seen ++ lines ((reader.kept ++ takes.bytes) ++ l)) none
      ∙ ap (λ (l : List ℕ). going.seen ++ lines l) (append-nil (reader.kept ++ takes.bytes))
      ∙ ap (λ (ls : List (Option (List ℕ))). going.seen ++ ls) (lines-last (reader.kept ++ takes.bytes) line last)
      ∙ sym (append-nil (going.seen ++ line ∷ []))
      ∙ ap (λ (l : List ℕ). (going.seen ++ line ∷ []) ++ lines l) (sym (ap (λ (l : List ℕ). l ++ x) kept ∙ none))

  few_more : (line : Option (List ℕ)) → GivesLine reader now takes.bytes (Some line) → length (going.seen ++ line ∷ []) + length now.kept ≤ length (going.bytes ++ takes.bytes)
  few_more line (inl cuts) =
      omega (arith, going.few, shorter-cut (reader.kept ++ takes.bytes) line now.kept cuts, length-append going.seen (line ∷ []), length-append going.bytes takes.bytes, length-append reader.kept takes.bytes)
  few_more line (inr last) =
      omega (arith, going.few, last.0.some_bytes, ap length last.1.kept, length-append going.seen (line ∷ []), length-append going.bytes takes.bytes, length-append reader.kept takes.bytes)

  -- lemma: the loop's invariant is true after one more line was answered
  pub Going-line : {text_now : List ℕ} {s_now : Stage State} {steps_now : ℕ} (line : Option (List ℕ)) → GivesLine reader now takes.bytes (Some line) → now.fault ≡ None
      → text_now ≡ text ++ next_writes session s line → s_now ≡ after_next session s line → StepsWithin steps steps_now (next_cost session s line) → Going left0 left_now held0 held session first steps0 steps_now now text_now s_now
  Going-line line gives fault text_is s_is counts = record {
    bytes = going.bytes ++ takes.bytes;
    seen = going.seen ++ line ∷ [];
    answered = Answered-line going.answered line text_is s_is counts;
    took = took_all;
    lines_go = λ x none. elim gives [
      | inl cuts ↦ joined x (none_more x none) ∙ ap (λ (l : List (Option (List ℕ))). going.seen ++ l) (lines-cut (reader.kept ++ takes.bytes) line now.kept cuts x)
          ∙ sym (append_assoc going.seen (line ∷ []) (lines (now.kept ++ x)))
      | inr last ↦ last_line line last.0 last.1.kept x (none last.1.ended)
    ];
    whole_go = λ open_end x. elim gives [
      | inl cuts ↦ joined_whole (was_open open_end) x ∙ ap (λ (l : List (Option (List ℕ))). going.seen ++ l) (whole-cut (reader.kept ++ takes.bytes) line now.kept cuts x)
          ∙ sym (append_assoc going.seen (line ∷ []) (whole_lines (now.kept ++ x)))
      | inr last ↦ absurd (true≢false (sym last.1.ended ∙ open_end))
    ];
    few = few_more line gives;
    taken = counted;
    within = takes.counts.within;
    budget = takes.counts.budget ∙ going.budget;
    fault = fault;
    end = ends going.end;
    below = lower;
  }

  -- lemma: each line decreases the bytes that can still be read, counting those that the reader keeps
  pub closer : (line : Option (List ℕ)) → GivesLine reader now takes.bytes (Some line) → (now.budget - now.taken) + length now.kept < (reader.budget - reader.taken) + length reader.kept
  closer line (inl cuts) =
      omega (arith, takes.counts.taken, takes.counts.within, takes.counts.budget, shorter-cut (reader.kept ++ takes.bytes) line now.kept cuts, length-append reader.kept takes.bytes)
  closer line (inr last) =
      omega (arith, takes.counts.taken, takes.counts.within, takes.counts.budget, last.0.some_bytes, ap length last.1.kept, length-append reader.kept takes.bytes)

  pub Going-said : {text_now : List ℕ} {s_now : Stage State} {steps_now : ℕ} (said : Option (Option (List ℕ))) → GivesLine reader now takes.bytes said → now.fault ≡ None → is_none said ≡ false
      → IfSome said (λ line. text_now ≡ text ++ next_writes session s line) → IfSome said (λ line. s_now ≡ after_next session s line) → IfSome said (λ line. StepsWithin steps steps_now (next_cost session s line))
      → Going left0 left_now held0 held session first steps0 steps_now now text_now s_now
  Going-said None gives fault some text_is s_is counts = absurd (true≢false some)
  Going-said (Some line) gives fault some text_is s_is counts = Going-line line gives fault text_is s_is counts

  pub closer_said : (said : Option (Option (List ℕ))) → GivesLine reader now takes.bytes said → is_none said ≡ false → (now.budget - now.taken) + length now.kept < (reader.budget - reader.taken) + length reader.kept
  closer_said None gives some = absurd (true≢false some)
  closer_said (Some line) gives some = closer line gives

  -- lemma: the lines of the taken bytes begin with the answered lines, and then have the lines of the rest
  lines_seen : lines (going.bytes ++ takes.bytes) ≡ going.seen ++ lines (reader.kept ++ takes.bytes)
  lines_seen =
      ap lines (sym (append-nil (going.bytes ++ takes.bytes))) ∙ joined [] (none_more [] (λ _. refl))
      ∙ ap (λ (l : List ℕ). going.seen ++ lines l) (append-nil (reader.kept ++ takes.bytes))

  lines_more : (line : Option (List ℕ)) → GivesLine reader now takes.bytes (Some line) → lines (going.bytes ++ takes.bytes) ≡ (going.seen ++ line ∷ []) ++ lines (now.kept ++ [])
  lines_more line (inl cuts) =
      ap lines (sym (append-nil (going.bytes ++ takes.bytes))) ∙ joined [] (none_more [] (λ _. refl))
      ∙ ap (λ (l : List (Option (List ℕ))). going.seen ++ l) (lines-cut (reader.kept ++ takes.bytes) line now.kept cuts [])
      ∙ sym (append_assoc going.seen (line ∷ []) (lines (now.kept ++ [])))
  lines_more line (inr last) = ap lines (sym (append-nil (going.bytes ++ takes.bytes))) ∙ last_line line last.0 last.1.kept [] refl

  begins_so_far : IfSome left0 (λ (bytes : List ℕ). (it : Transcript) → Says (task session first) bytes it → BeginsWith it.text going.answered.written)
  begins_so_far = begins_reported going left0 left going.took going.end going.answered.written (begins_written going.answered)

  -- lemma: a run ended because memory ran out
  pub Ran-memory : {state_now : State} {steps_now : ℕ} (said : Option (Option (List ℕ))) → GivesLine reader now takes.bytes said → is_none said ≡ false → IfSome said (λ line. IsBeforeOrAfter (next_says session s line) s.state state_now)
      → IfSome said (λ line. StepsWithin steps steps_now (next_cost session s line))
      → Ran left0 left_now held0 held (task session first) (Reached session first state_now steps0 steps_now) status.Memory
  Ran-memory None gives some left counts = absurd (true≢false some)
  Ran-memory (Some line) gives some left counts = record {
    taken = going.bytes ++ takes.bytes;
    written = going.answered.written;
    took = took_all;
    wrote = going.answered.wrote;
    present = tt;
    begins = begins_so_far;
    besides = record {
      state = left_before_or_after going.answered line left (lines (going.bytes ++ takes.bytes)) (lines (now.kept ++ [])) (lines_more line gives);
      later = omega (arith, going.answered.later, counts.0);
      within = within_next going.answered line (lines (going.bytes ++ takes.bytes)) (lines (now.kept ++ [])) (lines_more line gives) counts.1;
    };
  }

  whole_seen : IsCutShort reader now takes.bytes → whole_lines (going.bytes ++ takes.bytes) ≡ going.seen
  whole_seen short =
      let nothing : whole_lines (reader.kept ++ takes.bytes) ≡ [] = whole-none (reader.kept ++ takes.bytes) short.no_line in
      ap whole_lines (sym (append-nil (going.bytes ++ takes.bytes))) ∙ joined_whole (was_open short.open_end) []
      ∙ ap (λ (l : List ℕ). going.seen ++ whole_lines l) (append-nil (reader.kept ++ takes.bytes))
      ∙ ap (λ (ls : List (Option (List ℕ))). going.seen ++ ls) nothing ∙ append-nil going.seen

  cut_short : text ≡ [] → IsCutShort reader now takes.bytes → going.answered.written ≡ out_from session (start first) (whole_lines (going.bytes ++ takes.bytes))
  cut_short none short =
      sym (append-nil going.answered.written) ∙ ap (λ (l : List ℕ). going.answered.written ++ l) (sym none) ∙ going.answered.so_far ∙ ap (out_from session (start first)) (sym (whole_seen short))

  -- lemma: the session has the state after the whole lines, without a last line that was cut short
  cut_left : IsCutShort reader now takes.bytes → s.state ≡ (stage_after session (start first) (whole_lines (going.bytes ++ takes.bytes))).state
  cut_left short =
      ap (λ (t : Stage State). t.state) going.answered.stage ∙ ap (λ (ls : List (Option (List ℕ))). (stage_after session (start first) ls).state) (sym (whole_seen short))

  left_at : (fault : LineFault) → FirstFault reader now takes.bytes fault → StateAt session first s.state (lines (going.bytes ++ takes.bytes)) (whole_lines (going.bytes ++ takes.bytes)) (of_line_fault fault)
  left_at fault.Read first_fault = cut_left first_fault
  left_at fault.Endless first_fault = cut_left first_fault.0
  left_at fault.Memory first_fault = left_so_far going.answered (lines (going.bytes ++ takes.bytes)) (lines (reader.kept ++ takes.bytes)) lines_seen

  occurs_at : (fault : LineFault) → (has_newline reader.kept ≡ false → text ≡ []) → FirstFault reader now takes.bytes fault → HasWritten (task session first) left_now (going.bytes ++ takes.bytes) going.answered.written (of_line_fault fault)
  occurs_at fault.Read none first_fault = cut_short (none (clean_left reader.kept takes.bytes first_fault.no_line)) first_fault
  occurs_at fault.Endless none first_fault = (
    cut_short (none (clean_left reader.kept takes.bytes first_fault.0.no_line)) first_fault.0,
    sym counted ∙ first_fault.1 ∙ takes.counts.budget ∙ going.budget,
  )
  occurs_at fault.Memory none first_fault = tt

  -- lemma: a run ended because of a fault of the source or of the reader
  pub Ran-fault : {status : Status} (fault : LineFault) → status ≡ of_line_fault fault → (has_newline reader.kept ≡ false → text ≡ []) → FirstFault reader now takes.bytes fault
      → Ran left0 left_now held0 held (task session first) (Reached session first s.state steps0 steps) status
  Ran-fault fault is none first_fault = record {
    taken = going.bytes ++ takes.bytes;
    written = going.answered.written;
    took = took_all;
    wrote = going.answered.wrote;
    present = subst (λ (st : Status). HasWritten (task session first) left_now (going.bytes ++ takes.bytes) going.answered.written st) (sym is) (occurs_at fault none first_fault);
    begins = begins_so_far;
    besides = record {
      state = subst (λ (st : Status). StateAt session first s.state (lines (going.bytes ++ takes.bytes)) (whole_lines (going.bytes ++ takes.bytes)) st) (sym is) (left_at fault first_fault);
      later = going.answered.later;
      within = within_all going.answered (lines (going.bytes ++ takes.bytes)) (lines (reader.kept ++ takes.bytes)) lines_seen;
    };
  }

  all_seen : GivesLine reader now takes.bytes None → lines (going.bytes ++ takes.bytes) ≡ going.seen
  all_seen gives =
      ap lines (sym (append-nil (going.bytes ++ takes.bytes))) ∙ joined [] (none_more [] (λ _. refl))
      ∙ ap (λ (l : List ℕ). going.seen ++ lines l) (append-nil (reader.kept ++ takes.bytes) ∙ gives.0) ∙ append-nil going.seen

  begins_at_end : (left_reported left_end : Option (List ℕ)) → Consumes left_reported left_end (going.bytes ++ takes.bytes) → IsAtEnd left_end → (written : List ℕ)
      → BeginsWith (spoken (speech session first) (lines (going.bytes ++ takes.bytes))).text written
      → IfSome left_reported (λ (bytes : List ℕ). (it : Transcript) → Says (task session first) bytes it → BeginsWith it.text written)
  begins_at_end None left_end took end written begins = tt
  begins_at_end (Some b) None took end written begins = absurd took
  begins_at_end (Some b) (Some l) took end written begins = λ it says.
      let all = took ∙ ap (λ (r : List ℕ). (going.bytes ++ takes.bytes) ++ r) end ∙ append-nil (going.bytes ++ takes.bytes) in
      subst (λ (t : Transcript). BeginsWith t.text written) (sym (says ∙ ap (λ (bytes : List ℕ). spoken (speech session first) (lines bytes)) all)) begins

  few_at_end : GivesLine reader now takes.bytes None → length (going.bytes ++ takes.bytes) < 2 ^ 40
  few_at_end gives = omega (arith, counted, lower gives.1.ended, takes.counts.budget, going.budget)

  -- lemma: a run ended at the end of the input
  pub Ran-finish : {held_now : Option (List ℕ)} {steps_now : ℕ} (ending : Status) → GivesLine reader now takes.bytes None → IsAtEnd left_now → Finishes held held_now (text ++ session.ends s.state) s.refused ending
      → StepsWithin steps steps_now (session.end_cost s.state) → Ran left0 left_now held0 held_now (task session first) (Reached session first s.state steps0 steps_now) ending
  Ran-finish ending gives end finishes counts =
      let taken = going.bytes ++ takes.bytes in
      let ended = Answered-ended going.answered (lines taken) (all_seen gives) {whole_ones = whole_lines taken} counts ending finishes in
      record {
        taken = taken;
        written = ended.written;
        took = took_all;
        wrote = ended.wrote;
        present = ended_written ending session first left_now taken ended.written ended.reported end (few_at_end gives);
        begins = begins_at_end left0 left_now took_all end ended.written ended.begins;
        besides = ended.reached;
      }

-- lemma: if a result is an error, it has the property that errors have
pub on_err : {E : Type 0} (P : Type 0) (r : Result Unit E) → is_err r ≡ true → OnErr r P → P
on_err P (Ok x) err p = absurd (true≢false (sym err))
on_err P (Err e) err p = p

pub on_ok : {E : Type 0} (P : Type 0) (r : Result Unit E) → is_err r ≡ false → OnOk r P → P
on_ok P (Ok x) ok p = p
on_ok P (Err e) ok p = absurd (true≢false ok)

pub lent_none : (said : Option (Option (List ℕ))) → is_none said ≡ true → said ≡ None
lent_none None has = refl
lent_none (Some line) has = absurd (true≢false (sym has))
