-- The input determines what `load` writes, and this was written.
use Rattle.std.proofs.Common.{◌≡◌, ℕ, ◌<◌, ◌≤◌, length, arith, List, [], ◌++◌, Option, Some, refl, sym, ap, ◌∙◌, inl, inr, subst, append_assoc}
use Rattle.cpe_io.specs.Writes.{AppendsPrefix}
use Rattle.cpe_rows.specs.Lawful.{IsLawful}
use Rattle.cpe_rows.specs.Rows.{Rows}
use Rattle.snapshot_bytes.specs.States.{most_bytes, Snap, StatesAreClear}
use Rattle.line_session.specs.Heard.{AnswersRun}
use Rattle.line_session.specs.Pages.{Pours}
use Rattle.line_session.specs.Ran.{Ran, Anything}
use Rattle.line_session.specs.Task.{Transcript, Fixed}
use Rattle.line_session.specs.declared.status.Status.{Status}
use Rattle.line_session.specs.declared.status.Status.TheVariants as ending
use Rattle.line_session.proofs.Pouring.{Pours-put, Pours-trans}
use Rattle.line_session.proofs.Runs.{Answers-written}
use Rattle.cpe_command.specs.Loading.{IsNoSnapshot, load_says, LoadLeaves, refusal_reported, state_reported}

-- for the snapshot of lawful rows nothing else can be written, because it is the snapshot of no other rows
reported_only : (rows : Rows) (bytes : List ℕ) → StatesAreClear → IsLawful rows → Snap rows bytes
    → (it : Transcript) → load_says bytes it → it ≡ state_reported rows
reported_only rows bytes clear lawful snap it (inl reports) = reports.reported ∙ ap state_reported (clear reports.rows rows bytes reports.snap snap)
reported_only rows bytes clear lawful snap it (inr none) = absurd (none.0 rows lawful snap)

refused_only : (bytes : List ℕ) → IsNoSnapshot bytes → (it : Transcript) → load_says bytes it → it ≡ refusal_reported
refused_only bytes none it (inl reports) = absurd (none reports.rows reports.lawful reports.snap)
refused_only bytes none it (inr reported) = reported.1

done_is_not_usage : ◌≡◌ {A = Status} ending.Done ending.Usage → ⊥
done_is_not_usage same = cc

done_is_not_refused : ◌≡◌ {A = Status} ending.Done ending.SomeRefused → ⊥
done_is_not_refused same = cc

refused_is_not_usage : ◌≡◌ {A = Status} ending.SomeRefused ending.Usage → ⊥
refused_is_not_usage same = cc

module _ {held held_now : Option (List ℕ)} (status : Status) where
  pub Answers-state : (rows : Rows) (bytes : List ℕ) → StatesAreClear → IsLawful rows → Snap rows bytes
      → Ran (Some []) (Some []) held held_now (Fixed (state_reported rows)) Anything status → AnswersRun held held_now (load_says bytes) status
  Answers-state rows bytes clear lawful snap ran =
      Answers-written {all = state_reported rows} {Says_it = load_says bytes} status ran done_is_not_usage
      (inl (record { rows = rows; lawful = lawful; snap = snap; reported = refl })) (reported_only rows bytes clear lawful snap)

  pub Answers-refusal : (bytes : List ℕ) → IsNoSnapshot bytes
      → Ran (Some []) (Some []) held held_now (Fixed refusal_reported) Anything status → AnswersRun held held_now (load_says bytes) status
  Answers-refusal bytes none ran =
      Answers-written {all = refusal_reported} {Says_it = load_says bytes} status ran refused_is_not_usage (inr (none, refl)) (refused_only bytes none)

-- more bytes than any snapshot has are no snapshot
pub too_long : (bytes : List ℕ)
    → ((rows : Rows) (bytes : List ℕ) → IsLawful rows → Snap rows bytes → length bytes ≤ most_bytes)
    → most_bytes < length bytes → IsNoSnapshot bytes
too_long bytes within longer rows lawful snap = absurd (omega (arith, within rows bytes lawful snap, longer))

-- the rows of the snapshot are left
pub state_left : {held held_now : Option (List ℕ)} (status : Status) (first now : Rows) (bytes : List ℕ) → Snap now bytes
    → Ran (Some []) (Some []) held held_now (Fixed (state_reported now)) Anything status → LoadLeaves first now bytes status
state_left ending.Done first now bytes snap ran = snap
state_left ending.SomeRefused first now bytes snap ran = absurd (done_is_not_refused (sym (ap (λ (it : Transcript). it.status) ran.present.0)))
state_left ending.Usage first now bytes snap ran = absurd (done_is_not_usage (sym (ap (λ (it : Transcript). it.status) ran.present.0)))
state_left ending.ReadFault first now bytes snap ran = absurd ran.present
state_left ending.WriteFault first now bytes snap ran = inr snap
state_left ending.Memory first now bytes snap ran = inr snap
state_left ending.Endless first now bytes snap ran = absurd ran.present.0

-- the first rows are left
pub first_left : {held held_now : Option (List ℕ)} (status : Status) (first : Rows) (bytes : List ℕ)
    → Ran (Some []) (Some []) held held_now (Fixed refusal_reported) Anything status → LoadLeaves first first bytes status
first_left ending.Done first bytes ran = absurd (done_is_not_refused (ap (λ (it : Transcript). it.status) ran.present.0))
first_left ending.SomeRefused first bytes ran = refl
first_left ending.Usage first bytes ran = absurd (refused_is_not_usage (sym (ap (λ (it : Transcript). it.status) ran.present.0)))
first_left ending.ReadFault first bytes ran = absurd ran.present
first_left ending.WriteFault first bytes ran = inl refl
first_left ending.Memory first bytes ran = inl refl
first_left ending.Endless first bytes ran = absurd ran.present.0

module _ {held held_now : Option (List ℕ)} (page page_then text more : List ℕ) (put : page_then ≡ page ++ text) where
  -- if one text was appended to the page, and then another, both were appended
  pub Pours-put_more : {page_now : List ℕ} → Pours held held_now page_then page_now more → Pours held held_now page page_now (text ++ more)
  Pours-put_more pours = Pours-trans (Pours-put held page page_then text put) pours

  -- if a prefix of the page and the second text was written, it is a prefix of both texts after the earlier page
  pub prefix_put_more : AppendsPrefix held held_now (page_then ++ more) → AppendsPrefix held held_now (page ++ (text ++ more))
  prefix_put_more = subst (λ (l : List ℕ). AppendsPrefix held held_now l) (ap (λ (l : List ℕ). l ++ more) put ∙ append_assoc page text more)
