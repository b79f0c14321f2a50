use Rattle.std.proofs.Common.{Some, [], sym, subst}
use Rattle.cpe_rows.specs.Lawful.{IsLawful}
use Rattle.cpe_rows.specs.Rows.{Rows}
use Rattle.snapshot_bytes.specs.States.{Snap}
use Rattle.cpe_command.proofs.LoadLemmas.{Answers-refusal, Answers-state, first_left, state_left}
use Rattle.cpe_command.proofs.load.LoadListener.say.Goals as goal

-- the input is a snapshot, and its counts and verdicts were written
pub returns-in-Ok-clause-answers : goal.returns-in-Ok-clause-answers
returns-in-Ok-clause-answers g c =
    let lawful = subst (λ (rows : Rows). IsLawful rows) (sym c.put.ensures) c.lawful.ensures in
    let snap = subst (λ (rows : Rows). Snap rows c.args.input.now) (sym c.put.ensures) c.in-Ok.ensures.loaded in
    Answers-state c.write_state.result c.put.new.state c.args.input.now c.states_have_snapshots.ensures.clear lawful snap
    (c.write_state.ensures.ran (Some []))

pub returns-in-Ok-clause-leaves : goal.returns-in-Ok-clause-leaves
returns-in-Ok-clause-leaves g c =
    let snap = subst (λ (rows : Rows). Snap rows c.args.input.now) (sym c.put.ensures) c.in-Ok.ensures.loaded in
    state_left c.write_state.result c.args.state.now c.put.new.state c.args.input.now snap (c.write_state.ensures.ran (Some []))

-- the input is the snapshot of no rows
pub returns-in-Err-NotSnapshot-clause-answers : goal.returns-in-Err-NotSnapshot-clause-answers
returns-in-Err-NotSnapshot-clause-answers g c =
    Answers-refusal c.refuse.result c.args.input.now (c.in-Err-NotSnapshot.ensures.refused c.in-Err-NotSnapshot.field-0-is) (c.refuse.ensures.ran (Some []))

pub returns-in-Err-NotSnapshot-clause-leaves : goal.returns-in-Err-NotSnapshot-clause-leaves
returns-in-Err-NotSnapshot-clause-leaves g c = first_left c.refuse.result c.args.state.now c.args.input.now (c.refuse.ensures.ran (Some []))
