use Rattle.std.proofs.Common.{ap, arith, sym, ◌∙◌}
use Rattle.snapshot_bytes.specs.Reading.{head_at}
use Rattle.engine_snapshot.proofs.EditLemmas.{handed_on}
use Rattle.engine_snapshot.proofs.SnapshotLemmas.{has_entries, has_head, has_others, is_snap}
use Rattle.engine_snapshot.proofs.read.read_snapshot.Goals as goal

pub returns-in_err-head-clause-refused : goal.returns-in_err-head-clause-refused
returns-in_err-head-clause-refused g c =
    handed_on c.from_residual.result c.in_err-head.field-0.0 _ c.from_residual.ensures.1
    (λ is rows lawful snap. has_head c.args.bytes.now rows snap (ap head_at (sym c.new-cursor.ensures) ∙ c.in_err-head.ensures.1))

pub returns-in_err-engine-clause-refused : goal.returns-in_err-engine-clause-refused
returns-in_err-engine-clause-refused g c =
    handed_on c.from_residual-in_err-engine.result c.in_err-engine.field-0.0 _ c.from_residual-in_err-engine.ensures.1
    (λ is rows lawful snap. has_entries c.args.bytes.now rows snap c.in_ok-head.head c.read_head.new.cursor (ap head_at (sym c.new-cursor.ensures) ∙ c.in_ok-head.ensures) lawful
    (c.in_err-engine.ensures.refused is))

pub returns-in-Ok-clause-loaded : goal.returns-in-Ok-clause-loaded
returns-in-Ok-clause-loaded g c =
    is_snap c.args.bytes.now c.in_ok-head.head c.read_head.new.cursor c.load_entries.new.cursor c.in_ok-engine.engine c.read_others.new.engine c.in-Ok.ensures.ok.0
    (λ i. omega (arith, c.type_inv.bytes i)) (ap head_at (sym c.new-cursor.ensures) ∙ c.in_ok-head.ensures) c.in_ok-engine.ensures.loaded c.in-Ok.ensures.ok.1

pub returns-in-Err-clause-refused : goal.returns-in-Err-clause-refused
returns-in-Err-clause-refused g c =
    λ is rows lawful snap. has_others c.args.bytes.now rows snap c.in_ok-head.head c.read_head.new.cursor (ap head_at (sym c.new-cursor.ensures) ∙ c.in_ok-head.ensures)
    c.load_entries.new.cursor c.in_ok-engine.engine c.in_ok-engine.ensures.loaded lawful (c.in-Err.ensures.refused (sym c.discard.ensures ∙ is))
