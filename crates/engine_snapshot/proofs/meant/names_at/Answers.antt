use Rattle.std.proofs.Common.{get_or, map, ◌∙◌}
use Rattle.snapshot_bytes.proofs.NameLemmas.{next_named, none_named}
use Rattle.engine_snapshot.specs.Meant.{undeprecated}
use Rattle.engine_snapshot.proofs.EditLemmas.{handed_on}
use Rattle.engine_snapshot.proofs.MeantLemmas.{name_there}
use Rattle.engine_snapshot.proofs.meant.names_at.Goals as goal

pub returns-in_err-name-clause-refused : goal.returns-in_err-name-clause-refused
returns-in_err-name-clause-refused c =
    let es = c.args.engine.now.entries in
    let ks = c.args.places.now in
    let i = c.loop-place.place-index in
    handed_on c.from_residual-in_err-name.result c.in_err-name.field-0.0 _ c.from_residual-in_err-name.ensures.1
    (λ is ns are. none_named (map undeprecated es) ks i 0 ns c.loop-place-test.true (name_there es (get_or ks i 0) ∙ c.in_err-name.ensures.refused is) are)

pub loop-place-preserved : goal.loop-place-preserved
loop-place-preserved c =
    let es = c.args.engine.now.entries in
    let ks = c.args.places.now in
    let i = c.loop-place.place-index in
    rw c.in_ok-push.ensures.ok (next_named (map undeprecated es) ks i 0 c.loop-place.names c.in_ok-name.name c.loop-place-test.true c.loop-place.invariant
    (name_there es (get_or ks i 0) ∙ c.in_ok-name.ensures.named))
