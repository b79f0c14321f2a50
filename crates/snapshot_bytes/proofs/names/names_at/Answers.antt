use Rattle.std.proofs.Common.{ap, sym, ◌∙◌, Some, get_or}
use Rattle.snapshot_bytes.specs.declared.rows.PlacedEntry.{PlacedEntry}
use Rattle.snapshot_bytes.proofs.NameLemmas.{next_named, none_named, name_found, name_past}
use Rattle.snapshot_bytes.proofs.names.names_at.Goals as goal

pub returns-in_default-clause-refused : goal.returns-in_default-clause-refused
returns-in_default-clause-refused c =
    let k = get_or c.args.places.now c.loop-place.place-index 0 in
    λ is ns are. none_named c.args.entries.now c.args.places.now c.loop-place.place-index 0 ns c.loop-place-test.true (name_past c.args.entries.now k c.in_default.ensures.lookup.3) are

pub loop-place-preserved : goal.loop-place-preserved
loop-place-preserved c =
    let k = get_or c.args.places.now c.loop-place.place-index 0 in
    let found = name_found c.args.entries.now k c.in-Some.entry.now c.in-Some.ensures.lookup.3.0 in
    rw c.in_ok-push.ensures.ok (next_named c.args.entries.now c.args.places.now c.loop-place.place-index 0 c.loop-place.names c.in_ok-copy.field-0 c.loop-place-test.true c.loop-place.invariant
    (found ∙ ap (λ (e : PlacedEntry). Some e.name) (sym c.in-Some.ensures.lookup.1) ∙ ap (λ n. Some n) (sym c.in_ok-copy.ensures)))
