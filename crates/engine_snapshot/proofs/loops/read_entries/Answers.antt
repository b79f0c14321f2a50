use Rattle.std.proofs.Common.{◌≡◌, ◌-◌, ◌++◌, ◌∷◌, [], List, Option, ap, arith, sym, ◌∙◌}
use Rattle.std.proofs.lemmas.List.{map-append}
use Rattle.snapshot_bytes.specs.Reading.{entry_at, many}
use Rattle.snapshot_bytes.specs.declared.rows.PlacedDeprecation.{PlacedDeprecation}
use Rattle.snapshot_bytes.specs.declared.rows.PlacedEntry.{PlacedEntry}
use Rattle.engine_snapshot.specs.Begun.{AreFine}
use Rattle.engine_snapshot.specs.Read.{with_placed}
use Rattle.engine_snapshot.proofs.EditLemmas.{handed_on}
use Rattle.engine_snapshot.proofs.PartsRead.{entry_lower}
use Rattle.engine_snapshot.proofs.ReadLemmas.{are_done, more_placed, no_placed, starts, steps, unput, unread}
use Rattle.engine_snapshot.proofs.loops.read_entries.Goals as goal

pub loop-init : goal.loop-init
loop-init g c =
    let none : c.args.count - 0 ≡ c.args.count = omega arith in
    record {
      are_put = starts with_placed no_placed c.args.engine.now _ _ (ap (λ n. many entry_at n c.args.cursor.now) none);
      deprecations_are = c.requires;
    }

pub returns-in_err-placed-clause-refused : goal.returns-in_err-placed-clause-refused
returns-in_err-placed-clause-refused g c =
    handed_on c.from_residual.result c.in_err-placed.field-0.0 _ c.from_residual.ensures.1 (unread entry_at more_placed c.args.count c.loop.counter c.loop.cursor c.loop.invariant.are_put AreFine c.take.new.cursor c.loop-test.true c.in_err-placed.ensures)

pub returns-in_err-put_entry-clause-refused : goal.returns-in_err-put_entry-clause-refused
returns-in_err-put_entry-clause-refused g c =
    handed_on c.from_residual-in_err-put_entry.result c.in_err-put_entry.field-0.0 _ c.from_residual-in_err-put_entry.ensures.1
    (unput entry_at more_placed c.args.count c.loop.counter c.loop.cursor c.loop.invariant.are_put AreFine c.loop-test.true c.in_ok-placed.ensures c.in_err-put_entry.ensures.refused)

pub loop-preserved : goal.loop-preserved
loop-preserved g c =
    let p = c.in_ok-placed.placed in
    let so_far = c.loop.invariant in
    record {
      are_put = steps entry_at more_placed c.args.count c.loop.counter c.loop.cursor so_far.are_put c.loop-test.true c.in_ok-placed.ensures c.in_ok-put_entry.ensures.ok;
      deprecations_are =
          c.in_ok-put_entry.ensures.deprecation ∙ ap (λ (ds : List (Option PlacedDeprecation)). ds ++ p.deprecation ∷ []) so_far.deprecations_are
          ∙ sym (map-append (λ (q : PlacedEntry). q.deprecation) so_far.are_put.rows (p ∷ []));
    }

pub returns-clause-ok : goal.returns-clause-ok
returns-clause-ok g c = record {
  are_put = are_done entry_at more_placed c.args.count c.loop.counter c.loop.cursor c.loop.invariant.are_put c.loop-test.false;
  deprecations_are = c.loop.invariant.deprecations_are;
}

pub put_entry-requires : goal.put_entry-requires
put_entry-requires g c = entry_lower c.loop.cursor c.in_ok-placed.placed c.take.new.cursor c.in_ok-placed.ensures
