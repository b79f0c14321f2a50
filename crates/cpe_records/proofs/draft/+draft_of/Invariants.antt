use Rattle.std.proofs.Common.{◌≡◌, take, map}
use Rattle.std.specs.Prelude.{Ok}
use Rattle.serde_json.specs.Data.{depth}
use Rattle.serde_json.specs.View.{view}
use Rattle.cpe_records.specs.Gives.{all_from}
use Rattle.cpe_records.specs.Tests.{draft_of}
use Rattle.cpe_records.proofs.draft.+draft_of.Given as goal

abbrev pub decreases-draft_of : goal.decreases-draft_of
decreases-draft_of l = depth (view l.json.now)

abbrev pub invariant-loop-item : goal.invariant-loop-item
invariant-loop-item l = all_from (λ k. draft_of l.format) 1 (map view (take l.item-index l.items)) ≡ Ok l.of
