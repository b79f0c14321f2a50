use Rattle.std.proofs.Common.{◌≡◌, take, map}
use Rattle.std.specs.Prelude.{Ok}
use Rattle.serde_json.specs.Data.{depth}
use Rattle.serde_json.specs.View.{view}
use Rattle.cpe_records.specs.FirstFault.{all_from}
use Rattle.certificate_records.specs.Reading.{given_of}
use Rattle.certificate_records.proofs.why.+given_of.Given as goal

abbrev pub decreases-given_of : goal.decreases-given_of
decreases-given_of l = depth (view l.json.now)

abbrev pub invariant-loop-item : goal.invariant-loop-item
invariant-loop-item l = all_from (λ k. given_of) 1 (map view (take l.item-index l.items)) ≡ Ok l.of
