use Rattle.std.proofs.Common.{◌≡◌, ◌+◌, take, map}
use Rattle.std.specs.Prelude.{Ok}
use Rattle.serde_json.specs.View.{view}
use Rattle.cpe_records.specs.declared.member.Member.TheVariants as member
use Rattle.cpe_records.specs.declared.member.NameSpot.TheVariants as spot
use Rattle.cpe_records.specs.Names.{named_in}
use Rattle.cpe_records.specs.Gives.{all_from}
use Rattle.cpe_records.proofs.name.names_in.Given as goal

abbrev pub invariant-loop-json : goal.invariant-loop-json
invariant-loop-json l = (l.k ≡ 1 + l.json-index) × (all_from (λ k. named_in l.format member.Successors (spot.Successor k)) 1 (map view (take l.json-index l.json_list)) ≡ Ok l.names)
