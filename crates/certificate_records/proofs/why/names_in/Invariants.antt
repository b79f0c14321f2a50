use Rattle.std.proofs.Common.{◌≡◌, take, map}
use Rattle.std.specs.Prelude.{Ok}
use Rattle.serde_json.specs.View.{view}
use Rattle.cpe_records.specs.FirstFault.{all_from}
use Rattle.certificate_records.specs.Reading.{certificate_name}
use Rattle.certificate_records.proofs.why.names_in.Given as goal

abbrev pub invariant-loop-json : goal.invariant-loop-json
invariant-loop-json l = all_from (λ k. certificate_name) 1 (map view (take l.json-index l.json_list)) ≡ Ok l.names
