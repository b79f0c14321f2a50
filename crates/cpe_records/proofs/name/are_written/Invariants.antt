use Rattle.std.proofs.Common.{◌≡◌, take}
use Rattle.std.specs.List.{list_all}
use Rattle.serde_json.specs.View.{view}
use Rattle.cpe_records.specs.Names.{is_written}
use Rattle.cpe_records.proofs.name.are_written.Given as goal

abbrev pub invariant-loop-json : goal.invariant-loop-json
invariant-loop-json l = l.all ≡ list_all (λ v. is_written l.format (view v)) (take l.json-index l.json_list)
