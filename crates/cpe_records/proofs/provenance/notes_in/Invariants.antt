use Rattle.std.proofs.Common.{◌≡◌, take, map}
use Rattle.std.specs.Prelude.{Ok}
use Rattle.serde_json.specs.View.{view}
use Rattle.cpe_records.specs.Provenance.{note_in}
use Rattle.cpe_records.specs.Gives.{all_from}
use Rattle.cpe_records.proofs.provenance.notes_in.Given as goal

abbrev pub invariant-loop-json : goal.invariant-loop-json
invariant-loop-json l = all_from (λ n. note_in) 1 (map view (take l.json-index l.json_list)) ≡ Ok l.notes
