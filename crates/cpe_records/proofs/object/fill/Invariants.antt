use Rattle.serde_json.specs.View.{view}
use Rattle.cpe_records.proofs.FilledNames.{Before}
use Rattle.cpe_records.proofs.object.fill.Given as goal

abbrev pub invariant-loop-which : goal.invariant-loop-which
invariant-loop-which l = Before (view l.json) l.which-index l.name
