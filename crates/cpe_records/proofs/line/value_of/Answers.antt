use Rattle.std.proofs.Common.{rules, sym}
use Rattle.serde_json.specs.View.{view}
use Rattle.cpe_records.proofs.LineLemmas.{line_read, line_refused}
use Rattle.cpe_records.proofs.line.value_of.Goals as goal

pub returns-in-Ok : goal.returns-in-Ok
returns-in-Ok c = sym (line_read c.args.line.now (view c.in-Ok.value) c.in-Ok.ensures.ok)

pub returns-else-is_memory : goal.returns-else-is_memory
returns-else-is_memory c = sym (line_refused c.args.line.now (c.in-Err.ensures.err (λ m. search rules)))
