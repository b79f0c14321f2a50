use Rattle.std.proofs.Common.{◌≡◌, length}
use Rattle.cpe_values.specs.Spelling.{is_bare}
use Rattle.cpe_values.specs.Skipping.{skip_while}
use Rattle.cpe_values.specs.Scanning.{body_end}
use Rattle.cpe_values.proofs.scan.scan_body.Given as goal

abbrev pub invariant-loop-style : goal.invariant-loop-style
invariant-loop-style l = record { same : body_end l.style l.rest ≡ body_end l.style l.bytes; stops : skip_while (is_bare l.style) l.rest ≡ l.rest }

abbrev pub decreases-loop-style : goal.decreases-loop-style
decreases-loop-style l = length l.rest
