use Rattle.std.proofs.Common.{◌≡◌, ◌-◌}
use Rattle.cpe_name.specs.Scanning.{list_at, none_given}
use Rattle.cpe_name.specs.Spans.{texts}
use Rattle.cpe_name.proofs.scan.scan_list.Given as goal

abbrev pub invariant-loop : goal.invariant-loop
invariant-loop l = list_at (11 - l.counter) (texts l.written) l.rest ≡ list_at 11 none_given l.bytes
