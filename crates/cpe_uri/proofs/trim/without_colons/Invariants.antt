use Rattle.std.proofs.Common.{◌≡◌, ◌≤◌, take}
use Rattle.cpe_uri.specs.Canon.{trimmed}
use Rattle.cpe_uri.proofs.trim.without_colons.Given as goal

abbrev pub invariant-loop-end : goal.invariant-loop-end
invariant-loop-end l = record {
  within : l.end ≤ l.fn.end;
  trimmed : trimmed 58 (take l.end l.text) ≡ trimmed 58 (take l.fn.end l.text);
}

abbrev pub decreases-loop-end : goal.decreases-loop-end
decreases-loop-end l = l.end
