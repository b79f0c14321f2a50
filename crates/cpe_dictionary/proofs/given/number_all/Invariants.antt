use Rattle.std.proofs.Common.{◌≡◌, ◌++◌, drop, map}
use Rattle.std.specs.List.{list_all}
use Rattle.cpe_dictionary.specs.Given.{may_have_deprecation}
use Rattle.cpe_dictionary.specs.Plans.{numbered_successors}
use Rattle.cpe_dictionary.proofs.given.number_all.Given as goal

abbrev pub invariant-loop-deprecation : goal.invariant-loop-deprecation
invariant-loop-deprecation l = record {
  numbers : l.all ++ map (numbered_successors l.dictionary) (drop l.deprecation-index l.deprecations) ≡ map (numbered_successors l.dictionary) l.deprecations;
  may : list_all (may_have_deprecation l.dictionary) (drop l.deprecation-index l.deprecations) ≡ list_all (may_have_deprecation l.dictionary) l.deprecations;
}
