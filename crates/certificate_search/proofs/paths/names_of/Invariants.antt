use Rattle.std.proofs.Common.{◌≡◌, map, take}
use Rattle.certificate_search.specs.declared.paths.StepRef.{StepRef}
use Rattle.certificate_search.proofs.paths.names_of.Given as goal

abbrev pub invariant-loop-step : goal.invariant-loop-step
invariant-loop-step l = l.names ≡ map (λ (s : StepRef). s.name.now) (take l.step-index l.steps)
