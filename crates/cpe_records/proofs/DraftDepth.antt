-- Lemmas: the depth of a logical test as a draft. The limit of the depth of tests is in cpe_rows/proofs/Within.
use Rattle.std.proofs.Common.{◌≡◌, ℕ, suc, map, List, Bool, ap, sym, ◌∙◌}
use Rattle.cpe_rows.specs.Shape.{largest}
use Rattle.cpe_rows.specs.declared.test.Operator.{Operator}
use Rattle.cpe_records.specs.declared.draft.Draft.{Draft, Logic}
use Rattle.cpe_records.specs.declared.draft.Draft.TheOpen.{Draft-F}
use Rattle.cpe_records.specs.declared.draft.Draft.TheVariants.{rolls-Logic}
use Rattle.cpe_records.specs.declared.draft.Draft.TheFolds.{fold-roll-Draft}
use Rattle.cpe_records.specs.Tests.{draft_depth, draft_depth_step}

pub draft_depth-logic : (operator : Operator) (negate : Bool) (of : List Draft) → draft_depth (Logic operator negate of) ≡ suc (largest (map draft_depth of))
draft_depth-logic operator negate of = ap draft_depth (sym (rolls-Logic operator negate of)) ∙ fold-roll-Draft ℕ draft_depth_step (Draft-F.Logic operator negate of)
