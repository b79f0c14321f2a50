-- Lemmas: the names of a test's facts, from those of its children.
use Rattle.std.proofs.Common.{◌≡◌, List, Bool, ap, sym, ◌∙◌}
use Rattle.std.proofs.lemmas.List.Folds.{flat_map-map}
use Rattle.std.specs.List.{flat_map}
use Rattle.cpe_name.specs.Eleven.{Values}
use Rattle.cpe_rows.specs.FactNames.{fact_names, fact_names_step}
use Rattle.cpe_rows.specs.declared.test.Operator.{Operator}
use Rattle.cpe_rows.specs.declared.test.Test.{Test, Logic}
use Rattle.cpe_rows.specs.declared.test.Test.TheFolds.{fold-roll-Test}
use Rattle.cpe_rows.specs.declared.test.Test.TheVariants.{rolls-Logic}
use Rattle.cpe_rows.specs.declared.test.Test.TheOpen.{Test-F}

pub names-logic : (operator : Operator) (negate : Bool) (of : List Test)
    → fact_names (Logic operator negate of) ≡ flat_map fact_names of
names-logic operator negate of =
    ap fact_names (sym (rolls-Logic operator negate of))
    ∙ (fold-roll-Test (List Values) fact_names_step (Test-F.Logic operator negate of) ∙ flat_map-map (λ names. names) fact_names of)
