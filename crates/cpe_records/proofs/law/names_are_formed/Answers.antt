use Rattle.std.proofs.Common.{List, [], ◌∷◌, Bool, sym, ap, ◌∙◌, subst}
use Rattle.std.specs.Prelude.{Result, Ok, Err, IfOk}
use Rattle.std.specs.List.{AllByRecursion, flat_map}
use Rattle.serde_json.specs.Data.{Data}
use Rattle.cpe_rows.specs.cpe_name.Eleven.{Values}
use Rattle.cpe_rows.specs.cpe_name.Names.{IsName}
use Rattle.cpe_rows.specs.FactNames.{fact_names, fact_names_step}
use Rattle.cpe_rows.specs.declared.test.CheckKey.{CheckKey}
use Rattle.cpe_rows.specs.declared.test.Operator.{Operator}
use Rattle.cpe_rows.specs.declared.test.Test as test
use Rattle.cpe_rows.specs.declared.test.Test.TheOpen.{Test-F}
use Rattle.cpe_rows.specs.declared.test.Test.TheFolds.{fold-roll-Test}
use Rattle.cpe_rows.specs.declared.test.Test.TheVariants as test_rolls
use Rattle.cpe_rows.proofs.TestNames.{names-logic}
use Rattle.cpe_records.specs.Tests.{key_in}
use Rattle.cpe_records.specs.declared.member.RecordFault.{RecordFault}
use Rattle.cpe_records.proofs.NamesRead.{name_is, successors_are}
use Rattle.cpe_records.proofs.BuiltTests.{all_joined, test_built}
use Rattle.cpe_records.proofs.law.names_are_formed.Goals as goal

pub returns-clause-name : goal.returns-clause-name
returns-clause-name c = name_is

pub returns-clause-successors : goal.returns-clause-successors
returns-clause-successors c = successors_are

abbrev HasNames : test.Test → Type 0
HasNames t = AllByRecursion IsName (fact_names t)

all_names : (ts : List test.Test) → AllByRecursion HasNames ts → AllByRecursion IsName (flat_map fact_names ts)
all_names [] h = tt
all_names (t ∷ ts) h = all_joined IsName (fact_names t) (flat_map fact_names ts) h.0 (all_names ts h.1)

logic_names : (o : Operator) (b : Bool) (ts : List test.Test) → AllByRecursion HasNames ts → HasNames (test.Logic o b ts)
logic_names o b ts h = subst (AllByRecursion IsName) (sym (names-logic o b ts)) (all_names ts h)

fact_names_are : (w : Values) → IsName w → HasNames (test.Fact w)
fact_names_are w h = subst (AllByRecursion IsName) (sym (ap fact_names (sym (test_rolls.rolls-Fact w)) ∙ fold-roll-Test (List Values) fact_names_step (Test-F.Fact w))) (h, tt)

check_names : (key : CheckKey) → Unit {0} → HasNames (test.Check key)
check_names key h = subst (AllByRecursion IsName) (sym (ap fact_names (sym (test_rolls.rolls-Check key)) ∙ fold-roll-Test (List Values) fact_names_step (Test-F.Check key))) tt

any_key : (d : Data) → Unit {0} → IfOk (key_in d) (λ key. Unit {0})
any_key d h = by (key_in d) where
  by : (r : Result CheckKey RecordFault) → IfOk r (λ key. Unit {0})
  by (Ok key) = tt
  by (Err e) = tt

pub returns-clause-test : goal.returns-clause-test
returns-clause-test c f d =
    test_built (λ e. Unit {0}) (λ ds. Unit {0}) (λ ms. Unit {0}) (λ ds h. tt) (λ ms h. tt) (λ e ds h. (tt, tt)) (λ k e ms h. (tt, tt)) (λ key. Unit {0}) any_key HasNames logic_names fact_names_are check_names f d tt
