-- A new statement, and the number of its facts.
use Rattle.std.proofs.Common.{◌≡◌, ◌+◌, ◌≤◌, List, [], ◌∷◌, ◌++◌, length, None, ap, arith}
use Rattle.std.specs.Prelude.{nat_lt}
use Rattle.std.specs.List.{flat_map, list_any}
use Rattle.std.proofs.lemmas.Bool.{ltb-false}
use Rattle.std.proofs.lemmas.List.Concat.{flat_map-append}
use Rattle.cpe_rows.specs.Causes.{statement_causes}
use Rattle.cpe_rows.specs.FactNames.{fact_names, number_of_facts}
use Rattle.cpe_rows.specs.Limits.{most}
use Rattle.cpe_rows.specs.Faults.{when}
use Rattle.cpe_rows.specs.Rows.{has_id}
use Rattle.cpe_rows.specs.Step.{first_some}
use Rattle.cpe_rows.specs.declared.fault.EditFault.TheVariants as fault
use Rattle.cpe_rows.specs.declared.fault.Which.TheVariants as limit
use Rattle.cpe_rows.specs.declared.statement.Statement.{Statement}
use Rattle.cpe_rows.specs.cpe_name.Eleven.{Values}
use Rattle.engine_edits.proofs.PartsLemmas.{none_behind, none_here}

length_both : (xs ys : List Values) → length (xs ++ ys) ≡ length xs + length ys
length_both [] ys = omega arith
length_both (x ∷ xs) ys = omega (arith, length_both xs ys)

-- a statement without a fault has no more facts than all statements may have
pub few_facts : (statements : List Statement) (s : Statement) → first_some (statement_causes statements s) ≡ None → length (fact_names s.test) ≤ most limit.Facts
few_facts statements s none =
    let last = when (nat_lt (most limit.Facts) (number_of_facts (statements ++ s ∷ []))) (fault.Full limit.Facts) ∷ [] in
    let second = none_behind (list_any (has_id s.id) statements) fault.Exists (when (nat_lt (most limit.Statements) (length statements + 1)) (fault.Full limit.Statements) ∷ last) none in
    let third = none_behind (nat_lt (most limit.Statements) (length statements + 1)) (fault.Full limit.Statements) last second in
    let few = none_here (nat_lt (most limit.Facts) (number_of_facts (statements ++ s ∷ []))) (fault.Full limit.Facts) [] third in
    let facts = λ (x : Statement). fact_names x.test in
    let sum = ap length (flat_map-append facts statements (s ∷ [])) in
    omega (arith, ltb-false (most limit.Facts) (number_of_facts (statements ++ s ∷ [])) few, sum, length_both (flat_map facts statements) (fact_names s.test ++ []), length_both (fact_names s.test) [])
