-- The first cause to refuse a statement.
use Rattle.std.proofs.Common.{◌≡◌, ℕ, ◌+◌, ◌≤◌, ◌<◌, ◌||◌, Bool, true, false, List, [], ◌∷◌, ◌++◌, length, refl, sym, ap, arith}
use Rattle.std.specs.Prelude.{nat_lt}
use Rattle.std.specs.List.{list_any}
use Rattle.std.proofs.lemmas.List.{length-map}
use Rattle.std.proofs.lemmas.Bool.Decides.{nat_tests}
use Rattle.cpe_rows.specs.Rows.{has_id}
use Rattle.cpe_rows.specs.FactNames.{number_of_facts}
use Rattle.cpe_rows.specs.Limits.{most}
use Rattle.cpe_rows.specs.Causes.{statement_causes}
use Rattle.cpe_rows.specs.Faults.{when}
use Rattle.cpe_rows.specs.Step.{first_some}
use Rattle.cpe_rows.specs.declared.fault.EditFault.TheVariants as fault
use Rattle.cpe_rows.specs.declared.fault.Which.TheVariants.{Facts, Statements}
use Rattle.cpe_rows.specs.declared.limits.TheConstants.{MOST_STATEMENTS}
use Rattle.cpe_rows.specs.declared.statement.Statement.{Statement}
use Rattle.statement_rows.specs.State.{StatementRow, is_of, statements_of}

abbrev statement_in : StatementRow → Statement
statement_in j = j.statement

pub any_statement : (id : List ℕ) (js : List StatementRow) → list_any (is_of id) js ≡ list_any (has_id id) (statements_of js)
any_statement id [] = refl
any_statement id (j ∷ js) = ap (λ (b : Bool). is_of id j || b) (any_statement id js)

pub fault_of : (ss : List Statement) (s : Statement) (there full many : Bool) → list_any (has_id s.id) ss ≡ there
    → nat_lt (most Statements) (length ss + 1) ≡ full → nat_lt (most Facts) (number_of_facts (ss ++ s ∷ [])) ≡ many
    → first_some (when there fault.Exists ∷ when full (fault.Full Statements) ∷ when many (fault.Full Facts) ∷ []) ≡ first_some (statement_causes ss s)
fault_of ss s there full many h f m = λ i. first_some (when (sym h i) fault.Exists ∷ when (sym f i) (fault.Full Statements) ∷ when (sym m i) (fault.Full Facts) ∷ [])

pub full_by : (n : ℕ) (js : List StatementRow) → n ≡ length js → MOST_STATEMENTS ≤ n → nat_lt (most Statements) (length (statements_of js) + 1) ≡ true
full_by n js e h =
    let long = length-map js statement_in in
    grind (arith, nat_tests)

pub not_full_by : (n : ℕ) (js : List StatementRow) → n ≡ length js → n < MOST_STATEMENTS → nat_lt (most Statements) (length (statements_of js) + 1) ≡ false
not_full_by n js e h =
    let long = length-map js statement_in in
    grind (arith, nat_tests)
