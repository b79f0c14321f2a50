-- Lemmas: the truth of a fact reference, in both modes by the ends of names.
use Rattle.std.proofs.Common.{◌≡◌, List, [], Bool, true, false, ◌||◌, refl, sym, ◌∙◌}
use Rattle.std.specs.List.{list_any}
use Rattle.cpe_rows.specs.cpe_name.Eleven.{Values}
use Rattle.cpe_relation.specs.NameRelation.{covers}
use Rattle.cpe_relation.specs.Maybe.{maybe}
use Rattle.cpe_rows.specs.Rows.{Rows}
use Rattle.cpe_rows.specs.Chains.{ends}
use Rattle.cpe_rows.specs.Verdict.{truth, is_followed, finds_item, fact_truth}
use Rattle.cpe_rows.specs.declared.entry.Entry.{Entry}
use Rattle.cpe_rows.specs.declared.statement.Mode.{Mode}
use Rattle.cpe_rows.specs.declared.statement.Mode.TheVariants.{Plain, Follow}
use Rattle.cpe_rows.proofs.Lists.{same_any}
use Rattle.certificate_check.specs.Leading.{followed, AreEndsOfName}

or_nothing : (b : Bool) → (b || false) ≡ b
or_nothing true = refl
or_nothing false = refl

-- the search for an item compares the ends of names, in both modes
pub found_is : (relates : Values → Values → Bool) (rows : Rows) (mode : Mode) (fact : Values)
    → finds_item relates rows mode fact ≡ list_any (is_followed relates (followed rows mode) fact) rows.items
found_is relates rows Plain fact =
    same_any (relates fact) (is_followed relates [] fact) rows.items (λ i m. sym (or_nothing (relates fact i || false) ∙ or_nothing (relates fact i)))
found_is relates rows Follow fact = refl

pub fact_is : (rows : Rows) (mode : Mode) (fact : Values) → fact_truth rows mode fact
    ≡ truth (list_any (is_followed covers (followed rows mode) fact) rows.items) (list_any (is_followed maybe (followed rows mode) fact) rows.items)
fact_is rows mode fact = λ j. truth (found_is covers rows mode fact j) (found_is maybe rows mode fact j)

-- a comparison of the found ends has the result of the definition
pub met_is : (relates : Values → Values → Bool) (es : List Entry) (fact item : Values) (fact_ends item_ends : List Values)
    → AreEndsOfName es fact fact_ends → AreEndsOfName es item item_ends
    → list_any (λ f. list_any (relates f) item_ends) fact_ends ≡ is_followed relates es fact item
met_is relates es fact item fact_ends item_ends of_fact of_item =
    of_fact (λ f. list_any (relates f) item_ends) ∙ (λ j. list_any (λ f. of_item (relates f) j) (ends es fact))
