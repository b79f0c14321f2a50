-- The certificate of a statement. If more than one is good, the definitions choose one.
use Rattle.std.specs.Prelude.{ℕ, zero, suc, List, [], ◌∷◌, map, length, filter, find, flat_map, Bool, Option, Some, None, option_map, slice_get, if◌then◌else◌}
use Rattle.std.specs.List.{list_any}
use Rattle.std.specs.Option.{option_map_or}
use Rattle.cpe_rows.specs.cpe_name.Eleven.{Values}
use Rattle.cpe_rows.specs.cpe_relation.NameRelation.{covers}
use Rattle.cpe_rows.specs.cpe_relation.Maybe.{maybe}
use Rattle.cpe_rows.specs.Names.{is_same}
use Rattle.cpe_rows.specs.Rows.{Rows}
use Rattle.cpe_rows.specs.Chains.{ends}
use Rattle.cpe_rows.specs.Evaluation.{joined, negated}
use Rattle.cpe_rows.specs.Truth.{same_truth}
use Rattle.cpe_rows.specs.Verdict.{check_truth}
use Rattle.cpe_rows.specs.declared.entry.Entry.{Entry}
use Rattle.cpe_rows.specs.declared.statement.Mode.{Mode}
use Rattle.cpe_rows.specs.declared.statement.Statement.{Statement}
use Rattle.cpe_rows.specs.declared.truth.Truth.{Truth}
use Rattle.cpe_rows.specs.declared.truth.Truth.TheVariants.{True, False, Unknown}
use Rattle.cpe_rows.specs.declared.test.Operator.{Operator}
use Rattle.cpe_rows.specs.declared.test.Test.{Test}
use Rattle.cpe_rows.specs.declared.test.Test.TheOpen.{Test-F}
use Rattle.cpe_rows.specs.declared.test.Test.TheFolds.{fold-Test}
use Rattle.certificate_check.specs.Certificates.{given_truth}
use Rattle.certificate_check.specs.Good.{deciding}
use Rattle.certificate_check.specs.Leading.{followed, next_of}
use Rattle.certificate_check.specs.declared.certificate.Certificate.{Certificate}
use Rattle.certificate_check.specs.declared.certificate.Why.{Why}
use Rattle.certificate_check.specs.declared.certificate.Why as why

-- ---- logical tests

-- whether the truth of a child's certificate alone decides the truth of the test
abbrev pub decides : Operator → Why → Bool
decides operator w = same_truth (deciding operator) (given_truth w)

-- the first element that passes; the other elements are replaced by `None`
abbrev pub first_alone : {A : Type 0} → (A → Bool) → List A → List (Option A)
first_alone passes [] = []
first_alone passes (x ∷ xs) = if passes x then Some x ∷ map (λ y. None) xs else None ∷ first_alone passes xs

-- only the first child that decides; if no child decides, all of them
abbrev pub chosen : Operator → List Why → List (Option Why)
chosen operator ws = if list_any (decides operator) ws then first_alone (decides operator) ws else map Some ws

-- ---- fits

-- an item, an end of the item, and an end of a fact
pub record Fit : Type 0 where
  pub item : Values
  pub item_end : Values
  pub fact_end : Values

-- the fits of an end of an item: one for each end of the fact that is related to it by `relates`
abbrev pub fits_at : (Values → Values → Bool) → List Values → Values → Values → List Fit
fits_at relates fact_ends item item_end =
    map (λ f. record { item = item; item_end = item_end; fact_end = f }) (filter (λ f. relates f item_end) fact_ends)

-- all fits of a fact, ordered by item, then by the item's end, then by the fact's end
abbrev pub fits : (Values → Values → Bool) → List Entry → List Values → Values → List Fit
fits relates entries items fact = flat_map (λ i. flat_map (fits_at relates (ends entries fact) i) (ends entries i)) items

-- the first fit of a fact
abbrev pub first_fit : (Values → Values → Bool) → List Entry → List Values → Values → Option Fit
first_fit relates entries items fact = slice_get (fits relates entries items fact) 0

-- ---- traces

-- whether the name `to` is an end of the name `n`
abbrev pub leads_to_end : List Entry → Values → Values → Bool
leads_to_end entries to n = list_any (is_same to) (ends entries n)

-- The names after a name on the path to an end. Each is the first successor of the name before it that has this end.
-- The first argument is the greatest number of names.
abbrev pub way_to : ℕ → List Entry → Values → Values → List Values
way_to zero entries to n = []
way_to (suc k) entries to n = option_map_or (λ s. s ∷ way_to k entries to s) (find (leads_to_end entries to) (next_of entries n)) []

-- The path from a name to an end of it. A path has at most as many steps as there are entries.
abbrev pub trace_to : List Entry → Values → Values → List Values
trace_to entries to n = n ∷ way_to (length entries) entries to n

-- ---- facts

-- the certificate of a fact by a fit, with the traces to both ends
abbrev pub why_of_pair : List Entry → Values → Truth → Fit → Why
why_of_pair entries fact truth fit = why.Pair truth (trace_to entries fit.fact_end fact) (trace_to entries fit.item_end fit.item)

-- a fact is TRUE by the first fit; otherwise UNKNOWN by the first fit of names that it may cover; otherwise FALSE,
-- without an item
abbrev pub why_by_fits : List Entry → Values → Option Fit → Option Fit → Why
why_by_fits entries fact (Some fit) other = why_of_pair entries fact True fit
why_by_fits entries fact None (Some fit) = why_of_pair entries fact Unknown fit
why_by_fits entries fact None None = why.Plain False

-- why a fact has its truth; in mode plain no entry is followed, and the end of a name is the name itself
abbrev pub fact_why : Rows → Mode → Values → Why
fact_why rows mode fact =
    let entries = followed rows mode in why_by_fits entries fact (first_fit covers entries rows.items fact) (first_fit maybe entries rows.items fact)

-- ---- the whole certificate

-- one level of a test, from the certificates of its children
abbrev pub explained_step : Rows → Mode → Test-F Why → Why
explained_step rows mode (Test-F.Logic operator negate of) = why.Logic (negated negate (joined operator (map given_truth of))) (chosen operator of)
explained_step rows mode (Test-F.Fact name) = fact_why rows mode name
explained_step rows mode (Test-F.Check key) = why.Plain (check_truth rows key)

abbrev pub why_of : Rows → Mode → Test → Why
why_of rows mode = fold-Test Why (explained_step rows mode)

-- the certificate of a statement
abbrev pub explained_certificate : Rows → Statement → Certificate
explained_certificate rows s = record { id = s.id; why = why_of rows s.mode s.test }

-- the certificate of the statement at a place, if there is a statement
abbrev pub explained : Rows → ℕ → Option Certificate
explained rows k = option_map (explained_certificate rows) (slice_get rows.statements k)
