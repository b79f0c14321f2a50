-- What follows for the lists of rows if an edit has no fault.
use Rattle.std.proofs.Common.{Bor, find, if◌then◌else◌, ◌||◌, ◌≡◌, ◌≤◌, ◌<◌, ◌+◌, ◌∙◌, ℕ, ap, sym, subst, zero-add, Bool, true, false, List, [], ◌∷◌, ◌++◌, length, arith, refl, Some, None}
use Rattle.std.proofs.Math.Nat.{min-eq_left}
use Rattle.std.proofs.lemmas.Bool.{le-ltb, lt-ltb, ltb-false}
use Rattle.std.proofs.lemmas.List.{append-nil}
use Rattle.std.specs.List.{list_any}
use Rattle.std.specs.Option.{option_copied}
use Rattle.std.specs.Prelude.{is_some, Option}
use Rattle.cpe_rows.specs.After.{after}
use Rattle.cpe_rows.specs.Causes.{heavy}
use Rattle.cpe_rows.specs.Faults.{when}
use Rattle.cpe_rows.specs.Limits.{AreWithin, most}
use Rattle.cpe_rows.specs.declared.limits.TheConstants.{MOST_WEIGHT}
use Rattle.cpe_rows.specs.Lawful.{IsLawful}
use Rattle.cpe_rows.specs.Rows.{Rows}
use Rattle.cpe_rows.specs.Step.{first_some}
use Rattle.cpe_rows.specs.Weight.{weight}
use Rattle.cpe_rows.specs.declared.edit.Edit.{Edit}
use Rattle.cpe_rows.specs.declared.fault.EditFault.{EditFault}
use Rattle.cpe_rows.specs.declared.fault.EditFault.TheVariants as fault
use Rattle.cpe_rows.specs.declared.fault.Which.TheVariants as limit
use Rattle.cpe_rows.proofs.Limited.{each_within}
use Rattle.row_weight.specs.Capped.{capped}
use Rattle.cpe_rows.specs.cpe_name.Eleven.{Values}
use Rattle.name_index.specs.Table.{kept_at, Names}
use Rattle.name_index.specs.declared.table.NameId.{NameId}
use Rattle.fact_laws.specs.Shown.{holds_in, name_at, names_at, Shows}
use Rattle.fact_laws.specs.Asked.{names_of_rows}
use Rattle.verdicts.specs.name_registry.Registered.{Registered}
use Rattle.verdicts.specs.Verdicts.{checks_in, HasVerdicts, statements_in, VerdictsNow}
use Rattle.engine_edits.specs.Parts.{AreLawfulParts, AreOf, rows_in}
use Rattle.engine_edits.specs.declared.parts.EngineParts.{EngineParts}

-- if no cause applies, this one doesn't, and none after it does
pub none_here : (b : Bool) (f : EditFault) (os : List (Option EditFault)) → first_some (when b f ∷ os) ≡ None → b ≡ false
none_here true f os h = let wrong : ⊥ = cc in absurd wrong
none_here false f os h = refl

pub none_behind : (b : Bool) (f : EditFault) (os : List (Option EditFault)) → first_some (when b f ∷ os) ≡ None → first_some os ≡ None
none_behind true f os h = let wrong : ⊥ = cc in absurd wrong
none_behind false f os h = h

-- ---- weights

-- a weight within the limit is counted exactly
pub counted : (n : ℕ) → n ≤ most limit.Weight → capped (0 + n) ≡ n
counted n h = ap capped (zero-add n) ∙ min-eq_left (omega (arith, h))

-- if the count of a weight is above the limit, the weight is
pub is_heavy : (rows : Rows) (e : Edit) (n : ℕ) → n ≡ capped (weight (after rows e)) → MOST_WEIGHT < n → heavy (after rows e) ≡ Some (fault.Full limit.Weight)
is_heavy rows e n counted above =
    let less : most limit.Weight < weight (after rows e) = omega (arith, counted, above) in
    ap (λ (b : Bool). when b (fault.Full limit.Weight)) (lt-ltb (most limit.Weight) (weight (after rows e)) less)

-- the weight of rows within their limits is within its limit
pub weight_within : (rows : Rows) → AreWithin rows → weight rows ≤ most limit.Weight
weight_within rows h = ltb-false (most limit.Weight) (weight rows) (each_within rows h limit.Weight)

-- The rows aren't too heavy, and the number is their weight.
pub record IsLight (next : Rows) (n : ℕ) : Type 0 where
  pub light : heavy next ≡ None
  pub exact : n ≡ weight next

-- if the count of a weight is within the limit, it is the weight
pub is_light : (next : Rows) (n : ℕ) → n ≡ capped (weight next) → n ≤ MOST_WEIGHT → IsLight next n
is_light next n counted below =
    let within : weight next ≤ most limit.Weight = omega (arith, counted, below) in
    record {
      light = ap (λ (b : Bool). when b (fault.Full limit.Weight)) (le-ltb (most limit.Weight) (weight next) within);
      exact = counted ∙ min-eq_left (omega (arith, within));
    }

-- ---- registry and verdicts of rows

pub rows_are : (p : EngineParts) (rows : Rows) (others : List Values) → AreOf p.registry p.verdicts rows others → rows_in p ≡ rows
rows_are p rows others a = λ k. record { entries = a.entries k; items = a.items k; statements = a.verdicts.statements k; checks = a.verdicts.checks k }

-- the parts keep lawful rows, and the weight that was counted for them
pub stay_kept : (made : EngineParts) (rows : Rows) (n : ℕ) → IsLawful rows → made.weight ≡ n → n ≡ weight rows → AreOf made.registry made.verdicts rows [] → AreLawfulParts made
stay_kept made rows n lawful weighed weighs are =
    let same = rows_are made rows [] are in
    record {
      lawful = subst IsLawful (sym same) lawful;
      weight = weighed ∙ weighs ∙ ap weight (sym same);
      are = subst (λ (x : Rows). AreOf made.registry made.verdicts x []) (sym same) are;
    }

-- the registry with other verdicts of the same rows
pub by_verdicts : (r : Registered) (v w : VerdictsNow) (rows : Rows) (others : List Values) → HasVerdicts r.table w rows → AreOf r v rows others → AreOf r w rows others
by_verdicts r v w rows others present a = record { entries = a.entries; items = a.items; held = a.held; verdicts = present }

-- the same table belongs to other rows, if these have the same names
pub by_lists : (old new : Registered) (v : VerdictsNow) (rows : Rows) (others : List Values) → new.table ≡ old.table → new.entries ≡ rows.entries → new.items ≡ rows.items
    → Shows old.table (holds_in old.table) (others ++ names_of_rows rows) → HasVerdicts old.table v rows → AreOf new v rows others
by_lists old new v rows others table entries items held verdicts = record {
  entries = entries;
  items = items;
  held = subst (λ (t : Names). Shows t (holds_in t) (others ++ names_of_rows rows)) (sym table) held;
  verdicts = subst (λ (t : Names). HasVerdicts t v rows) (sym table) verdicts;
}

-- one name is held besides the names of the rows
pub by_hold : (old new : Registered) (v : VerdictsNow) (rows : Rows) (id : NameId) (name : Values) → name_at new.table id ≡ name → new.entries ≡ old.entries → new.items ≡ old.items
    → Shows new.table (holds_in new.table) (name ∷ names_of_rows rows) → HasVerdicts new.table v rows → AreOf old v rows [] → AreOf new v rows (name_at new.table id ∷ [])
by_hold old new v rows id name named entries items held present a =
    subst (λ (n : Values). AreOf new v rows (n ∷ [])) (sym named) (record { entries = entries ∙ a.entries; items = items ∙ a.items; held = held; verdicts = present })

-- besides the names of the rows, only the names of these numbers are held
pub no_others : (r : Registered) (v : VerdictsNow) (rows : Rows) (ids lent : List NameId) → lent ≡ ids → AreOf r v rows (names_at r.table ids) → AreOf r v rows (names_at r.table lent ++ [])
no_others r v rows ids lent same a = subst (λ (ns : List Values). AreOf r v rows ns) (sym (ap (λ (xs : List NameId). names_at r.table xs ++ []) same ∙ append-nil (names_at r.table ids))) a

-- ---- no name is held too often

pub few_holds : (table : Names) (rows : Rows) → length (names_of_rows rows) ≤ 4000000 → ((id : ℕ) → holds_in table id ≤ length (names_of_rows rows)) → (id : ℕ) → (kept_at table id).holds < 4294967295
few_holds table rows kept few id = omega (arith, few id, kept)

-- the rows are the same, if their statements and results of checks are
pub same_rows : (r : Registered) (v w : VerdictsNow) → statements_in w ≡ statements_in v → checks_in w ≡ checks_in v
    → ◌≡◌ {A = Rows} (record { entries = r.entries; items = r.items; statements = statements_in v; checks = checks_in v }) (record { entries = r.entries; items = r.items; statements = statements_in w; checks = checks_in w })
same_rows r v w statements checks = λ k. record { entries = r.entries; items = r.items; statements = sym statements k; checks = sym checks k }

pub some_found : {A : Type 0} (p : A → Bool) (xs : List A) → is_some (find p xs) ≡ list_any p xs
some_found p [] = refl
some_found p (x ∷ xs) = by (p x) (some_found p xs)
  where
    by : (b : Bool) → is_some (find p xs) ≡ list_any p xs → is_some (if b then Some x else find p xs) ≡ (b || list_any p xs)
    by true h = refl
    by false h = h

pub some_copied : {A : Type 0} (o : Option (Bor A)) → is_some o ≡ is_some (option_copied o)
some_copied None = refl
some_copied (Some x) = refl
