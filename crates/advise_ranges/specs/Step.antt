-- The result of an edit: its first fault, or else the rows that it leaves.
use Rattle.std.specs.Prelude.{◌≡◌, ℕ, ◌++◌, ◌∷◌, [], List, length, find, Bool, true, false, not, nat_lt, if◌then◌else◌, Option, Some, None, option_map, Result, Ok, Err, ⊤}
use Rattle.cpe_rows.specs.cpe_values.declared.value.Value.{Value}
use Rattle.cpe_rows.specs.cpe_values.declared.value.Value.TheVariants as value
use Rattle.cpe_rows.specs.Names.{is_same, has_wildcards}
use Rattle.cpe_rows.specs.After.{without_first}
use Rattle.cpe_rows.specs.Step.{first_some}
use Rattle.cpe_rows.specs.declared.limits.TheConstants.{MOST_ITEMS, MOST_WEIGHT}
use Rattle.advise_ranges.specs.declared.limits.TheConstants.{MOST_ADVISORIES}
use Rattle.advise_ranges.specs.Rows.{AdviceRows, has_advisory_id, is_advice_item, is_advisory}
use Rattle.advise_ranges.specs.Weight.{advice_weight}
use Rattle.advise_ranges.specs.declared.edit.AdviceEdit.{AdviceEdit}
use Rattle.advise_ranges.specs.declared.edit.AdviceEdit.TheVariants as edit
use Rattle.advise_ranges.specs.declared.edit.AdviceFault.{AdviceFault}
use Rattle.advise_ranges.specs.declared.edit.AdviceFault.TheVariants as fault
use Rattle.advise_ranges.specs.declared.edit.AdviceWhich.{AdviceWhich}
use Rattle.advise_ranges.specs.declared.edit.AdviceWhich.TheVariants as limit

-- ---- the rows that an accepted edit leaves

abbrev pub after_advice : AdviceRows → AdviceEdit → AdviceRows
after_advice rows (edit.Item n) = record rows { items = rows.items ++ n ∷ [] }
after_advice rows (edit.DropItem n) = record rows { items = without_first (is_same n) rows.items }
after_advice rows (edit.Put a) = record rows { advisories = rows.advisories ++ a ∷ [] }
after_advice rows (edit.Drop id) = record rows { advisories = without_first (has_advisory_id id) rows.advisories }

-- ---- limits

-- the limit: the greatest number that is allowed
abbrev pub most_advice : AdviceWhich → ℕ
most_advice limit.Items = MOST_ITEMS
most_advice limit.Advisories = MOST_ADVISORIES
most_advice limit.Weight = MOST_WEIGHT

-- what is limited, in the order in which it is tested
abbrev pub advice_limited : List AdviceWhich
advice_limited = limit.Items ∷ limit.Advisories ∷ limit.Weight ∷ []

-- the number that is limited: the number of items, the number of advisories, or the weight
abbrev pub number_by : ℕ → ℕ → ℕ → AdviceWhich → ℕ
number_by items advisories heavy limit.Items = items
number_by items advisories heavy limit.Advisories = advisories
number_by items advisories heavy limit.Weight = heavy

-- the first of these numbers that exceeds its limit, as a fault
abbrev pub full_advice_by : ℕ → ℕ → ℕ → Option AdviceFault
full_advice_by items advisories heavy = option_map fault.Full (find (λ w. nat_lt (most_advice w) (number_by items advisories heavy w)) advice_limited)

abbrev pub full_advice : AdviceRows → Option AdviceFault
full_advice rows = full_advice_by (length rows.items) (length rows.advisories) (advice_weight rows)

-- ---- faults

abbrev pub when_advice : Bool → AdviceFault → Option AdviceFault
when_advice b f = if b then Some f else None

abbrev pub is_any_attribute : Value → Bool
is_any_attribute value.Any = true
is_any_attribute value.Na = false
is_any_attribute (value.Text t) = false

-- the faults of each edit, in the order in which they are tested; an edit that removes something exceeds no limit
abbrev pub advice_faults : AdviceRows → AdviceEdit → List (Option AdviceFault)
advice_faults rows (edit.Item n) = when_advice (has_wildcards n) fault.Wildcards ∷ when_advice (is_advice_item rows n) fault.Exists ∷ full_advice (after_advice rows (edit.Item n)) ∷ []
advice_faults rows (edit.DropItem n) = when_advice (not (is_advice_item rows n)) fault.Unknown ∷ []
advice_faults rows (edit.Put a) = when_advice (not (is_any_attribute a.name.version)) fault.Version ∷ when_advice (is_advisory rows a.id) fault.Exists ∷ full_advice (after_advice rows (edit.Put a)) ∷ []
advice_faults rows (edit.Drop id) = when_advice (not (is_advisory rows id)) fault.Unknown ∷ []

-- ---- edits

abbrev pub unless_advice : Option AdviceFault → AdviceRows → Result AdviceRows AdviceFault
unless_advice (Some f) rows = Err f
unless_advice None rows = Ok rows

abbrev pub advise_step : AdviceRows → AdviceEdit → Result AdviceRows AdviceFault
advise_step rows e = unless_advice (first_some (advice_faults rows e)) (after_advice rows e)

-- the fault is the fault of the step, or memory ran out
abbrev pub RefusesAdvice : AdviceFault → Result AdviceRows AdviceFault → Type 0
RefusesAdvice fault.Memory stepped = ⊤
RefusesAdvice f stepped = stepped ≡ Err f

-- without a fault, the new rows are the rows that the step leaves; with a fault, or if memory ran out, they are the old rows
abbrev pub AdviceApplied : {A : Type 0} → AdviceRows → AdviceRows → AdviceEdit → Result A AdviceFault → Type 0
AdviceApplied old new e (Ok answer) = advise_step old e ≡ Ok new
AdviceApplied old new e (Err f) = (new ≡ old) × RefusesAdvice f (advise_step old e)
