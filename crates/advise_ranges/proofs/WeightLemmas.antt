-- How edits change the weight of items and advisories.
use Rattle.std.proofs.Common.{◌≡◌, ◌≤◌, ◌↔◌, length, ℕ, ◌+◌, ◌-◌, nat_lt, List, [], ◌∷◌, find, Bool, true, false, cond, not, refl, sym, ap, ◌∙◌, arith}
use Rattle.std.specs.Prelude.{Option, Some, None, IsTrue, option_map}
use Rattle.std.specs.Option.{option_map_or}
use Rattle.std.specs.List.{list_any}
use Rattle.std.proofs.lemmas.Bool.Decides.{nat_tests}
use Rattle.cpe_rows.specs.cpe_name.Eleven.{Values}
use Rattle.cpe_rows.specs.Names.{is_same, has_wildcards}
use Rattle.cpe_rows.specs.Step.{first_some}
use Rattle.cpe_rows.specs.Weight.{name_weight}
use Rattle.row_weight.specs.Capped.{capped}
use Rattle.row_weight.specs.Gain.{weight_of_first}
use Rattle.row_weight.proofs.Totals.{total-added, total-without, first-known}
use Rattle.cpe_rows.specs.declared.limits.TheConstants.{MOST_ITEMS, MOST_WEIGHT}
use Rattle.advise_ranges.specs.declared.limits.TheConstants.{MOST_ADVISORIES}
use Rattle.advise_ranges.specs.Rows.{AdviceRows, has_advisory_id, is_advice_item, is_advisory}
use Rattle.advise_ranges.specs.Kept.{IsWeight}
use Rattle.advise_ranges.specs.Weight.{advisory_weight, advice_weight}
use Rattle.advise_ranges.specs.Step.{after_advice, advice_faults, full_advice, full_advice_by, is_any_attribute, when_advice}
use Rattle.advise_ranges.specs.declared.advisory.Advisory.{Advisory}
use Rattle.advise_ranges.specs.declared.edit.AdviceEdit.{AdviceEdit}
use Rattle.advise_ranges.specs.declared.edit.AdviceEdit.TheVariants as edit
use Rattle.advise_ranges.specs.declared.edit.AdviceFault.{AdviceFault}
use Rattle.advise_ranges.specs.declared.edit.AdviceFault.TheVariants as fault
use Rattle.advise_ranges.specs.declared.edit.AdviceWhich.TheVariants as limit

-- ---- what is added

pub weighs_item : (rows : AdviceRows) (n : Values) → advice_weight (after_advice rows (edit.Item n)) ≡ advice_weight rows + name_weight n
weighs_item rows n = let one = total-added name_weight rows.items n in omega (arith, one)

pub weighs_put : (rows : AdviceRows) (a : Advisory) → advice_weight (after_advice rows (edit.Put a)) ≡ advice_weight rows + advisory_weight a
weighs_put rows a = let one = total-added advisory_weight rows.advisories a in omega (arith, one)

-- the kept number plus the weight that the edit adds, capped, is the weight after the edit, capped
pub weight_after : {number found : ℕ} {kept given : AdviceRows} (part : ℕ) (e : AdviceEdit) → found ≡ capped (number + part) → IsWeight number kept → advice_weight (after_advice kept e) ≡ advice_weight kept + part
    → kept ≡ given → found ≡ capped (advice_weight (after_advice given e))
weight_after {number} {found} {kept} {given} part e is weighs sum same =
    is
    ∙ ap (λ (w : ℕ). capped (w + part)) weighs.weighs
    ∙ ap capped (sym sum)
    ∙ ap (λ (r : AdviceRows). capped (advice_weight (after_advice r e))) same

-- ---- what is removed

pub weighs_drop_item : ((a b : Values) → IsTrue (is_same a b) ↔ (a ≡ b)) → (rows : AdviceRows) (n : Values) → list_any (is_same n) rows.items ≡ true
    → advice_weight (after_advice rows (edit.DropItem n)) + name_weight n ≡ advice_weight rows
weighs_drop_item equal rows n there =
    let all = total-without name_weight (is_same n) rows.items in
    let known = first-known name_weight (is_same n) (name_weight n) (λ m e. ap name_weight (sym ((equal n m).0 e))) rows.items there in
    omega (arith, all, known)

pub weighs_drop : (rows : AdviceRows) (id : List ℕ) → advice_weight (after_advice rows (edit.Drop id)) + weight_of_first advisory_weight (has_advisory_id id) rows.advisories ≡ advice_weight rows
weighs_drop rows id = let all = total-without advisory_weight (has_advisory_id id) rows.advisories in omega (arith, all)

-- ---- limits

pub uncapped : (n : ℕ) → n ≤ MOST_WEIGHT → capped n ≡ n
uncapped n h = grind arith

full_within : (items advisories heavy : ℕ) → full_advice_by items advisories heavy ≡ None → heavy ≤ MOST_WEIGHT
full_within items advisories heavy h = go (nat_lt MOST_ITEMS items) (nat_lt MOST_ADVISORIES advisories) (nat_lt MOST_WEIGHT heavy) refl h where
  go : (a b c : Bool) → nat_lt MOST_WEIGHT heavy ≡ c
      → option_map fault.Full (cond a (Some limit.Items) (cond b (Some limit.Advisories) (cond c (Some limit.Weight) None))) ≡ None → heavy ≤ MOST_WEIGHT
  go true b c e wrong = let no : ⊥ = cc in absurd no
  go false true c e wrong = let no : ⊥ = cc in absurd no
  go false false true e wrong = let no : ⊥ = cc in absurd no
  go false false false e same = grind (arith, nat_tests)

last_none : (a b : Bool) (f g : AdviceFault) (o : Option AdviceFault) → first_some (when_advice a f ∷ when_advice b g ∷ o ∷ []) ≡ None → o ≡ None
last_none true b f g o h = let no : ⊥ = cc in absurd no
last_none false true f g o h = let no : ⊥ = cc in absurd no
last_none false false f g None h = refl
last_none false false f g (Some x) h = let no : ⊥ = cc in absurd no

pub item_within : (rows : AdviceRows) (n : Values) → first_some (advice_faults rows (edit.Item n)) ≡ None → advice_weight (after_advice rows (edit.Item n)) ≤ MOST_WEIGHT
item_within rows n h = let next = after_advice rows (edit.Item n) in full_within (length next.items) (length next.advisories) (advice_weight next) (last_none (has_wildcards n) (is_advice_item rows n) fault.Wildcards fault.Exists (full_advice (after_advice rows (edit.Item n))) h)

pub put_within : (rows : AdviceRows) (a : Advisory) → first_some (advice_faults rows (edit.Put a)) ≡ None → advice_weight (after_advice rows (edit.Put a)) ≤ MOST_WEIGHT
put_within rows a h = let next = after_advice rows (edit.Put a) in full_within (length next.items) (length next.advisories) (advice_weight next) (last_none (not (is_any_attribute a.name.version)) (is_advisory rows a.id) fault.Version fault.Exists (full_advice (after_advice rows (edit.Put a))) h)

pub weight_kept : (number : ℕ) (next kept : AdviceRows) → number ≡ capped (advice_weight next) → advice_weight next ≤ MOST_WEIGHT → next ≡ kept → IsWeight number kept
weight_kept number next kept is within same =
    let exact : number ≡ advice_weight next = is ∙ uncapped (advice_weight next) within in
    record { weighs = exact ∙ ap advice_weight same; within = let small : advice_weight next ≤ MOST_WEIGHT = within in omega (arith, exact) }

-- the weight that an edit removes is at most the whole weight
pub part_known : (number lost part : ℕ) (rows next : AdviceRows) → IsWeight number rows → lost ≡ capped (0 + part) → advice_weight next + part ≡ advice_weight rows → lost ≡ part
part_known number lost part rows next kept is sum =
    let weighs = kept.weighs in
    let within = kept.within in
    let small : 0 + part ≤ MOST_WEIGHT = omega (arith, sum, weighs, within) in
    is ∙ uncapped (0 + part) small ∙ (omega arith)

pub less_lost : (number lost part : ℕ) (rows next : AdviceRows) → IsWeight number rows → lost ≡ capped (0 + part) → advice_weight next + part ≡ advice_weight rows → lost ≤ number
less_lost number lost part rows next kept is sum =
    let weighs = kept.weighs in
    let known = part_known number lost part rows next kept is sum in
    omega (arith, sum, weighs, known)

pub weight_left : (number lost part : ℕ) (rows next : AdviceRows) → IsWeight number rows → lost ≡ capped (0 + part) → advice_weight next + part ≡ advice_weight rows → IsWeight (number - lost) next
weight_left number lost part rows next kept is sum =
    let weighs = kept.weighs in
    let within = kept.within in
    let known = part_known number lost part rows next kept is sum in
    record { weighs = omega (arith, sum, weighs, known); within = omega (arith, sum, weighs, within, known) }

-- the weight of a kept advisory
pub weight_found : (number lost : ℕ) (rows : AdviceRows) (id : List ℕ) (a : Advisory) → IsWeight number rows → lost ≡ capped (0 + advisory_weight a) → Some a ≡ find (has_advisory_id id) rows.advisories
    → lost ≡ weight_of_first advisory_weight (has_advisory_id id) rows.advisories
weight_found number lost rows id a kept is found =
    let same : advisory_weight a ≡ weight_of_first advisory_weight (has_advisory_id id) rows.advisories = ap (λ (o : Option Advisory). option_map_or advisory_weight o 0) found in
    let sum : advice_weight (after_advice rows (edit.Drop id)) + advisory_weight a ≡ advice_weight rows = ap (λ (w : ℕ). advice_weight (after_advice rows (edit.Drop id)) + w) same ∙ weighs_drop rows id in
    part_known number lost (advisory_weight a) rows (after_advice rows (edit.Drop id)) kept is sum ∙ same

pub exactly_left : (number lost part : ℕ) (rows next : AdviceRows) → IsWeight number rows → lost ≡ part → advice_weight next + part ≡ advice_weight rows → IsWeight (number - lost) next
exactly_left number lost part rows next kept known sum =
    let weighs = kept.weighs in
    let within = kept.within in
    record { weighs = omega (arith, sum, weighs, known); within = omega (arith, sum, weighs, within, known) }

pub exactly_less : (number lost part : ℕ) (rows next : AdviceRows) → IsWeight number rows → lost ≡ part → advice_weight next + part ≡ advice_weight rows → lost ≤ number
exactly_less number lost part rows next kept known sum = let weighs = kept.weighs in omega (arith, sum, weighs, known)
