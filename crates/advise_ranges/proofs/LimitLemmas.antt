-- Rows within their limits stay within them after something is removed.
use Rattle.std.proofs.Common.{◌≡◌, ◌≤◌, ℕ, length, nat_lt, List, [], ◌∷◌, Bool, true, false, cond, refl, ap, ◌∙◌, arith}
use Rattle.std.specs.Prelude.{Some, None, option_map}
use Rattle.std.proofs.lemmas.Bool.Decides.{nat_tests}
use Rattle.cpe_rows.specs.cpe_name.Eleven.{Values}
use Rattle.cpe_rows.specs.After.{without_first}
use Rattle.cpe_rows.specs.Names.{is_same}
use Rattle.cpe_rows.specs.Weight.{name_weight}
use Rattle.row_weight.proofs.Totals.{total-without}
use Rattle.cpe_rows.specs.declared.limits.TheConstants.{MOST_ITEMS, MOST_WEIGHT}
use Rattle.advise_ranges.specs.declared.limits.TheConstants.{MOST_ADVISORIES}
use Rattle.advise_ranges.specs.Rows.{AdviceRows, has_advisory_id}
use Rattle.advise_ranges.specs.Weight.{advisory_weight, advice_weight}
use Rattle.advise_ranges.specs.Step.{after_advice, full_advice, full_advice_by}
use Rattle.advise_ranges.specs.declared.edit.AdviceEdit.TheVariants as edit
use Rattle.advise_ranges.specs.declared.edit.AdviceFault.TheVariants as fault
use Rattle.advise_ranges.specs.declared.edit.AdviceWhich.TheVariants as limit

-- The numbers are within their limits.
record AreWithin (items advisories heavy : ℕ) : Type 0 where
  items_within : items ≤ MOST_ITEMS
  advisories_within : advisories ≤ MOST_ADVISORIES
  heavy_within : heavy ≤ MOST_WEIGHT

within : (items advisories heavy : ℕ) → full_advice_by items advisories heavy ≡ None → AreWithin items advisories heavy
within items advisories heavy h = go (nat_lt MOST_ITEMS items) (nat_lt MOST_ADVISORIES advisories) (nat_lt MOST_WEIGHT heavy) refl refl refl h
  where
    go : (a b c : Bool) → nat_lt MOST_ITEMS items ≡ a → nat_lt MOST_ADVISORIES advisories ≡ b → nat_lt MOST_WEIGHT heavy ≡ c
        → option_map fault.Full (cond a (Some limit.Items) (cond b (Some limit.Advisories) (cond c (Some limit.Weight) None))) ≡ None → AreWithin items advisories heavy
    go true b c ea eb ec wrong = let no : ⊥ = cc in absurd no
    go false true c ea eb ec wrong = let no : ⊥ = cc in absurd no
    go false false true ea eb ec wrong = let no : ⊥ = cc in absurd no
    go false false false ea eb ec same = record { items_within = grind (arith, nat_tests); advisories_within = grind (arith, nat_tests); heavy_within = grind (arith, nat_tests) }

not_more : (most n : ℕ) → n ≤ most → nat_lt most n ≡ false
not_more most n h = grind (arith, nat_tests)

not_full : (items advisories heavy : ℕ) → AreWithin items advisories heavy → full_advice_by items advisories heavy ≡ None
not_full items advisories heavy h =
    ap (λ (a : Bool). option_map fault.Full (cond a (Some limit.Items) (cond (nat_lt MOST_ADVISORIES advisories) (Some limit.Advisories) (cond (nat_lt MOST_WEIGHT heavy) (Some limit.Weight) None)))) (not_more MOST_ITEMS items h.items_within)
    ∙ ap (λ (b : Bool). option_map fault.Full (cond b (Some limit.Advisories) (cond (nat_lt MOST_WEIGHT heavy) (Some limit.Weight) None))) (not_more MOST_ADVISORIES advisories h.advisories_within)
    ∙ ap (λ (c : Bool). option_map fault.Full (cond c (Some limit.Weight) None)) (not_more MOST_WEIGHT heavy h.heavy_within)

fewer : {A : Type 0} (p : A → Bool) (xs : List A) → length (without_first p xs) ≤ length xs
fewer p [] = omega arith
fewer p (x ∷ xs) = go (p x) (fewer p xs)
  where
    go : (b : Bool) → length (without_first p xs) ≤ length xs → length (cond b xs (x ∷ without_first p xs)) ≤ length (x ∷ xs)
    go true h = omega arith
    go false h = omega (arith, h)

pub drop_item_not_full : (rows : AdviceRows) (n : Values) → full_advice rows ≡ None → full_advice (after_advice rows (edit.DropItem n)) ≡ None
drop_item_not_full rows n h =
    let all = within (length rows.items) (length rows.advisories) (advice_weight rows) h in
    let less = fewer (is_same n) rows.items in
    let lighter = total-without name_weight (is_same n) rows.items in
    not_full (length (without_first (is_same n) rows.items)) (length rows.advisories) (advice_weight (after_advice rows (edit.DropItem n)))
    (record { items_within = omega (arith, all.items_within, less); advisories_within = all.advisories_within; heavy_within = omega (arith, all.heavy_within, lighter) })

pub drop_not_full : (rows : AdviceRows) (id : List ℕ) → full_advice rows ≡ None → full_advice (after_advice rows (edit.Drop id)) ≡ None
drop_not_full rows id h =
    let all = within (length rows.items) (length rows.advisories) (advice_weight rows) h in
    let less = fewer (has_advisory_id id) rows.advisories in
    let lighter = total-without advisory_weight (has_advisory_id id) rows.advisories in
    not_full (length rows.items) (length (without_first (has_advisory_id id) rows.advisories)) (advice_weight (after_advice rows (edit.Drop id)))
    (record { items_within = all.items_within; advisories_within = omega (arith, all.advisories_within, less); heavy_within = omega (arith, all.heavy_within, lighter) })
