-- Lemmas: the facts that are unchanged if an item is added or removed.
use Rattle.std.proofs.Common.{◌≡◌, ◌||◌, List, [], ◌∷◌, Bool, true, false, cond, refl, ap, sym, ◌∙◌}
use Rattle.std.specs.List.{list_any}
use Rattle.cpe_name.specs.Eleven.{Values}
use Rattle.cpe_relation.specs.NameRelation.{covers}
use Rattle.cpe_relation.specs.Maybe.{maybe}
use Rattle.cpe_rows.specs.Names.{is_same}
use Rattle.cpe_rows.specs.Rows.{Rows}
use Rattle.cpe_rows.specs.After.{after, without_first}
use Rattle.cpe_rows.specs.Verdict.{truth, fact_truth, finds_item, is_followed}
use Rattle.cpe_rows.specs.declared.edit.Edit.TheVariants as edit
use Rattle.cpe_rows.specs.declared.statement.Mode.{Mode}
use Rattle.cpe_rows.specs.declared.statement.Mode.TheVariants.{Plain, Follow}
use Rattle.cpe_rows.proofs.Lists.{any_with_last}
use Rattle.cpe_rows.proofs.NameTests.{same_is}
use Rattle.cpe_rows.specs.Touching.{is_related, touches_item}
use Rattle.cpe_rows.proofs.Reaching.{are_apart_there}

found_by : (relates : Values → Values → Bool) (rows : Rows) (mode : Mode) (fact : Values)
    → finds_item relates rows mode fact ≡ list_any (is_related relates rows.entries mode fact) rows.items
found_by relates rows Plain fact = refl
found_by relates rows Follow fact = refl

pub by_items : (rows : Rows) (mode : Mode) (fact : Values) → fact_truth rows mode fact
    ≡ truth (list_any (is_related covers rows.entries mode fact) rows.items) (list_any (is_related maybe rows.entries mode fact) rows.items)
by_items rows mode fact = λ i. truth (found_by covers rows mode fact i) (found_by maybe rows mode fact i)

without_any : (p : Values → Bool) (n : Values) → p n ≡ false → (xs : List Values) → list_any p (without_first (is_same n) xs) ≡ list_any p xs
without_any p n h [] = refl
without_any p n h (x ∷ xs) = go (is_same n x) refl (without_any p n h xs) where
  go : (b : Bool) → is_same n x ≡ b → list_any p (without_first (is_same n) xs) ≡ list_any p xs
      → list_any p (cond b xs (x ∷ without_first (is_same n) xs)) ≡ (p x || list_any p xs)
  go true t later = let other : p x ≡ false = ap p (sym ((same_is n x).0 t)) ∙ h in λ i. sym other i || list_any p xs
  go false t later = ap (λ b. p x || b) later

-- If the fact is not related to the item, the item makes no difference to the fact.
module _ (relates : Values → Values → Bool) where
  found_added : (rows : Rows) (mode : Mode) (fact n : Values) → is_related relates rows.entries mode fact n ≡ false
      → finds_item relates (after rows (edit.Item n)) mode fact ≡ finds_item relates rows mode fact
  found_added rows Plain fact n h = any_with_last (relates fact) rows.items n h
  found_added rows Follow fact n h = any_with_last (is_followed relates rows.entries fact) rows.items n h

  found_dropped : (rows : Rows) (mode : Mode) (fact n : Values) → is_related relates rows.entries mode fact n ≡ false
      → finds_item relates (after rows (edit.DropItem n)) mode fact ≡ finds_item relates rows mode fact
  found_dropped rows Plain fact n h = without_any (relates fact) n h rows.items
  found_dropped rows Follow fact n h = without_any (is_followed relates rows.entries fact) n h rows.items

pub added : (rows : Rows) (mode : Mode) (fact n : Values) → touches_item rows.entries mode fact n ≡ false
    → fact_truth (after rows (edit.Item n)) mode fact ≡ fact_truth rows mode fact
added rows mode fact n h = let apart = are_apart_there rows.entries mode fact n h in
    λ i. truth (found_added covers rows mode fact n apart.0 i) (found_added maybe rows mode fact n apart.1 i)

pub dropped : (rows : Rows) (mode : Mode) (fact n : Values) → touches_item rows.entries mode fact n ≡ false
    → fact_truth (after rows (edit.DropItem n)) mode fact ≡ fact_truth rows mode fact
dropped rows mode fact n h = let apart = are_apart_there rows.entries mode fact n h in
    λ i. truth (found_dropped covers rows mode fact n apart.0 i) (found_dropped maybe rows mode fact n apart.1 i)
