-- Lemmas: rows within their limits stay so if no number of the rows grows, such as after a removal.
use Rattle.std.proofs.Common.{◌≡◌, ℕ, ◌+◌, ◌≤◌, suc, List, [], ◌∷◌, ◌++◌, Bool, true, false, nat_lt, cond, length, map, None, refl, ap, inl, inr, arith}
use Rattle.std.specs.List.{flat_map}
use Rattle.std.proofs.lemmas.Bool.Decides.{nat_tests}
use Rattle.std.proofs.lemmas.List.{length-append}
use Rattle.cpe_name.specs.Eleven.{Values}
use Rattle.cpe_rows.specs.Names.{is_same}
use Rattle.cpe_rows.specs.Rows.{Rows, has_id, has_key}
use Rattle.cpe_rows.specs.Reach.{Among}
use Rattle.cpe_rows.specs.FactNames.{fact_names}
use Rattle.cpe_rows.specs.Weight.{total_weight, entry_weight, name_weight, statement_weight, check_weight}
use Rattle.cpe_rows.specs.Limits.{limited, exceeds, most, number_of, AreWithin}
use Rattle.cpe_rows.specs.After.{after, without_first}
use Rattle.cpe_rows.specs.Faults.{when}
use Rattle.cpe_rows.specs.Causes.{heavy}
use Rattle.cpe_rows.specs.declared.edit.Edit.TheVariants as edit
use Rattle.cpe_rows.specs.declared.fault.EditFault.TheVariants as fault
use Rattle.cpe_rows.specs.declared.fault.Which.{Which}
use Rattle.cpe_rows.specs.declared.fault.Which.TheVariants as limit
use Rattle.cpe_rows.specs.declared.test.CheckKey.{CheckKey}
use Rattle.cpe_rows.proofs.Lists.{no_element, not_element}

each_limit : (which : Which) → Among limited which
each_limit limit.Entries = inl refl
each_limit limit.Items = inr (inl refl)
each_limit limit.Statements = inr (inr (inl refl))
each_limit limit.Facts = inr (inr (inr (inl refl)))
each_limit limit.Checks = inr (inr (inr (inr (inl refl))))
each_limit limit.Weight = inr (inr (inr (inr (inr (inl refl)))))

pub each_within : (rows : Rows) → AreWithin rows → (which : Which) → exceeds rows which ≡ false
each_within rows h which = not_element (exceeds rows) limited h which (each_limit which)

-- A number that isn't above a limit stays so if it becomes smaller.
not_above : (m n k : ℕ) → k ≤ n → nat_lt m n ≡ false → nat_lt m k ≡ false
not_above m n k t h = grind (arith, nat_tests)

-- No number of the next rows is greater than before.
abbrev pub AreFewer : Rows → Rows → Type 0
AreFewer rows next = (which : Which) → number_of which next ≤ number_of which rows

module _ (rows next : Rows) (fewer : AreFewer rows next) (h : AreWithin rows) where
  still : (which : Which) → exceeds next which ≡ false
  still which = not_above (most which) (number_of which rows) (number_of which next) (fewer which) (each_within rows h which)

  pub still_within : AreWithin next
  still_within = no_element (exceeds next) limited (λ which m. still which)

  pub not_heavy : heavy next ≡ None
  not_heavy = ap (λ b. when b (fault.Full limit.Weight)) (still limit.Weight)

-- ---- a list without the first element that passes

module _ {A : Type 0} (p : A → Bool) where
  no_more_but_first : (xs : List A) → length (without_first p xs) ≤ length xs
  no_more_but_first [] = grind arith
  no_more_but_first (x ∷ xs) = go (p x) (no_more_but_first xs) where
    go : (b : Bool) → length (without_first p xs) ≤ length xs → length (cond b xs (x ∷ without_first p xs)) ≤ suc (length xs)
    go true t = grind arith
    go false t = grind arith

  no_more_of : {B : Type 0} (f : A → List B) (xs : List A) → length (flat_map f (without_first p xs)) ≤ length (flat_map f xs)
  no_more_of f [] = grind arith
  no_more_of f (x ∷ xs) = go (p x) (no_more_of f xs) where
    go : (b : Bool) → length (flat_map f (without_first p xs)) ≤ length (flat_map f xs) → length (flat_map f (cond b xs (x ∷ without_first p xs))) ≤ length (f x ++ flat_map f xs)
    go true t = let e = length-append (f x) (flat_map f xs) in grind arith
    go false t = let e = length-append (f x) (flat_map f xs) in let d = length-append (f x) (flat_map f (without_first p xs)) in grind arith

  no_heavier : (f : A → ℕ) (xs : List A) → total_weight (map f (without_first p xs)) ≤ total_weight (map f xs)
  no_heavier f [] = grind arith
  no_heavier f (x ∷ xs) = go (p x) (no_heavier f xs) where
    go : (b : Bool) → total_weight (map f (without_first p xs)) ≤ total_weight (map f xs) → total_weight (map f (cond b xs (x ∷ without_first p xs))) ≤ f x + total_weight (map f xs)
    go true t = grind arith
    go false t = grind arith

no_other : (n : ℕ) → n ≤ n
no_other n = grind arith

less_items : (a b c d k : ℕ) → k ≤ b → a + k + c + d ≤ a + b + c + d
less_items a b c d k h = grind arith

less_statements : (a b c d k : ℕ) → k ≤ c → a + b + k + d ≤ a + b + c + d
less_statements a b c d k h = grind arith

less_checks : (a b c d k : ℕ) → k ≤ d → a + b + c + k ≤ a + b + c + d
less_checks a b c d k h = grind arith

module _ (rows : Rows) where
  abbrev of_entries : ℕ
  of_entries = total_weight (map entry_weight rows.entries)

  abbrev of_items : ℕ
  of_items = total_weight (map name_weight rows.items)

  abbrev of_statements : ℕ
  of_statements = total_weight (map statement_weight rows.statements)

  abbrev of_checks : ℕ
  of_checks = total_weight (map check_weight rows.checks)

  pub item_less : (n : Values) → AreFewer rows (after rows (edit.DropItem n))
  item_less n limit.Entries = no_other (length rows.entries)
  item_less n limit.Items = no_more_but_first (is_same n) rows.items
  item_less n limit.Statements = no_other (length rows.statements)
  item_less n limit.Facts = no_other (number_of limit.Facts rows)
  item_less n limit.Checks = no_other (length rows.checks)
  item_less n limit.Weight =
      less_items of_entries of_items of_statements of_checks (total_weight (map name_weight (without_first (is_same n) rows.items)))
      (no_heavier (is_same n) name_weight rows.items)

  pub statement_less : (id : List ℕ) → AreFewer rows (after rows (edit.DropStatement id))
  statement_less id limit.Entries = no_other (length rows.entries)
  statement_less id limit.Items = no_other (length rows.items)
  statement_less id limit.Statements = no_more_but_first (has_id id) rows.statements
  statement_less id limit.Facts = no_more_of (has_id id) (λ s. fact_names s.test) rows.statements
  statement_less id limit.Checks = no_other (length rows.checks)
  statement_less id limit.Weight =
      less_statements of_entries of_items of_statements of_checks (total_weight (map statement_weight (without_first (has_id id) rows.statements)))
      (no_heavier (has_id id) statement_weight rows.statements)

  pub check_less : (k : CheckKey) → AreFewer rows (after rows (edit.DropCheck k))
  check_less k limit.Entries = no_other (length rows.entries)
  check_less k limit.Items = no_other (length rows.items)
  check_less k limit.Statements = no_other (length rows.statements)
  check_less k limit.Facts = no_other (number_of limit.Facts rows)
  check_less k limit.Checks = no_more_but_first (has_key k) rows.checks
  check_less k limit.Weight =
      less_checks of_entries of_items of_statements of_checks (total_weight (map check_weight (without_first (has_key k) rows.checks)))
      (no_heavier (has_key k) check_weight rows.checks)
