-- Lemmas: the names in slots, by the table of their numbers.
use Rattle.std.proofs.Common.{◌≡◌, suc, Bool, true, false, cond, ◌||◌, List, [], ◌∷◌, Option, Some, None, map, refl, sym, ap, subst, ◌∙◌}
use Rattle.std.specs.Prelude.{option_map}
use Rattle.std.specs.List.{cons_option, filter_map, list_any}
use Rattle.cpe_rows.specs.cpe_name.Eleven.{Values}
use Rattle.cpe_rows.specs.cpe_name.Equal.{same_name}
use Rattle.cpe_rows.specs.After.{without_first}
use Rattle.cpe_rows.specs.Names.{is_same}
use Rattle.name_index.specs.declared.table.NameId.{NameId}
use Rattle.name_index.specs.Table.{Names as Table, Kept, kept_at, kept_or, IsLive}
use Rattle.names_in_order.specs.InOrder.{AreListedNames, names_numbered}
use Rattle.names_in_order.specs.Marked.{numbers_in, without_first_place as without_number}
use Rattle.names_in_order.proofs.OrderLemmas.{kept_live}
use Rattle.check_results.specs.Slots.{slot_name, slot_names, names_in_slots}

-- a live number has its name
live_name : (table : Table) (id : NameId) → IsLive table id.0 → slot_name table (Some id) ≡ Some (kept_at table id.0).name
live_name table id live =
    let k = kept_live table id.0 live in
    ap (λ (o : Option Kept). option_map (λ j. j.name) o) k.1 ∙ ap {B = Option Values} (λ (o : Option Kept). Some (kept_or o).name) (sym k.1)

-- if all numbers in the slots are live, the names in the slots are the names of the numbers
pub slots_numbered : (table : Table) (slots : List (Option NameId)) → AreListedNames table (numbers_in slots) → slot_names table slots ≡ names_numbered table (numbers_in slots)
slots_numbered table [] live = refl
slots_numbered table (None ∷ slots) live = slots_numbered table slots live
slots_numbered table (Some id ∷ slots) live =
    let head = live_name table id (live 0 id refl) in
    let rest = slots_numbered table slots (λ k x at. live (suc k) x at) in
    λ i. cons_option (head i) (rest i)

pub kept_numbered : (table : Table) (ids : List NameId) → AreListedNames table ids → names_in_slots table ids ≡ names_numbered table ids
kept_numbered table [] live = refl
kept_numbered table (id ∷ ids) live =
    let head = live_name table id (live 0 id refl) in
    let rest = kept_numbered table ids (λ k x at. live (suc k) x at) in
    λ i. cons_option (head i) (rest i)

-- ---- a list without the first element that passes a test

pub same_without : {A : Type 0} (p : A → Bool) (xs : List A) → without_number p xs ≡ without_first p xs
same_without p [] = refl
same_without p (x ∷ xs) = λ i. cond (p x) xs (x ∷ same_without p xs i)

pub without_name : (name : Values) (names : List Values) → without_number (same_name name) names ≡ without_first (is_same name) names
unfolding is_same
without_name name names = same_without (same_name name) names

pub any_name : (name : Values) (names : List Values) → list_any (is_same name) names ≡ list_any (same_name name) names
unfolding is_same
any_name name names = refl

-- if no element passes, the list is unchanged
pub all_stay : {A : Type 0} (p : A → Bool) (xs : List A) → list_any p xs ≡ false → without_first p xs ≡ xs
all_stay p [] h = refl
all_stay p (x ∷ xs) h = by (p x) (list_any p xs) h (λ none. all_stay p xs none)
  where
    by : (b rest : Bool) → (b || rest) ≡ false → (rest ≡ false → without_first p xs ≡ xs) → cond b xs (x ∷ without_first p xs) ≡ x ∷ xs
    by true rest h more = absurd cc
    by false rest h more = ap (λ (ys : List _). x ∷ ys) (more h)

-- ---- the names of all slots

pub all_slots : (table : Table) (slots : List (Option NameId)) (numbers : List NameId) → numbers_in slots ≡ numbers → AreListedNames table numbers → slot_names table slots ≡ names_numbered table numbers
all_slots table slots numbers is live = slots_numbered table slots (subst (AreListedNames table) (sym is) live) ∙ ap (names_numbered table) is

-- the slots that have a name
pub slots_named : (table : Table) (slots : List (Option NameId)) → filter_map (λ (slot : Option Values). slot) (map (slot_name table) slots) ≡ slot_names table slots
slots_named table [] = refl
slots_named table (slot ∷ slots) = go (slot_name table slot) (slots_named table slots) where
  go : (name : Option Values) → filter_map (λ (o : Option Values). o) (map (slot_name table) slots) ≡ slot_names table slots
      → filter_map (λ (o : Option Values). o) (name ∷ map (slot_name table) slots) ≡ cons_option name (slot_names table slots)
  go None rest = rest
  go (Some n) rest = ap (λ (ns : List Values). n ∷ ns) rest
