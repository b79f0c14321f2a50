-- Lemmas: the items that lead to a name, and the first item whose number is in a given list.
use Rattle.std.proofs.Common.{◌≡◌, ℕ, zero, suc, Bool, true, false, not, cond, List, [], ◌∷◌, filter, map, position, Option, Some, None, refl, sym, ap, subst, ◌∙◌}
use Rattle.std.specs.Prelude.{find, is_some, option_map}
use Rattle.std.specs.List.{list_any}
use Rattle.std.proofs.lemmas.Option.{none-some, same_Some}
use Rattle.cpe_rows.specs.cpe_name.Eleven.{Values}
use Rattle.cpe_rows.specs.cpe_name.Equal.{same_name}
use Rattle.cpe_rows.specs.Chains.{leads_to}
use Rattle.cpe_rows.specs.Names.{is_same}
use Rattle.cpe_rows.specs.Rows.{is_named}
use Rattle.cpe_rows.specs.declared.entry.Entry.{Entry}
use Rattle.name_index.specs.declared.table.NameId.{NameId}
use Rattle.name_index.specs.Table.{IsNameTable, IsLive, Names}
use Rattle.names_in_order.specs.InOrder.{AreListedNames as AreLiveAt, names_numbered, same_id}
use Rattle.names_in_order.proofs.ChangeLemmas.{name_among}
use Rattle.fact_laws.specs.Shown.{names_at}
use Rattle.cpe_dictionary.proofs.DictionaryLemmas.{no_entry}
use Rattle.cpe_dictionary.proofs.SeenLemmas.{unknown_by_place}
use Rattle.name_registry.specs.Registered.{AreRegistryNames, items_leading, name_in}
use Rattle.name_registry.proofs.FitLemmas.{own_name}

-- ---- the items that lead to a name

has_entry : (b : Bool) → not b ≡ false → b ≡ true
has_entry true h = refl
has_entry false h = sym h

-- the items that lead to a name with an entry
pub led_to_entry : (es : List Entry) (items : List Values) (n : Values) (k : ℕ) → position (is_named n) es ≡ Some k
    → items_leading es items n ≡ filter (λ s. list_any (is_same s) items) (map (λ (e : Entry). e.name) (filter (λ (e : Entry). leads_to es e.name n) es))
led_to_entry es items n k at =
    ap (λ (b : Bool). filter (λ s. list_any (is_same s) items) (cond b (map (λ (e : Entry). e.name) (filter (λ (e : Entry). leads_to es e.name n) es)) (n ∷ [])))
    (has_entry (list_any (is_named n) es) (unknown_by_place es n ∙ ap (λ (o : Option ℕ). not (is_some o)) at))

-- the items that lead to a name without an entry
pub led_to_other : (es : List Entry) (items : List Values) (n : Values) → position (is_named n) es ≡ None → items_leading es items n ≡ filter (λ s. list_any (is_same s) items) (n ∷ [])
led_to_other es items n at =
    ap (λ (b : Bool). filter (λ s. list_any (is_same s) items) (cond b (map (λ (e : Entry). e.name) (filter (λ (e : Entry). leads_to es e.name n) es)) (n ∷ []))) (no_entry es n at)

-- ---- the first item whose number is in a given list

at_places : (table : Names) (ids : List NameId) → AreRegistryNames table ids → AreLiveAt table ids
at_places table [] live k id at = absurd (none-some id at)
at_places table (x ∷ ids) live zero id at = subst (λ (y : NameId). IsLive table y.0) (same_Some x id at) live.0
at_places table (x ∷ ids) live (suc k) id at = at_places table ids live.1 k id at

module _ (table : Names) (are : IsNameTable table) (ids : List NameId) (live : AreRegistryNames table ids)
    (same : (name : Values) (names : List Values) → list_any (is_same name) names ≡ list_any (same_name name) names) where
  -- a number is one of these exactly if its name is one of their names
  one_of_these : (x : NameId) → IsLive table x.0 → list_any (is_same (name_in table x)) (names_at table ids) ≡ list_any (same_id x) ids
  one_of_these x here = same (name_in table x) (names_at table ids) ∙ name_among table ids x (name_in table x) are (at_places table ids live) (own_name table x.0 here)

  pub first_numbered : (numbers : List NameId) → AreLiveAt table numbers
      → option_map (name_in table) (find (λ (id : NameId). list_any (same_id id) ids) numbers) ≡ find (λ n. list_any (is_same n) (names_at table ids)) (names_numbered table numbers)
  first_numbered [] all = refl
  first_numbered (x ∷ numbers) all =
      by (list_any (same_id x) ids) (first_numbered numbers (λ k id at. all (suc k) id at))
      ∙ ap (λ (b : Bool). cond b (Some (name_in table x)) (find (λ n. list_any (is_same n) (names_at table ids)) (names_numbered table numbers))) (sym (one_of_these x (all 0 x refl)))
    where
      by : (b : Bool) → option_map (name_in table) (find (λ (id : NameId). list_any (same_id id) ids) numbers) ≡ find (λ n. list_any (is_same n) (names_at table ids)) (names_numbered table numbers)
          → option_map (name_in table) (cond b (Some x) (find (λ (id : NameId). list_any (same_id id) ids) numbers)) ≡ cond b (Some (name_in table x)) (find (λ n. list_any (is_same n) (names_at table ids)) (names_numbered table numbers))
      by true later = refl
      by false later = later

-- the number that a search finds is live
pub found_live : (table : Names) (p : NameId → Bool) (numbers : List NameId) (id : NameId) → AreLiveAt table numbers → find p numbers ≡ Some id → IsLive table id.0
found_live table p [] id all found = absurd (none-some id found)
found_live table p (x ∷ numbers) id all found = by (p x) found (found_live table p numbers id (λ k y at. all (suc k) y at))
  where
    by : (b : Bool) → cond b (Some x) (find p numbers) ≡ Some id → (find p numbers ≡ Some id → IsLive table id.0) → IsLive table id.0
    by true here later = subst (λ (y : NameId). IsLive table y.0) (same_Some x id here) (all 0 x refl)
    by false there later = later there
