-- Lemmas: if an edit adds or removes an item and is accepted, it leaves lawful rows.
use Rattle.std.proofs.Common.{◌≡◌, List, [], ◌∷◌, Bool, true, false, not, cond, refl, ◌∙◌, subst}
use Rattle.std.specs.List.{list_any, list_all}
use Rattle.std.proofs.lemmas.Bool.{or_from, or_parts, and_from, and_parts, not_from_false, not-true}
use Rattle.cpe_name.specs.Eleven.{Values}
use Rattle.cpe_rows.specs.Names.{is_same, is_lower}
use Rattle.cpe_rows.specs.Rows.{Rows, is_item}
use Rattle.cpe_rows.specs.Limits.{limited, exceeds}
use Rattle.cpe_rows.specs.After.{after, without_first}
use Rattle.cpe_rows.specs.Lawful.{IsLawful, are_different}
use Rattle.cpe_rows.specs.Accepted.{IsAccepted}
use Rattle.cpe_rows.specs.declared.edit.Edit.TheVariants as edit
use Rattle.cpe_rows.specs.declared.fault.EditFault.TheVariants as fault
use Rattle.cpe_rows.proofs.Limited.{still_within, item_less}
use Rattle.cpe_rows.proofs.Lists.{not_found, not_element, all_with_last, different_with_last}
use Rattle.cpe_rows.proofs.NameTests.{not_same}
use Rattle.cpe_rows.proofs.StayFormed.{stay_formed}
use Rattle.cpe_rows.proofs.Unrefused.{IsUnrefused, unrefused, none_when}

module _ (rows next : Rows) (n : Values) (h : IsAccepted rows (edit.Item n) next) where
  abbrev left : Rows
  left = after rows (edit.Item n)

  result : IsUnrefused rows (edit.Item n) × (left ≡ next)
  result = unrefused h

  pub lawful_with : IsLawful next
  lawful_with = subst IsLawful result.1 record {
    formed = stay_formed rows (edit.Item n) h.lawful.formed h.formed;
    dictionary = h.lawful.dictionary;
    item_names = all_with_last is_lower rows.items n h.valid ∙ h.lawful.item_names;
    items_differ = different_with_last is_same rows.items n (λ a m. not_same n a (not_element (is_same n) rows.items (none_when (is_item rows n) fault.Exists result.0.0) a m)) ∙ h.lawful.items_differ;
    lawful_statements = h.lawful.lawful_statements;
    ids_differ = h.lawful.ids_differ;
    keys_differ = h.lawful.keys_differ;
    within = not_found fault.Full (exceeds left) limited result.0.1.0;
  }

module _ {A : Type 0} (p : A → Bool) where
  pub all_but_first : (q : A → Bool) (xs : List A) → list_all q xs ≡ true → list_all q (without_first p xs) ≡ true
  all_but_first q [] h = refl
  all_but_first q (x ∷ xs) h = let parts = and_parts (q x) (list_all q xs) h in go (p x) parts.0 parts.1 (all_but_first q xs parts.1) where
    go : (b : Bool) → q x ≡ true → list_all q xs ≡ true → list_all q (without_first p xs) ≡ true → list_all q (cond b xs (x ∷ without_first p xs)) ≡ true
    go true one all later = all
    go false one all later = and_from (q x) (list_all q (without_first p xs)) one later

  none_but_first : (q : A → Bool) (xs : List A) → list_any q xs ≡ false → list_any q (without_first p xs) ≡ false
  none_but_first q [] h = refl
  none_but_first q (x ∷ xs) h = let parts = or_parts (q x) (list_any q xs) h in go (p x) parts.0 parts.1 (none_but_first q xs parts.1) where
    go : (b : Bool) → q x ≡ false → list_any q xs ≡ false → list_any q (without_first p xs) ≡ false → list_any q (cond b xs (x ∷ without_first p xs)) ≡ false
    go true one none later = none
    go false one none later = or_from (q x) (list_any q (without_first p xs)) one later

  pub different_but_first : (same : A → A → Bool) (xs : List A) → are_different same xs ≡ true → are_different same (without_first p xs) ≡ true
  different_but_first same [] h = refl
  different_but_first same (x ∷ xs) h =
      let parts = and_parts (not (list_any (same x) xs)) (are_different same xs) h in
      let apart = not_from_false (list_any (same x) (without_first p xs)) (none_but_first (same x) xs (not-true (list_any (same x) xs) parts.0)) in
      go (p x) parts.1 apart (different_but_first same xs parts.1) where
        go : (b : Bool) → are_different same xs ≡ true → not (list_any (same x) (without_first p xs)) ≡ true → are_different same (without_first p xs) ≡ true
            → are_different same (cond b xs (x ∷ without_first p xs)) ≡ true
        go true all apart later = all
        go false all apart later = and_from (not (list_any (same x) (without_first p xs))) (are_different same (without_first p xs)) apart later

module _ (rows next : Rows) (n : Values) (h : IsAccepted rows (edit.DropItem n) next) where
  abbrev without : Rows
  without = after rows (edit.DropItem n)

  pub lawful_without : IsLawful next
  lawful_without = subst IsLawful (unrefused h).1 record {
    formed = stay_formed rows (edit.DropItem n) h.lawful.formed h.formed;
    dictionary = h.lawful.dictionary;
    item_names = all_but_first (is_same n) is_lower rows.items h.lawful.item_names;
    items_differ = different_but_first (is_same n) is_same rows.items h.lawful.items_differ;
    lawful_statements = h.lawful.lawful_statements;
    ids_differ = h.lawful.ids_differ;
    keys_differ = h.lawful.keys_differ;
    within = still_within rows without (item_less rows n) h.lawful.within;
  }
