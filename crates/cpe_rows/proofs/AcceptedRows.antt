-- Lemmas: accepted edits of statements and of check results leave lawful rows.
use Rattle.std.proofs.Common.{◌≡◌, ℕ, List, [], ◌∷◌, ◌++◌, Bool, true, false, not, cond, refl, ◌∙◌, subst}
use Rattle.std.specs.List.{list_any, list_all}
use Rattle.std.proofs.lemmas.Bool.{or_from, or_parts, and_from, and_parts, not_from_false, not-true}
use Rattle.cpe_rows.specs.Rows.{Rows, is_statement, has_id, has_key, same_key}
use Rattle.cpe_rows.specs.Limits.{limited, exceeds, AreWithin}
use Rattle.cpe_rows.specs.After.{after, without_first, with_check}
use Rattle.cpe_rows.specs.Formed.{AreFormed}
use Rattle.cpe_rows.specs.Lawful.{IsLawful, is_lawful_statement, are_different}
use Rattle.cpe_rows.specs.Accepted.{IsAccepted}
use Rattle.cpe_rows.specs.declared.edit.Edit.TheVariants as edit
use Rattle.cpe_rows.specs.declared.fault.EditFault.TheVariants as fault
use Rattle.cpe_rows.specs.declared.statement.Statement.{Statement}
use Rattle.cpe_rows.specs.declared.test.CheckKey.{CheckKey}
use Rattle.cpe_rows.specs.declared.truth.Truth.{Truth}
use Rattle.cpe_rows.proofs.AcceptedItems.{all_but_first, different_but_first}
use Rattle.cpe_rows.proofs.KeyTests.{other_bytes, other_key}
use Rattle.cpe_rows.proofs.Limited.{still_within, statement_less, check_less}
use Rattle.cpe_rows.proofs.Lists.{not_found, not_element, all_with_last, different_with_last}
use Rattle.cpe_rows.proofs.StayFormed.{stay_formed}
use Rattle.cpe_rows.proofs.Unrefused.{IsUnrefused, unrefused, none_when}

-- Rows stay lawful if their statements and check results are replaced by lawful ones.
with_lists : (rows : Rows) (statements : List Statement) (checks : List (CheckKey × Truth)) → let left : Rows = record rows { statements = statements; checks = checks } in
    IsLawful rows → AreFormed left → list_all is_lawful_statement statements ≡ true → are_different (λ s. has_id s.id) statements ≡ true → are_different (λ c. has_key c.0) checks ≡ true
    → AreWithin left → IsLawful left
with_lists rows statements checks ok formed lawful ids keys within = record {
  formed = formed;
  dictionary = ok.dictionary;
  item_names = ok.item_names;
  items_differ = ok.items_differ;
  lawful_statements = lawful;
  ids_differ = ids;
  keys_differ = keys;
  within = within;
}

module _ (rows next : Rows) (s : Statement) (h : IsAccepted rows (edit.PutStatement s) next) where
  abbrev put : Rows
  put = after rows (edit.PutStatement s)

  pub put_lawful : IsLawful next
  put_lawful = subst IsLawful (unrefused h).1
      (with_lists rows (rows.statements ++ s ∷ []) rows.checks h.lawful (stay_formed rows (edit.PutStatement s) h.lawful.formed h.formed)
      (all_with_last is_lawful_statement rows.statements s h.valid ∙ h.lawful.lawful_statements)
      (different_with_last (λ a. has_id a.id) rows.statements s (λ a m. other_bytes a.id s.id (not_element (has_id s.id) rows.statements (none_when (is_statement rows s.id) fault.Exists (unrefused h).0.0) a m)) ∙ h.lawful.ids_differ)
      h.lawful.keys_differ (not_found fault.Full (exceeds put) limited (unrefused h).0.1.0))

module _ (rows next : Rows) (id : List ℕ) (h : IsAccepted rows (edit.DropStatement id) next) where
  abbrev dropped : Rows
  dropped = after rows (edit.DropStatement id)

  pub dropped_lawful : IsLawful next
  dropped_lawful = subst IsLawful (unrefused h).1
      (with_lists rows (without_first (has_id id) rows.statements) rows.checks h.lawful (stay_formed rows (edit.DropStatement id) h.lawful.formed h.formed)
      (all_but_first (has_id id) is_lawful_statement rows.statements h.lawful.lawful_statements)
      (different_but_first (has_id id) (λ s. has_id s.id) rows.statements h.lawful.ids_differ)
      h.lawful.keys_differ (still_within rows dropped (statement_less rows id) h.lawful.within))

no_other_key : (j k : CheckKey) (t : Truth) (cs : List (CheckKey × Truth)) → same_key j k ≡ false → list_any (has_key j) cs ≡ false → list_any (has_key j) (with_check k t cs) ≡ false
no_other_key j k t [] d h = or_from (same_key j k) false d refl
no_other_key j k t (c ∷ cs) d h = let parts = or_parts (has_key j c) (list_any (has_key j) cs) h in go (has_key k c) parts.0 parts.1 (no_other_key j k t cs d parts.1) where
  go : (b : Bool) → has_key j c ≡ false → list_any (has_key j) cs ≡ false → list_any (has_key j) (with_check k t cs) ≡ false → list_any (has_key j) (cond b ((c.0, t) ∷ cs) (c ∷ with_check k t cs)) ≡ false
  go true one none later = or_from (has_key j c) (list_any (has_key j) cs) one none
  go false one none later = or_from (has_key j c) (list_any (has_key j) (with_check k t cs)) one later

different_with : (k : CheckKey) (t : Truth) (cs : List (CheckKey × Truth)) → are_different (λ c. has_key c.0) cs ≡ true → are_different (λ c. has_key c.0) (with_check k t cs) ≡ true
different_with k t [] h = refl
different_with k t (c ∷ cs) h = let parts = and_parts (not (list_any (has_key c.0) cs)) (are_different (λ c. has_key c.0) cs) h in
    go (has_key k c) refl (not-true (list_any (has_key c.0) cs) parts.0) parts.1 (different_with k t cs parts.1) where
      go : (b : Bool) → has_key k c ≡ b → list_any (has_key c.0) cs ≡ false → are_different (λ c. has_key c.0) cs ≡ true → are_different (λ c. has_key c.0) (with_check k t cs) ≡ true
          → are_different (λ c. has_key c.0) (cond b ((c.0, t) ∷ cs) (c ∷ with_check k t cs)) ≡ true
      go true e none all later = and_from (not (list_any (has_key c.0) cs)) (are_different (λ c. has_key c.0) cs) (not_from_false (list_any (has_key c.0) cs) none) all
      go false e none all later = and_from (not (list_any (has_key c.0) (with_check k t cs))) (are_different (λ c. has_key c.0) (with_check k t cs))
          (not_from_false (list_any (has_key c.0) (with_check k t cs)) (no_other_key c.0 k t cs (other_key k c.0 e) none)) later

module _ (rows next : Rows) (k : CheckKey) (t : Truth) (h : IsAccepted rows (edit.SetCheck k t) next) where
  abbrev set : Rows
  set = after rows (edit.SetCheck k t)

  set_result : IsUnrefused rows (edit.SetCheck k t) × (set ≡ next)
  set_result = unrefused h

  pub set_lawful : IsLawful next
  set_lawful = subst IsLawful set_result.1
      (with_lists rows rows.statements (with_check k t rows.checks) h.lawful (stay_formed rows (edit.SetCheck k t) h.lawful.formed h.formed)
      h.lawful.lawful_statements h.lawful.ids_differ (different_with k t rows.checks h.lawful.keys_differ) (not_found fault.Full (exceeds set) limited set_result.0.0))

module _ (rows next : Rows) (k : CheckKey) (h : IsAccepted rows (edit.DropCheck k) next) where
  abbrev cleared : Rows
  cleared = after rows (edit.DropCheck k)

  pub cleared_lawful : IsLawful next
  cleared_lawful = subst IsLawful (unrefused h).1
      (with_lists rows rows.statements (without_first (has_key k) rows.checks) h.lawful (stay_formed rows (edit.DropCheck k) h.lawful.formed h.formed)
      h.lawful.lawful_statements h.lawful.ids_differ (different_but_first (has_key k) (λ c. has_key c.0) rows.checks h.lawful.keys_differ) (still_within rows cleared (check_less rows k) h.lawful.within))
