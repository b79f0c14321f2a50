-- Edits that add the rows of lawful rows one after another are taken.
use Rattle.std.proofs.Common.{◌≡◌, ℕ, ◌+◌, ◌&&◌, true, false, not, nat_lt, cond, List, [], ◌∷◌, ◌++◌, length, None, refl, sym, ap, subst, ◌∙◌, append_assoc}
use Rattle.std.specs.Prelude.{is_none}
use Rattle.std.specs.List.{list_any}
use Rattle.std.proofs.lemmas.Bool.{and_from, and_parts, or_parts, not-true}
use Rattle.std.proofs.lemmas.List.{length-append}
use Rattle.cpe_rows.specs.cpe_name.Eleven.{Values}
use Rattle.cpe_rows.specs.After.{after, with_check}
use Rattle.cpe_rows.specs.Causes.{entry_causes, heavy}
use Rattle.cpe_rows.specs.Faults.{when}
use Rattle.cpe_rows.specs.Lawful.{IsLawful, is_entry_name, is_lawful_statement}
use Rattle.cpe_rows.specs.Limits.{AreWithin, most}
use Rattle.cpe_rows.specs.Names.{is_same, is_lower, is_identifier, has_wildcards}
use Rattle.cpe_rows.specs.Rows.{Rows, is_named, has_id, has_key}
use Rattle.cpe_rows.specs.Step.{first_some}
use Rattle.cpe_rows.specs.declared.edit.Edit.TheVariants as edit
use Rattle.cpe_rows.specs.declared.entry.Entry.{Entry}
use Rattle.cpe_rows.specs.declared.fault.EditFault.TheVariants as fault
use Rattle.cpe_rows.specs.declared.fault.Which.TheVariants as limit
use Rattle.cpe_rows.specs.declared.statement.Statement.{Statement}
use Rattle.cpe_rows.specs.declared.test.CheckKey.{CheckKey}
use Rattle.cpe_rows.specs.declared.truth.Truth.{Truth}
use Rattle.cpe_rows.proofs.KeyTests.{other_bytes, other_key}
use Rattle.cpe_rows.proofs.Limited.{each_within, still_within}
use Rattle.cpe_rows.proofs.NameTests.{not_same}
use Rattle.cpe_rows.proofs.Refused.{light_accepted}
use Rattle.engine_snapshot.specs.Begun.{AreFine, IsLawfulEdit, with_checks, rows_with_entries, with_items, with_statements}
use Rattle.engine_snapshot.proofs.PartLemmas.{all_middle, all_of_it, apart_before, fewer, lawful_part}

-- rows within their limits aren't too heavy
light : (next : Rows) → AreWithin next → heavy next ≡ None
light next within = ap (λ b. when b (fault.Full limit.Weight)) (each_within next within limit.Weight)

-- one more element is within the limit, if the longer list is
no_more : {A : Type 0} (m : ℕ) (xs : List A) (x : A) → nat_lt m (length (xs ++ x ∷ [])) ≡ false → nat_lt m (length xs + 1) ≡ false
no_more m xs x h = ap (nat_lt m) (sym (length-append xs (x ∷ []))) ∙ h

regroup : {A : Type 0} (xs : List A) (x : A) (ys : List A) → xs ++ x ∷ ys ≡ (xs ++ x ∷ []) ++ ys
regroup xs x ys = sym (append_assoc xs (x ∷ []) ys)

-- ---- entries

module _ (rows : Rows) (e : Entry) (more : List Entry) (active : e.deprecation ≡ None) (fine : AreFine (rows_with_entries rows (e ∷ more))) where
  abbrev all_entries : Rows
  all_entries = rows_with_entries rows (e ∷ more)

  abbrev next_entries : Rows
  next_entries = after rows (edit.Entry e)

  within_before : AreWithin rows
  within_before = still_within all_entries rows (fewer rows all_entries (record { entries = (e ∷ more, refl); items = all_of_it rows.items; statements = all_of_it rows.statements; checks = all_of_it rows.checks })) fine.within

  within_after : AreWithin next_entries
  within_after =
      still_within all_entries next_entries
      (fewer next_entries all_entries (record { entries = (more, regroup rows.entries e more); items = all_of_it rows.items; statements = all_of_it rows.statements; checks = all_of_it rows.checks }))
      fine.within

  named : is_entry_name e.name ≡ true
  named = all_middle (λ (x : Entry). is_entry_name x.name) rows.entries e more fine.names

  parts : (is_lower e.name && is_identifier e.name ≡ true) × (not (has_wildcards e.name) ≡ true)
  parts = and_parts (is_lower e.name && is_identifier e.name) (not (has_wildcards e.name)) named

  sure : (is_lower e.name ≡ true) × (is_identifier e.name ≡ true)
  sure = and_parts (is_lower e.name) (is_identifier e.name) parts.0

  no_cause : first_some (entry_causes rows.entries e) ≡ None
  no_cause =
      let identifier = sure.1 in
      let plain = not-true (has_wildcards e.name) parts.1 in
      let new = apart_before (λ (x : Entry). is_named x.name) (λ a b. not_same a.name b.name) rows.entries e more fine.names_differ in
      let few = no_more (most limit.Entries) rows.entries e (each_within next_entries within_after limit.Entries) in
      λ i. first_some (when (not (identifier i)) fault.NotIdentifier ∷ when (plain i) fault.Wildcards ∷ when (new i) fault.Exists ∷ when (few i) (fault.Full limit.Entries) ∷ [])

  pub entry_taken : IsLawfulEdit rows (edit.Entry e)
  entry_taken = record {
    valid = and_from (is_lower e.name) (is_none e.deprecation) sure.0 (ap is_none active);
    taken = light_accepted rows (edit.Entry e) within_before no_cause (light next_entries within_after);
  }

-- ---- lawful rows are lawful without the last rows of a kind

pub lawful_before_items : (rows : Rows) (ns : List Values) → IsLawful (with_items rows ns) → IsLawful rows
lawful_before_items rows ns h =
    lawful_part rows (with_items rows ns) (record { entries = all_of_it rows.entries; items = (ns, refl); statements = all_of_it rows.statements; checks = all_of_it rows.checks }) refl h

pub lawful_before_statements : (rows : Rows) (ss : List Statement) → IsLawful (with_statements rows ss) → IsLawful rows
lawful_before_statements rows ss h =
    lawful_part rows (with_statements rows ss) (record { entries = all_of_it rows.entries; items = all_of_it rows.items; statements = (ss, refl); checks = all_of_it rows.checks }) refl h

pub lawful_before_checks : (rows : Rows) (cs : List (CheckKey × Truth)) → IsLawful (with_checks rows cs) → IsLawful rows
lawful_before_checks rows cs h =
    lawful_part rows (with_checks rows cs) (record { entries = all_of_it rows.entries; items = all_of_it rows.items; statements = all_of_it rows.statements; checks = (cs, refl) }) refl h

-- ---- items

module _ (rows : Rows) (n : Values) (more : List Values) (h : IsLawful (with_items rows (n ∷ more))) where
  lawful_items : IsLawful (after rows (edit.Item n))
  lawful_items = lawful_before_items (after rows (edit.Item n)) more (subst IsLawful (ap (λ (ns : List Values). record rows { items = ns }) (regroup rows.items n more)) h)

  pub item_taken : IsLawfulEdit rows (edit.Item n)
  item_taken =
      let new = apart_before is_same not_same rows.items n more h.items_differ in
      let few = no_more (most limit.Items) rows.items n (each_within (after rows (edit.Item n)) lawful_items.within limit.Items) in
      record {
        valid = all_middle is_lower rows.items n more h.item_names;
        taken =
            light_accepted rows (edit.Item n) (lawful_before_items rows (n ∷ more) h).within
            (λ i. first_some (when (new i) fault.Exists ∷ when (few i) (fault.Full limit.Items) ∷ []))
            (light (after rows (edit.Item n)) lawful_items.within);
      }

-- ---- statements

module _ (rows : Rows) (s : Statement) (more : List Statement) (h : IsLawful (with_statements rows (s ∷ more))) where
  lawful_statements : IsLawful (after rows (edit.PutStatement s))
  lawful_statements = lawful_before_statements (after rows (edit.PutStatement s)) more (subst IsLawful (ap (λ (ss : List Statement). record rows { statements = ss }) (regroup rows.statements s more)) h)

  pub statement_taken : IsLawfulEdit rows (edit.PutStatement s)
  statement_taken =
      let new = apart_before (λ (x : Statement). has_id x.id) (λ a b. other_bytes b.id a.id) rows.statements s more h.ids_differ in
      let few = no_more (most limit.Statements) rows.statements s (each_within (after rows (edit.PutStatement s)) lawful_statements.within limit.Statements) in
      let facts = each_within (after rows (edit.PutStatement s)) lawful_statements.within limit.Facts in
      record {
        valid = all_middle is_lawful_statement rows.statements s more h.lawful_statements;
        taken =
            light_accepted rows (edit.PutStatement s) (lawful_before_statements rows (s ∷ more) h).within
            (λ i. first_some (when (new i) fault.Exists ∷ when (few i) (fault.Full limit.Statements) ∷ when (facts i) (fault.Full limit.Facts) ∷ []))
            (light (after rows (edit.PutStatement s)) lawful_statements.within);
      }

-- ---- results

-- the result of a new key is added at the end
pub removed_last : (k : CheckKey) (t : Truth) (cs : List (CheckKey × Truth)) → list_any (has_key k) cs ≡ false → with_check k t cs ≡ cs ++ (k, t) ∷ []
removed_last k t [] new = refl
removed_last k t (c ∷ cs) new =
    let each = or_parts (has_key k c) (list_any (has_key k) cs) new in
    (λ i. cond (each.0 i) ((c.0, t) ∷ cs) (c ∷ with_check k t cs)) ∙ ap (λ (l : List (CheckKey × Truth)). c ∷ l) (removed_last k t cs each.1)

pub check_put : (rows : Rows) (k : CheckKey) (t : Truth) → list_any (has_key k) rows.checks ≡ false → after rows (edit.SetCheck k t) ≡ with_checks rows ((k, t) ∷ [])
check_put rows k t new = ap (λ (cs : List (CheckKey × Truth)). record rows { checks = cs }) (removed_last k t rows.checks new)

pub checks_on : (rows : Rows) (c : CheckKey × Truth) (more : List (CheckKey × Truth)) → with_checks rows (c ∷ more) ≡ with_checks (with_checks rows (c ∷ [])) more
checks_on rows c more = ap (λ (cs : List (CheckKey × Truth)). record rows { checks = cs }) (regroup rows.checks c more)

module _ (rows : Rows) (k : CheckKey) (t : Truth) (more : List (CheckKey × Truth)) (h : IsLawful (with_checks rows ((k, t) ∷ more))) where
  pub new_key : list_any (has_key k) rows.checks ≡ false
  new_key = apart_before (λ (c : CheckKey × Truth). has_key c.0) (λ a b. other_key a.0 b.0) rows.checks (k, t) more h.keys_differ

  lawful_checks : IsLawful (with_checks rows ((k, t) ∷ []))
  lawful_checks = lawful_before_checks (with_checks rows ((k, t) ∷ [])) more (subst IsLawful (checks_on rows (k, t) more) h)

  lawful_set : IsLawful (after rows (edit.SetCheck k t))
  lawful_set = subst IsLawful (sym (check_put rows k t new_key)) lawful_checks

  pub check_taken : IsLawfulEdit rows (edit.SetCheck k t)
  check_taken =
      let few = each_within (after rows (edit.SetCheck k t)) lawful_set.within limit.Checks in
      record {
        valid = refl;
        taken =
            light_accepted rows (edit.SetCheck k t) (lawful_before_checks rows ((k, t) ∷ more) h).within
            (λ i. first_some (when (few i) (fault.Full limit.Checks) ∷ []))
            (light (after rows (edit.SetCheck k t)) lawful_set.within);
      }
