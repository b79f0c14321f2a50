-- Lemmas: the numbers that an edit can raise. So the first fault of an edit in rows within their limits is the first
-- cause.
use Rattle.std.proofs.Common.{◌≡◌, ℕ, ◌+◌, suc, List, [], ◌∷◌, ◌++◌, Bool, true, false, not, nat_lt, cond, length, map, Option, Some, None, refl, ap, sym, ◌∙◌}
use Rattle.std.specs.Prelude.{find, option_map}
use Rattle.std.proofs.lemmas.List.{length-append}
use Rattle.cpe_name.specs.Eleven.{Values}
use Rattle.cpe_rows.specs.Names.{is_identifier, has_wildcards}
use Rattle.cpe_rows.specs.Rows.{Rows, is_named, is_entry, is_item, is_statement, is_checked}
use Rattle.cpe_rows.specs.FactNames.{number_of_facts}
use Rattle.cpe_rows.specs.Limits.{limited, exceeds, most, AreWithin}
use Rattle.cpe_rows.specs.After.{after, changed, deprecated}
use Rattle.cpe_rows.specs.Faults.{when, full, faults}
use Rattle.cpe_rows.specs.Step.{first_some}
use Rattle.cpe_rows.specs.Causes.{causes, heavy}
use Rattle.cpe_rows.specs.declared.entry.Entry.{Entry}
use Rattle.cpe_rows.specs.declared.entry.NoteKind.TheVariants as note
use Rattle.cpe_rows.specs.declared.statement.Statement.{Statement}
use Rattle.cpe_rows.specs.declared.test.CheckKey.{CheckKey}
use Rattle.cpe_rows.specs.declared.truth.Truth.{Truth}
use Rattle.cpe_rows.specs.declared.edit.Edit.{Edit}
use Rattle.cpe_rows.specs.declared.edit.Edit.TheVariants as edit
use Rattle.cpe_rows.specs.declared.fault.EditFault.{EditFault}
use Rattle.cpe_rows.specs.declared.fault.EditFault.TheVariants as fault
use Rattle.cpe_rows.specs.declared.fault.Which.{Which}
use Rattle.cpe_rows.specs.declared.fault.Which.TheVariants as limit
use Rattle.cpe_rows.proofs.CauseLemmas.{first_same}
use Rattle.cpe_rows.proofs.Limited.{each_within, not_heavy, item_less, statement_less, check_less}

length-last : {A : Type 0} (xs : List A) (x : A) → length (xs ++ x ∷ []) ≡ length xs + 1
length-last xs x = length-append xs (x ∷ [])

length-changed : (f : Entry → Entry) (n : Values) (es : List Entry) → length (changed f n es) ≡ length es
length-changed f n [] = refl
length-changed f n (e ∷ es) = go (is_named n e) (length-changed f n es) where
  go : (b : Bool) → length (changed f n es) ≡ length es → length (cond b (f e ∷ es) (e ∷ changed f n es)) ≡ suc (length es)
  go true h = refl
  go false h = ap suc h

module _ (next : Rows) where
  abbrev number : Which → Option EditFault
  number which = when (exceeds next which) (fault.Full which)

  -- The first exceeded limit is the first fault of the list that has the fault of each limit.
  each_number : (ws : List Which) → first_some (option_map fault.Full (find (exceeds next) ws) ∷ []) ≡ first_some (map number ws)
  each_number [] = refl
  each_number (w ∷ ws) = go (exceeds next w) (each_number ws) where
    go : (b : Bool) → first_some (option_map fault.Full (find (exceeds next) ws) ∷ []) ≡ first_some (map number ws)
        → first_some (option_map fault.Full (cond b (Some w) (find (exceeds next) ws)) ∷ []) ≡ first_some (when b (fault.Full w) ∷ map number ws)
    go true h = refl
    go false h = h

  -- A number that does not exceed its limit has no fault, so it can be left out of the list.
  past : (w : Which) (ws : List Which) (os : List (Option EditFault)) → exceeds next w ≡ false → first_some (map number ws) ≡ first_some os
      → first_some (map number (w ∷ ws)) ≡ first_some os
  past w ws os e h = (λ i. first_some (when (e i) (fault.Full w) ∷ map number ws)) ∙ h

  with : (w : Which) (ws : List Which) (os : List (Option EditFault)) → first_some (map number ws) ≡ first_some os
      → first_some (map number (w ∷ ws)) ≡ first_some (number w ∷ os)
  with w ws os h = first_same (number w ∷ []) (map number ws) os h

  abbrev Found : List (Option EditFault) → Type 0
  Found os = first_some (full next ∷ []) ≡ first_some os

  abbrev IsNot : Which → Type 0
  IsNot which = exceeds next which ≡ false

  raised_entries : IsNot limit.Items → IsNot limit.Statements → IsNot limit.Facts → IsNot limit.Checks → Found (number limit.Entries ∷ heavy next ∷ [])
  raised_entries i s f c = each_number limited ∙ with limit.Entries (limit.Items ∷ limit.Statements ∷ limit.Facts ∷ limit.Checks ∷ limit.Weight ∷ []) (heavy next ∷ [])
      (past limit.Items (limit.Statements ∷ limit.Facts ∷ limit.Checks ∷ limit.Weight ∷ []) (heavy next ∷ []) i
      (past limit.Statements (limit.Facts ∷ limit.Checks ∷ limit.Weight ∷ []) (heavy next ∷ []) s
      (past limit.Facts (limit.Checks ∷ limit.Weight ∷ []) (heavy next ∷ []) f
      (past limit.Checks (limit.Weight ∷ []) (heavy next ∷ []) c refl))))

  raised_weight : IsNot limit.Entries → IsNot limit.Items → IsNot limit.Statements → IsNot limit.Facts → IsNot limit.Checks → Found (heavy next ∷ [])
  raised_weight e i s f c = raised_entries i s f c ∙ (λ j. first_some (when (e j) (fault.Full limit.Entries) ∷ heavy next ∷ []))

  raised_items : IsNot limit.Entries → IsNot limit.Statements → IsNot limit.Facts → IsNot limit.Checks → Found (number limit.Items ∷ heavy next ∷ [])
  raised_items e s f c = each_number limited
      ∙ past limit.Entries (limit.Items ∷ limit.Statements ∷ limit.Facts ∷ limit.Checks ∷ limit.Weight ∷ []) (number limit.Items ∷ heavy next ∷ []) e
      (with limit.Items (limit.Statements ∷ limit.Facts ∷ limit.Checks ∷ limit.Weight ∷ []) (heavy next ∷ [])
      (past limit.Statements (limit.Facts ∷ limit.Checks ∷ limit.Weight ∷ []) (heavy next ∷ []) s
      (past limit.Facts (limit.Checks ∷ limit.Weight ∷ []) (heavy next ∷ []) f
      (past limit.Checks (limit.Weight ∷ []) (heavy next ∷ []) c refl))))

  raised_statements : IsNot limit.Entries → IsNot limit.Items → IsNot limit.Checks → Found (number limit.Statements ∷ number limit.Facts ∷ heavy next ∷ [])
  raised_statements e i c = each_number limited
      ∙ past limit.Entries (limit.Items ∷ limit.Statements ∷ limit.Facts ∷ limit.Checks ∷ limit.Weight ∷ []) (number limit.Statements ∷ number limit.Facts ∷ heavy next ∷ []) e
      (past limit.Items (limit.Statements ∷ limit.Facts ∷ limit.Checks ∷ limit.Weight ∷ []) (number limit.Statements ∷ number limit.Facts ∷ heavy next ∷ []) i
      (with limit.Statements (limit.Facts ∷ limit.Checks ∷ limit.Weight ∷ []) (number limit.Facts ∷ heavy next ∷ [])
      (with limit.Facts (limit.Checks ∷ limit.Weight ∷ []) (heavy next ∷ [])
      (past limit.Checks (limit.Weight ∷ []) (heavy next ∷ []) c refl))))

  raised_checks : IsNot limit.Entries → IsNot limit.Items → IsNot limit.Statements → IsNot limit.Facts → Found (number limit.Checks ∷ heavy next ∷ [])
  raised_checks e i s f = each_number limited
      ∙ past limit.Entries (limit.Items ∷ limit.Statements ∷ limit.Facts ∷ limit.Checks ∷ limit.Weight ∷ []) (number limit.Checks ∷ heavy next ∷ []) e
      (past limit.Items (limit.Statements ∷ limit.Facts ∷ limit.Checks ∷ limit.Weight ∷ []) (number limit.Checks ∷ heavy next ∷ []) i
      (past limit.Statements (limit.Facts ∷ limit.Checks ∷ limit.Weight ∷ []) (number limit.Checks ∷ heavy next ∷ []) s
      (past limit.Facts (limit.Checks ∷ limit.Weight ∷ []) (number limit.Checks ∷ heavy next ∷ []) f refl)))

-- If an element is appended, only the number of elements in this list, and the weight, may exceed their limits.
with_last : {A : Type 0} (prefix : List (Option EditFault)) (next : Rows) (which : Which) (xs : List A) (x : A)
    → first_some (full next ∷ []) ≡ first_some (when (nat_lt (most which) (length (xs ++ x ∷ []))) (fault.Full which) ∷ heavy next ∷ [])
    → first_some (prefix ++ full next ∷ []) ≡ first_some (prefix ++ when (nat_lt (most which) (length xs + 1)) (fault.Full which) ∷ heavy next ∷ [])
with_last prefix next which xs x raised =
    first_same prefix (full next ∷ []) (when (nat_lt (most which) (length xs + 1)) (fault.Full which) ∷ heavy next ∷ [])
    (raised ∙ (λ i. first_some (when (nat_lt (most which) (length-last xs x i)) (fault.Full which) ∷ heavy next ∷ [])))

module _ (rows : Rows) (h : AreWithin rows) where
  abbrev AreCauses : Edit → Type 0
  AreCauses e = first_some (faults rows e) ≡ first_some (causes rows e ++ heavy (after rows e) ∷ [])

  within : (which : Which) → exceeds rows which ≡ false
  within = each_within rows h

  -- A changed entry leaves the number of entries unchanged, so only the weight may exceed its limit.
  of_changed : (f : Entry → Entry) (n : Values) → let next : Rows = record rows { entries = changed f n rows.entries } in
      first_some (full next ∷ []) ≡ first_some (heavy next ∷ [])
  of_changed f n = raised_weight (record rows { entries = changed f n rows.entries })
      (ap (nat_lt (most limit.Entries)) (length-changed f n rows.entries) ∙ within limit.Entries)
      (within limit.Items) (within limit.Statements) (within limit.Facts) (within limit.Checks)

  of_entry : (e : Entry) → AreCauses (edit.Entry e)
  of_entry e =
      let next = after rows (edit.Entry e) in
      with_last (when (not (is_identifier e.name)) fault.NotIdentifier ∷ when (has_wildcards e.name) fault.Wildcards ∷ when (is_entry rows e.name) fault.Exists ∷ []) next limit.Entries rows.entries e
      (raised_entries next (within limit.Items) (within limit.Statements) (within limit.Facts) (within limit.Checks))

  of_item : (n : Values) → AreCauses (edit.Item n)
  of_item n =
      let next = after rows (edit.Item n) in
      with_last (when (is_item rows n) fault.Exists ∷ []) next limit.Items rows.items n
      (raised_items next (within limit.Entries) (within limit.Statements) (within limit.Facts) (within limit.Checks))

  of_statement : (s : Statement) → AreCauses (edit.PutStatement s)
  of_statement s =
      let next = after rows (edit.PutStatement s) in
      let facts = when (nat_lt (most limit.Facts) (number_of_facts (rows.statements ++ s ∷ []))) (fault.Full limit.Facts) in
      first_same (when (is_statement rows s.id) fault.Exists ∷ []) (full next ∷ [])
      (when (nat_lt (most limit.Statements) (length rows.statements + 1)) (fault.Full limit.Statements) ∷ facts ∷ heavy next ∷ [])
      (raised_statements next (within limit.Entries) (within limit.Items) (within limit.Checks)
      ∙ (λ i. first_some (when (nat_lt (most limit.Statements) (length-last rows.statements s i)) (fault.Full limit.Statements) ∷ facts ∷ heavy next ∷ [])))

  of_check : (k : CheckKey) (t : Truth) → AreCauses (edit.SetCheck k t)
  of_check k t = raised_checks (after rows (edit.SetCheck k t)) (within limit.Entries) (within limit.Items) (within limit.Statements) (within limit.Facts)

  pub no_item_heavy : (n : Values) → heavy (after rows (edit.DropItem n)) ≡ None
  no_item_heavy n = not_heavy rows (after rows (edit.DropItem n)) (item_less rows n) h

  pub no_statement_heavy : (id : List ℕ) → heavy (after rows (edit.DropStatement id)) ≡ None
  no_statement_heavy id = not_heavy rows (after rows (edit.DropStatement id)) (statement_less rows id) h

  pub no_check_heavy : (k : CheckKey) → heavy (after rows (edit.DropCheck k)) ≡ None
  no_check_heavy k = not_heavy rows (after rows (edit.DropCheck k)) (check_less rows k) h

  of_drop : (known : Bool) (next : Rows) → heavy next ≡ None
      → first_some (when (not known) fault.Unknown ∷ []) ≡ first_some (when (not known) fault.Unknown ∷ heavy next ∷ [])
  of_drop known next light = first_same (when (not known) fault.Unknown ∷ []) [] (heavy next ∷ []) (ap (λ o. first_some (o ∷ [])) (sym light))

  pub are_causes : (e : Edit) → AreCauses e
  are_causes (edit.Entry e) = of_entry e
  are_causes (edit.Item n) = of_item n
  are_causes (edit.DropItem n) = of_drop (is_item rows n) (after rows (edit.DropItem n)) (no_item_heavy n)
  are_causes (edit.Deprecate n d date comment) =
      let e = edit.Deprecate n d date comment in
      first_same (causes rows e) (full (after rows e) ∷ []) (heavy (after rows e) ∷ []) (of_changed (deprecated (Some d) note.Deprecation date comment) n)
  are_causes (edit.Amend n d date comment) =
      let e = edit.Amend n d date comment in
      first_same (causes rows e) (full (after rows e) ∷ []) (heavy (after rows e) ∷ []) (of_changed (deprecated (Some d) note.DeprecationModification date comment) n)
  are_causes (edit.Restore n date comment) =
      let e = edit.Restore n date comment in
      first_same (causes rows e) (full (after rows e) ∷ []) (heavy (after rows e) ∷ []) (of_changed (deprecated None note.DeprecationModification date comment) n)
  are_causes (edit.PutStatement s) = of_statement s
  are_causes (edit.DropStatement id) = of_drop (is_statement rows id) (after rows (edit.DropStatement id)) (no_statement_heavy id)
  are_causes (edit.SetCheck k t) = of_check k t
  are_causes (edit.DropCheck k) = of_drop (is_checked rows k) (after rows (edit.DropCheck k)) (no_check_heavy k)
