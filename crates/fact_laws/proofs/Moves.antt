-- Lemmas: the changes of probes and targets by each edit.
use Rattle.std.proofs.Common.{◌≡◌, ℕ, Bool, true, false, cond, ◌||◌, List, [], ◌∷◌, ◌++◌, Option, Some, None, refl, sym, ap, ◌∙◌, subst, arith}
use Rattle.std.specs.Prelude.{find, filter}
use Rattle.std.specs.List.{sum_by, list_any, flat_map}
use Rattle.std.proofs.lemmas.List.Sums.{sum_by-cons, sum_by-append}
use Rattle.std.proofs.lemmas.List.Folds.{list_any-append}
use Rattle.std.proofs.lemmas.List.{map-append}
use Rattle.std.proofs.lemmas.Option.{none-some, same_Some}
use Rattle.cpe_rows.specs.cpe_name.Eleven.{Values}
use Rattle.cpe_rows.specs.Names.{is_same}
use Rattle.cpe_rows.specs.Rows.{Rows, has_id, is_named}
use Rattle.cpe_rows.specs.After.{after, changed, deprecated, without_first}
use Rattle.cpe_rows.specs.Accepted.{IsAccepted}
use Rattle.cpe_rows.specs.Chains.{leads_to}
use Rattle.cpe_rows.specs.FactNames.{fact_names}
use Rattle.cpe_rows.specs.declared.entry.Entry.{Entry}
use Rattle.cpe_rows.specs.declared.entry.NoteKind.TheVariants as note
use Rattle.cpe_rows.specs.declared.edit.Edit.{Edit}
use Rattle.cpe_rows.specs.declared.edit.Edit.TheVariants as edit
use Rattle.cpe_rows.specs.declared.statement.Mode.{Mode}
use Rattle.cpe_rows.specs.declared.statement.Mode.TheVariants.{Plain, Follow}
use Rattle.cpe_rows.specs.declared.statement.Statement.{Statement}
use Rattle.cpe_rows.proofs.Accepted.{next_ends}
use Rattle.cpe_rows.proofs.NameTests.{same_is}
use Rattle.cpe_rows.proofs.Unrefused.{unrefused}
use Rattle.cpe_rows.specs.Touching.{deprecation_changed}
use Rattle.cpe_rows.proofs.DeprecationChanges.{leaves, same_ends_after}
use Rattle.name_index.specs.Elements.{SameElements}
use Rattle.fact_laws.specs.Asked.{leads, fresh_facts, statement_facts, asked, target_names, entry_names, names_of_rows}
use Rattle.fact_laws.proofs.Counted.{facts_with}
use Rattle.fact_laws.proofs.Names.{first_out, found_if_any, last_first, removes_first_of, removed_elsewhere, more_in_first, more_in_rest, sum_flat, turned}

abbrev facts_all : Statement → List Values
facts_all s = fact_names s.test

-- ---- items

pub item_there : (rows : Rows) (mode : Mode) (n : Values) → SameElements (leads rows.entries mode n ++ target_names rows mode) (target_names (after rows (edit.Item n)) mode)
item_there rows mode n = last_first (leads rows.entries mode) rows.items n

-- the search for an item's name finds the name
item_found : (rows : Rows) (n : Values) → list_any (is_same n) rows.items ≡ true → find (is_same n) rows.items ≡ Some n
item_found rows n h = let found = found_if_any (is_same n) rows.items h in found.1 ∙ ap Some (sym ((same_is n found.0).0 found.2))

pub item_left : (rows : Rows) (mode : Mode) (n : Values) → list_any (is_same n) rows.items ≡ true
    → SameElements (target_names rows mode) (leads rows.entries mode n ++ target_names (after rows (edit.DropItem n)) mode)
item_left rows mode n h = removes_first_of (leads rows.entries mode) (is_same n) rows.items n (item_found rows n h)

single_of : (xs : List Values) → flat_map (λ (x : Values). x ∷ []) xs ≡ xs
single_of [] = refl
single_of (x ∷ xs) = ap (λ (ys : List Values). x ∷ ys) (single_of xs)

pub item_kept : (rows : Rows) (n : Values) → SameElements (n ∷ names_of_rows rows) (names_of_rows (after rows (edit.Item n)))
item_kept rows n =
    let facts = flat_map facts_all rows.statements in
    let names = entry_names rows.entries in
    let more : List Values = rows.items ++ n ∷ [] in
    more_in_first (names ++ rows.items) (names ++ more) facts (n ∷ [])
    (more_in_rest names rows.items more (n ∷ []) (λ f. omega (arith, sum_by-cons f n rows.items, sum_by-append f rows.items (n ∷ []), sum_by-cons f n [])))

pub item_kept_without : (rows : Rows) (n : Values) → list_any (is_same n) rows.items ≡ true → SameElements (names_of_rows rows) (n ∷ names_of_rows (after rows (edit.DropItem n)))
item_kept_without rows n h =
    let facts = flat_map facts_all rows.statements in
    let rest = without_first (is_same n) rows.items in
    let names = entry_names rows.entries in
    turned (n ∷ (names ++ rest ++ facts)) (names_of_rows rows)
    (more_in_first (names ++ rest) (names ++ rows.items) facts (n ∷ [])
    (more_in_rest names rest rows.items (n ∷ []) (λ f. omega (arith, sum_by-cons f n rest, first_out (is_same n) f rows.items n (item_found rows n h)))))

-- ---- statements

-- lists with the same names have the same results under a function of names
pub same_seen : (g : Values → List Values) (new xs ys : List Values) → SameElements (new ++ xs) ys → SameElements (flat_map g new ++ flat_map g xs) (flat_map g ys)
same_seen g new xs ys same f =
    omega (
      arith,
      same (λ (x : Values). sum_by f (g x)),
      sum_by-append f (flat_map g new) (flat_map g xs),
      sum_by-append (λ (x : Values). sum_by f (g x)) new xs,
      sum_flat f g new,
      sum_flat f g xs,
      sum_flat f g ys,
    )

any_behind : (p : Statement → Bool) (ss : List Statement) (s : Statement) → list_any p (ss ++ s ∷ []) ≡ (p s || list_any p ss)
any_behind p ss s = list_any-append p ss (s ∷ []) ∙ turn (list_any p ss) (p s)
  where
    turn : (a b : Bool) → (a || (b || false)) ≡ (b || a)
    turn true true = refl
    turn true false = refl
    turn false true = refl
    turn false false = refl

any_out : (q p : Statement → Bool) (ss : List Statement) (s : Statement) → find q ss ≡ Some s → list_any p ss ≡ (p s || list_any p (without_first q ss))
any_out q p [] s e = absurd (none-some s e)
any_out q p (x ∷ ss) s e = by (q x) e (any_out q p ss s)
  where
    turn : (a b c : Bool) → (a || (b || c)) ≡ (b || (a || c))
    turn true true c = refl
    turn true false c = refl
    turn false true c = refl
    turn false false c = refl

    by : (b : Bool) → cond b (Some x) (find q ss) ≡ Some s → (find q ss ≡ Some s → list_any p ss ≡ (p s || list_any p (without_first q ss))) → (p x || list_any p ss) ≡ (p s || list_any p (cond b ss (x ∷ without_first q ss)))
    by true at later = ap (λ (y : Statement). p y || list_any p ss) (same_Some x s at)
    by false at later = ap (λ (b : Bool). p x || b) (later at) ∙ turn (p x) (p s) (list_any p (without_first q ss))

pub statement_asked : (rows : Rows) (mode : Mode) (s : Statement)
    → SameElements (flat_map (leads rows.entries mode) (fresh_facts mode rows.statements s) ++ asked rows mode) (asked (after rows (edit.PutStatement s)) mode)
statement_asked rows mode s =
    same_seen (leads rows.entries mode) (fresh_facts mode rows.statements s) (statement_facts mode rows.statements) (statement_facts mode (rows.statements ++ s ∷ []))
    (facts_with mode rows.statements (rows.statements ++ s ∷ []) s (λ p. any_behind p rows.statements s))

pub statement_asked_no_more : (rows : Rows) (mode : Mode) (id : List ℕ) (s : Statement) → find (has_id id) rows.statements ≡ Some s
    → SameElements (asked rows mode) (flat_map (leads rows.entries mode) (fresh_facts mode (after rows (edit.DropStatement id)).statements s) ++ asked (after rows (edit.DropStatement id)) mode)
statement_asked_no_more rows mode id s e =
    let rest = without_first (has_id id) rows.statements in
    turned (flat_map (leads rows.entries mode) (fresh_facts mode rest s) ++ flat_map (leads rows.entries mode) (statement_facts mode rest)) (asked rows mode)
    (same_seen (leads rows.entries mode) (fresh_facts mode rest s) (statement_facts mode rest) (statement_facts mode rows.statements)
    (facts_with mode rest rows.statements s (λ p. any_out (has_id id) p rows.statements s e)))

pub statement_kept : (rows : Rows) (s : Statement) → SameElements (fact_names s.test ++ names_of_rows rows) (names_of_rows (after rows (edit.PutStatement s)))
statement_kept rows s =
    let facts = flat_map facts_all rows.statements in
    let more = flat_map facts_all (rows.statements ++ s ∷ []) in
    more_in_rest (entry_names rows.entries ++ rows.items) facts more (fact_names s.test) (last_first facts_all rows.statements s)

pub statement_kept_without : (rows : Rows) (id : List ℕ) (s : Statement) → find (has_id id) rows.statements ≡ Some s
    → SameElements (names_of_rows rows) (fact_names s.test ++ names_of_rows (after rows (edit.DropStatement id)))
statement_kept_without rows id s e =
    let facts = flat_map facts_all rows.statements in
    let rest = flat_map facts_all (without_first (has_id id) rows.statements) in
    turned (fact_names s.test ++ (entry_names rows.entries ++ rows.items ++ rest)) (names_of_rows rows)
    (more_in_rest (entry_names rows.entries ++ rows.items) rest facts (fact_names s.test) (turned facts (fact_names s.test ++ rest) (removes_first_of facts_all (has_id id) rows.statements s e)))

-- ---- entries

module _ (rows next : Rows) (e : Entry) (h : IsAccepted rows (edit.Entry e) next) where
  left_is : after rows (edit.Entry e) ≡ next
  left_is = (unrefused h).1

  same_leads : (mode : Mode) (n : Values) → leads next.entries mode n ≡ leads rows.entries mode n
  same_leads Plain n = refl
  same_leads Follow n = next_ends rows next e h n

  same_statements : next.statements ≡ rows.statements
  same_statements = ap (λ (r : Rows). r.statements) (sym left_is)

  same_items : next.items ≡ rows.items
  same_items = ap (λ (r : Rows). r.items) (sym left_is)

  pub entry_asked : (mode : Mode) → asked next mode ≡ asked rows mode
  entry_asked mode = λ i. flat_map (λ n. same_leads mode n i) (statement_facts mode (same_statements i))

  pub entry_there : (mode : Mode) → target_names next mode ≡ target_names rows mode
  entry_there mode = λ i. flat_map (λ n. same_leads mode n i) (same_items i)

  pub entry_kept : SameElements (e.name ∷ names_of_rows rows) (names_of_rows next)
  entry_kept =
      let facts = flat_map facts_all rows.statements in
      let names = entry_names rows.entries in
      let more = entry_names (rows.entries ++ e ∷ []) in
      subst (λ (r : Rows). SameElements (e.name ∷ names_of_rows rows) (names_of_rows r)) left_is
      (more_in_first (names ++ rows.items) (more ++ rows.items) facts (e.name ∷ [])
      (more_in_first names more rows.items (e.name ∷ []) (λ f.
      omega (
        arith,
        sum_by-cons f e.name names,
        ap (sum_by f) (map-append (λ (x : Entry). x.name) rows.entries (e ∷ [])),
        sum_by-append f names (e.name ∷ []),
        sum_by-cons f e.name [],
      ))))

-- ---- deprecations

module _ (rows : Rows) (e : Edit) (n : Values) (h : deprecation_changed e ≡ Some n) where
  other_leads : (mode : Mode) (x : Values) → leads_to rows.entries x n ≡ false → leads (after rows e).entries mode x ≡ leads rows.entries mode x
  other_leads Plain x apart = refl
  other_leads Follow x apart = same_ends_after rows e n x h apart

  items_stay : (after rows e).items ≡ rows.items
  items_stay = ap (λ (r : Rows). r.items) (leaves rows e n h).left

  statements_stay : (after rows e).statements ≡ rows.statements
  statements_stay = ap (λ (r : Rows). r.statements) (leaves rows e n h).left

  pub led_there : (mode : Mode) → SameElements
      (flat_map (leads (after rows e).entries mode) (filter (λ x. leads_to rows.entries x n) rows.items) ++ target_names rows mode)
      (flat_map (leads rows.entries mode) (filter (λ x. leads_to rows.entries x n) rows.items) ++ target_names (after rows e) mode)
  led_there mode =
      subst (λ (items : List Values). SameElements (flat_map (leads (after rows e).entries mode) (filter (λ x. leads_to rows.entries x n) rows.items) ++ target_names rows mode) (flat_map (leads rows.entries mode) (filter (λ x. leads_to rows.entries x n) rows.items) ++ flat_map (leads (after rows e).entries mode) items)) (sym items_stay)
      (removed_elsewhere (leads rows.entries mode) (leads (after rows e).entries mode) (λ x. leads_to rows.entries x n) (other_leads mode) rows.items)

  pub led_asked : (mode : Mode) → SameElements
      (flat_map (leads (after rows e).entries mode) (filter (λ x. leads_to rows.entries x n) (statement_facts mode rows.statements)) ++ asked rows mode)
      (flat_map (leads rows.entries mode) (filter (λ x. leads_to rows.entries x n) (statement_facts mode rows.statements)) ++ asked (after rows e) mode)
  led_asked mode =
      subst (λ (ss : List Statement). SameElements (flat_map (leads (after rows e).entries mode) (filter (λ x. leads_to rows.entries x n) (statement_facts mode rows.statements)) ++ asked rows mode) (flat_map (leads rows.entries mode) (filter (λ x. leads_to rows.entries x n) (statement_facts mode rows.statements)) ++ flat_map (leads (after rows e).entries mode) (statement_facts mode ss))) (sym statements_stay)
      (removed_elsewhere (leads rows.entries mode) (leads (after rows e).entries mode) (λ x. leads_to rows.entries x n) (other_leads mode) (statement_facts mode rows.statements))

  pub plain_asked : asked (after rows e) Plain ≡ asked rows Plain
  plain_asked = ap (λ (ss : List Statement). flat_map (λ x. x ∷ []) (statement_facts Plain ss)) statements_stay

  pub plain_there : target_names (after rows e) Plain ≡ target_names rows Plain
  plain_there = ap (λ (items : List Values). flat_map (λ x. x ∷ []) items) items_stay

-- a change of an entry leaves its name unchanged
names_stay : (f : Entry → Entry) (m : Values) → ((a : Entry) → (f a).name ≡ a.name) → (es : List Entry) → entry_names (changed f m es) ≡ entry_names es
names_stay f m keeps [] = refl
names_stay f m keeps (x ∷ xs) = by (is_named m x) (names_stay f m keeps xs)
  where
    by : (b : Bool) → entry_names (changed f m xs) ≡ entry_names xs → entry_names (cond b (f x ∷ xs) (x ∷ changed f m xs)) ≡ x.name ∷ entry_names xs
    by true later = ap (λ (y : Values). y ∷ entry_names xs) (keeps x)
    by false later = ap (λ (ys : List Values). x.name ∷ ys) later

no_name : {n : Values} {P : Type 0} → ◌≡◌ {A = Option Values} None (Some n) → P
no_name h = let wrong : ⊥ = cc in absurd wrong

pub led_kept : (rows : Rows) (e : Edit) (n : Values) → deprecation_changed e ≡ Some n → names_of_rows (after rows e) ≡ names_of_rows rows
led_kept rows (edit.Deprecate m d date comment) n h = ap (λ (ns : List Values). ns ++ rows.items ++ flat_map facts_all rows.statements) (names_stay (deprecated (Some d) note.Deprecation date comment) m (λ a. refl) rows.entries)
led_kept rows (edit.Amend m d date comment) n h = ap (λ (ns : List Values). ns ++ rows.items ++ flat_map facts_all rows.statements) (names_stay (deprecated (Some d) note.DeprecationModification date comment) m (λ a. refl) rows.entries)
led_kept rows (edit.Restore m date comment) n h = ap (λ (ns : List Values). ns ++ rows.items ++ flat_map facts_all rows.statements) (names_stay (deprecated None note.DeprecationModification date comment) m (λ a. refl) rows.entries)
led_kept rows (edit.Entry x) n h = no_name h
led_kept rows (edit.Item m) n h = no_name h
led_kept rows (edit.DropItem m) n h = no_name h
led_kept rows (edit.PutStatement s) n h = no_name h
led_kept rows (edit.DropStatement id) n h = no_name h
led_kept rows (edit.SetCheck k t) n h = no_name h
led_kept rows (edit.DropCheck k) n h = no_name h
