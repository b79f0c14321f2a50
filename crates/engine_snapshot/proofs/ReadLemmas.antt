-- Rows that are added as they are read, one after another: the added rows and the rows still to be read are all rows.
use Rattle.std.proofs.Common.{◌≡◌, ℕ, ◌+◌, ◌-◌, ◌≤◌, ◌<◌, List, [], ◌∷◌, ◌++◌, map, Option, Some, None, Err, refl, sym, ap, subst, ◌∙◌, append_assoc}
use Rattle.std.proofs.lemmas.List.{append-nil, map-append}
use Rattle.cpe_rows.specs.cpe_name.Eleven.{Values}
use Rattle.cpe_rows.specs.Rows.{Rows}
use Rattle.cpe_rows.specs.declared.entry.Entry.{Entry}
use Rattle.cpe_rows.specs.declared.statement.Statement.{Statement}
use Rattle.cpe_rows.specs.declared.test.CheckKey.{CheckKey}
use Rattle.cpe_rows.specs.declared.truth.Truth.{Truth}
use Rattle.snapshot_bytes.specs.Reading.{many, Took}
use Rattle.snapshot_bytes.specs.States.{pair_of_result}
use Rattle.snapshot_bytes.specs.declared.fault.LoadFault.{LoadFault}
use Rattle.snapshot_bytes.specs.declared.fault.LoadFault.TheVariants.{NotSnapshot}
use Rattle.snapshot_bytes.specs.declared.rows.KeptResult.{KeptResult}
use Rattle.snapshot_bytes.specs.declared.rows.PlacedDeprecation.{PlacedDeprecation}
use Rattle.snapshot_bytes.specs.declared.rows.PlacedEntry.{PlacedEntry}
use Rattle.snapshot_bytes.proofs.Loop.{ends, is_continued, is_done, with_prefix}
use Rattle.engine_snapshot.specs.Begun.{with_items, with_statements}
use Rattle.engine_snapshot.specs.Meant.{active_placed}
use Rattle.engine_snapshot.specs.Read.{ArePut, NonePut, NotAfter, with_placed, with_results}

-- ---- adding no row, and adding more

pub no_items : (rows : Rows) → with_items rows [] ≡ rows
no_items rows = ap (λ (ns : List Values). record rows { items = ns }) (append-nil rows.items)

pub more_items : (rows : Rows) (xs ys : List Values) → with_items (with_items rows xs) ys ≡ with_items rows (xs ++ ys)
more_items rows xs ys = ap (λ (ns : List Values). record rows { items = ns }) (append_assoc rows.items xs ys)

pub no_statements : (rows : Rows) → with_statements rows [] ≡ rows
no_statements rows = ap (λ (ss : List Statement). record rows { statements = ss }) (append-nil rows.statements)

pub more_statements : (rows : Rows) (xs ys : List Statement) → with_statements (with_statements rows xs) ys ≡ with_statements rows (xs ++ ys)
more_statements rows xs ys = ap (λ (ss : List Statement). record rows { statements = ss }) (append_assoc rows.statements xs ys)

pub no_results : (rows : Rows) → with_results rows [] ≡ rows
no_results rows = ap (λ (cs : List (CheckKey × Truth)). record rows { checks = cs }) (append-nil rows.checks)

pub more_results : (rows : Rows) (xs ys : List KeptResult) → with_results (with_results rows xs) ys ≡ with_results rows (xs ++ ys)
more_results rows xs ys =
    ap (λ (cs : List (CheckKey × Truth)). record rows { checks = cs })
    (append_assoc rows.checks (map pair_of_result xs) (map pair_of_result ys) ∙ ap (λ (cs : List (CheckKey × Truth)). rows.checks ++ cs) (sym (map-append pair_of_result xs ys)))

pub no_placed : (rows : Rows) → with_placed rows [] ≡ rows
no_placed rows = ap (λ (es : List Entry). record rows { entries = es }) (append-nil rows.entries)

pub more_placed : (rows : Rows) (xs ys : List PlacedEntry) → with_placed (with_placed rows xs) ys ≡ with_placed rows (xs ++ ys)
more_placed rows xs ys =
    ap (λ (es : List Entry). record rows { entries = es })
    (append_assoc rows.entries (map active_placed xs) (map active_placed ys) ∙ ap (λ (es : List Entry). rows.entries ++ es) (sym (map-append active_placed xs ys)))

-- ---- the rows so far

-- These rows are added, and with the rows still to be read they are all rows.
pub record ArePutSoFar {A : Type 0} (put : Rows → List A → Rows) (total rest : Option (List A × List ℕ)) (old now : Rows) : Type 0 where
  pub rows : List A
  pub so_far : with_prefix rows rest ≡ total
  pub are_put : now ≡ put old rows

nothing_some : {A : Type 0} (x : A) → ◌≡◌ {A = Option A} None (Some x) → ⊥
nothing_some x e = cc

some_same : {A : Type 0} (x y : A) → ◌≡◌ {A = Option A} (Some x) (Some y) → x ≡ y
some_same x y e = cc

behind : {A : Type 0} (prefix : List A) (rest : Option (List A × List ℕ)) (xs : List A) (left : List ℕ) → with_prefix prefix rest ≡ Some (xs, left) → (more : List A) × (xs ≡ prefix ++ more)
behind prefix None xs left e = absurd (nothing_some (xs, left) e)
behind prefix (Some r) xs left e = (r.0, sym (ap (λ (q : List _ × List ℕ). q.0) (some_same (prefix ++ r.0, r.1) (xs, left) e)))

pub with_none : {A : Type 0} (rest : Option (List A × List ℕ)) → with_prefix [] rest ≡ rest
with_none None = refl
with_none (Some r) = refl

took_none : {A : Type 0} (f : LoadFault) (left : List ℕ) (read : Option (A × List ℕ)) → f ≡ NotSnapshot → Took (Err f) left read → read ≡ None
took_none f left read is took = subst (λ g. Took (Err g) left read) is took

module _ {A : Type 0} (put : Rows → List A → Rows) (no_more : (rows : Rows) → put rows [] ≡ rows) where
  abbrev pub starts : (rows : Rows) (total rest : Option (List A × List ℕ)) → rest ≡ total → ArePutSoFar put total rest rows rows
  starts rows total rest all = record { rows = []; so_far = with_none rest ∙ all; are_put = sym (no_more rows) }

module _ {A : Type 0} (read : List ℕ → Option (A × List ℕ)) {put : Rows → List A → Rows} (more_of : (rows : Rows) (xs ys : List A) → put (put rows xs) ys ≡ put rows (xs ++ ys))
    {total : Option (List A × List ℕ)} {old now : Rows} (count i : ℕ) (bytes : List ℕ) (so_far : ArePutSoFar put total (many read (count - i) bytes) old now) where
  abbrev pub steps : {next : Rows} {x : A} {after : List ℕ} → i < count → read bytes ≡ Some (x, after) → next ≡ put now (x ∷ []) → ArePutSoFar put total (many read (count - (i + 1)) after) old next
  steps {x = x} {after = after} below is put_is = record {
    rows = so_far.rows ++ x ∷ [];
    so_far = is_continued read so_far.rows count i bytes x after total below is so_far.so_far;
    are_put = put_is ∙ ap (λ r. put r (x ∷ [])) so_far.are_put ∙ more_of old so_far.rows (x ∷ []);
  }

  abbrev pub are_done : count ≤ i → ArePut put total bytes old now
  are_done past = record { rows = so_far.rows; are_read = is_done read so_far.rows count i bytes total past so_far.so_far; are_put = so_far.are_put }

  pub unread : (Fits : Rows → Type 0) {f : LoadFault} (left : List ℕ) → i < count → Took (Err f) left (read bytes) → NonePut put Fits total old f
  unread Fits {f = f} left below took is xs end found fit =
      let none = took_none f left total is (ends read f so_far.rows count i bytes left left total below took so_far.so_far) in
      nothing_some (xs, end) (sym none ∙ found)

  pub unput : (Fits : Rows → Type 0) {f : LoadFault} {x : A} {after : List ℕ} → i < count → read bytes ≡ Some (x, after) → NotAfter put Fits now x f → NonePut put Fits total old f
  unput Fits {x = x} {after = after} below here not_after is xs end found fit =
      let prefix : List A = so_far.rows ++ x ∷ [] in
      let next = is_continued read so_far.rows count i bytes x after total below here so_far.so_far in
      let b = behind prefix (many read (count - (i + 1)) after) xs end (next ∙ found) in
      let all : put old xs ≡ put now (x ∷ b.0) =
      ap (put old) (b.1 ∙ append_assoc so_far.rows (x ∷ []) b.0) ∙ sym (more_of old so_far.rows (x ∷ b.0)) ∙ ap (λ r. put r (x ∷ b.0)) (sym so_far.are_put) in
      not_after is b.0 (subst Fits all fit)

-- The same for entries, with their deprecations.
pub record AreEntriesSoFar (total rest : Option (List PlacedEntry × List ℕ)) (old now : Rows) (deprecations : List (Option PlacedDeprecation)) : Type 0 where
  pub are_put : ArePutSoFar with_placed total rest old now
  pub deprecations_are : deprecations ≡ map (λ p. p.deprecation) are_put.rows
