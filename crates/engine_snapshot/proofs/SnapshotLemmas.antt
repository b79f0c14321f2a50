-- To read a snapshot row by row is to read all of its rows.
use Rattle.std.proofs.Common.{◌≡◌, ℕ, Bool, true, false, List, [], length, Option, Some, None, cond, eqb, refl, sym, ap, subst, ◌∙◌}
use Rattle.std.proofs.lemmas.Bool.{eqb-true}
use Rattle.std.proofs.lemmas.List.{nil_from_length}
use Rattle.cpe_rows.specs.cpe_name.Eleven.{Values}
use Rattle.cpe_rows.specs.Lawful.{IsLawful}
use Rattle.cpe_rows.specs.Rows.{Rows}
use Rattle.cpe_rows.specs.declared.statement.Statement.{Statement}
use Rattle.snapshot_bytes.specs.Reading.{◌>>=◌, read_both, entry_at, head_at, many, name_at, result_at, rows_at, rows_from, rows_of, statement_at, read_whole}
use Rattle.snapshot_bytes.specs.States.{AreMeant, AreMeantEntries, Snap}
use Rattle.snapshot_bytes.specs.declared.load.Head.{Head}
use Rattle.snapshot_bytes.specs.declared.rows.KeptResult.{KeptResult}
use Rattle.snapshot_bytes.specs.declared.rows.PlacedEntry.{PlacedEntry}
use Rattle.snapshot_bytes.specs.declared.rows.PlacedRows.{PlacedRows}
use Rattle.snapshot_bytes.proofs.Readers.{bind_some, IsBytes, some_is}
use Rattle.snapshot_bytes.proofs.RowsReader.{rows_spelled, spelled_are_read}
use Rattle.snapshot_bytes.proofs.StateLemmas.{one_state}
use Rattle.engine_snapshot.specs.Begun.{with_items, with_statements}
use Rattle.engine_snapshot.specs.Begun.{entries_alone}
use Rattle.engine_snapshot.specs.Read.{AreEntriesLoaded, NoEntries, Others, with_others}
use Rattle.engine_snapshot.proofs.PartsRead.{in_both}
use Rattle.engine_snapshot.proofs.Taken.{lawful_before_checks, lawful_before_items, lawful_before_statements}

-- ---- the end

whole_some : {A : Type 0} (x : A × List ℕ) (y : A) → read_whole x ≡ Some y → (x.0 ≡ y) × (x.1 ≡ [])
whole_some x y e = go (eqb (length x.1) 0) refl e where
  go : (b : Bool) → eqb (length x.1) 0 ≡ b → cond b (Some x.0) None ≡ Some y → (x.0 ≡ y) × (x.1 ≡ [])
  go true is e = (some_is x.0 y e, nil_from_length x.1 (eqb-true (length x.1) 0 is))
  go false is e = absurd cc

-- ---- the head

after_head : (bytes : List ℕ) (head : Head) (left : List ℕ) → head_at bytes ≡ Some (head, left) → rows_of bytes ≡ (rows_at head left >>= λ x. read_whole x)
unfolding rows_of
after_head bytes head left is = rw is refl

without_head : (bytes : List ℕ) → head_at bytes ≡ None → rows_of bytes ≡ None
unfolding rows_of
without_head bytes is = rw is refl

-- ---- the rows

abbrev Rest : Type 0
Rest = List Values × (List Statement × List KeptResult)

abbrev rest_at : Head → List ℕ → Option (Rest × List ℕ)
rest_at h bytes = read_both (many name_at h.items) (read_both (many statement_at h.statements) (many result_at h.results)) bytes

-- The rows of all parts, to the end of the bytes.
record InRows (head : Head) (bytes : List ℕ) (p : PlacedRows) : Type 0 where
  pub entries : List PlacedEntry
  pub after_entries : List ℕ
  pub rest : Rest
  pub entries_are : many entry_at head.entries bytes ≡ Some (entries, after_entries)
  pub rest_is : rest_at head after_entries ≡ Some (rest, [])
  pub rows_are : rows_from (entries, rest) ≡ p

in_rows : (head : Head) (bytes : List ℕ) (p : PlacedRows) → (rows_at head bytes >>= λ x. read_whole x) ≡ Some p → InRows head bytes p
unfolding rows_at
in_rows head bytes p e =
    let b = bind_some (rows_at head bytes) (λ x. read_whole x) p e in
    let w = whole_some b.0 p b.2 in
    let c = bind_some (read_both (many entry_at head.entries) (rest_at head) bytes) (λ x. Some (rows_from x.0, x.1)) b.0 b.1 in
    let rows : PlacedRows × List ℕ = (rows_from c.0.0, c.0.1) in
    let is : rows ≡ b.0 = some_is rows b.0 c.2 in
    let m = in_both (many entry_at head.entries) (rest_at head) bytes c.0 c.1 in
    record {
      entries = c.0.0.0;
      after_entries = m.left;
      rest = c.0.0.1;
      entries_are = m.first_is;
      rest_is = m.second_is ∙ ap (λ (l : List ℕ). Some (c.0.0.1, l)) (ap (λ (q : PlacedRows × List ℕ). q.1) is ∙ w.1);
      rows_are = ap (λ (q : PlacedRows × List ℕ). q.0) is ∙ w.0;
    }

in_others : (head : Head) (bytes : List ℕ) (rest : Rest) → rest_at head bytes ≡ Some (rest, [])
    → (others : Others head bytes) × ((others.items, (others.statements, others.results)) ≡ rest)
in_others head bytes rest e =
    let m = in_both (many name_at head.items) (read_both (many statement_at head.statements) (many result_at head.results)) bytes (rest, []) e in
    let n = in_both (many statement_at head.statements) (many result_at head.results) m.left (rest.1, []) m.second_is in (
      record {
        items = rest.0;
        after_items = m.left;
        statements = rest.1.0;
        after_statements = n.left;
        results = rest.1.1;
        items_are = m.first_is;
        statements_are = n.first_is;
        results_are = n.second_is;
      },
      refl,
    )

abbrev pub rows_with : {head : Head} → {bytes : List ℕ} → List PlacedEntry → Others head bytes → PlacedRows
rows_with entries others = record { entries = entries; items = others.items; statements = others.statements; results = others.results }

-- ---- what holds for rows that have these bytes as their snapshot

module _ (bytes : List ℕ) (rows : Rows) (snap : Snap rows bytes) where
  said : rows_of bytes ≡ Some snap.0
  said = spelled_are_read snap.0 bytes snap.2

  none_said : rows_of bytes ≡ None → ⊥
  none_said none = absurd (nothing snap.0 (sym none ∙ said)) where
    nothing : (p : PlacedRows) → ◌≡◌ {A = Option PlacedRows} None (Some p) → ⊥
    nothing p e = cc

  pub has_head : head_at bytes ≡ None → ⊥
  has_head none = none_said (without_head bytes none)

  module _ (head : Head) (left : List ℕ) (head_is : head_at bytes ≡ Some (head, left)) where
    parts : InRows head left snap.0
    parts = in_rows head left snap.0 (sym (after_head bytes head left head_is) ∙ said)

    meant : AreMeantEntries parts.entries parts.entries rows.entries
    meant = subst (λ (p : PlacedRows). AreMeantEntries p.entries p.entries rows.entries) (sym parts.rows_are) snap.1.entries

    lawful_entries : IsLawful rows → IsLawful (entries_alone rows.entries)
    lawful_entries lawful =
        lawful_before_items (entries_alone rows.entries) rows.items
        (lawful_before_statements (with_items (entries_alone rows.entries) rows.items) rows.statements
        (lawful_before_checks (with_statements (with_items (entries_alone rows.entries) rows.items) rows.statements) rows.checks lawful))

    pub has_entries : IsLawful rows → NoEntries (many entry_at head.entries left) → ⊥
    has_entries lawful none = none parts.entries parts.after_entries rows.entries parts.entries_are meant (lawful_entries lawful)

    module _ (next : List ℕ) (engine : Rows) (loaded : AreEntriesLoaded (many entry_at head.entries left) next engine) where
      abbrev Entries : Type 0
      Entries = List PlacedEntry × List ℕ

      abbrev read_first : Entries
      read_first = (loaded.placed, next)

      abbrev said_first : Entries
      said_first = (parts.entries, parts.after_entries)

      same : said_first ≡ read_first
      same = some_is said_first read_first (sym parts.entries_are ∙ loaded.are_read)

      rest_there : rest_at head next ≡ Some (parts.rest, [])
      rest_there = ap (rest_at head) (sym (ap (λ (q : Entries). q.1) same)) ∙ parts.rest_is

      found : (o : Others head next) × ((o.items, (o.statements, o.results)) ≡ parts.rest)
      found = in_others head next parts.rest rest_there

      abbrev others : Others head next
      others = found.0

      same_rows : snap.0 ≡ rows_with loaded.placed others
      same_rows = sym parts.rows_are ∙ (λ i. rows_from ((same i).0, sym found.1 i))

      rows_are : rows ≡ with_others (entries_alone loaded.entries) others
      rows_are =
          one_state (rows_with loaded.placed others) rows (with_others (entries_alone loaded.entries) others)
          (subst (λ (p : PlacedRows). AreMeant p rows) same_rows snap.1)
          (record { entries = loaded.are_meant; items = refl; statements = refl; checks = refl })

      pub has_others : IsLawful rows → ((others : Others head next) → IsLawful (with_others engine others) → ⊥) → ⊥
      has_others lawful none =
          none others (subst IsLawful (rows_are ∙ ap (λ (r : Rows). with_others r others) (sym loaded.are_rows)) lawful)

-- ---- the rows that are read have these bytes as their snapshot

all_read : (bytes : List ℕ) (head : Head) (left : List ℕ) (entries : List PlacedEntry) (next : List ℕ) (others : Others head next) → head_at bytes ≡ Some (head, left)
    → many entry_at head.entries left ≡ Some (entries, next) → rows_of bytes ≡ Some (rows_with entries others)
unfolding rows_at
all_read bytes head left entries next others head_is entries_are =
    after_head bytes head left head_is ∙ rw (entries_are, others.items_are, others.statements_are, others.results_are) refl

pub is_snap : (bytes : List ℕ) (head : Head) (left next : List ℕ) (engine rows : Rows) (others : Others head next) → IsBytes bytes → head_at bytes ≡ Some (head, left)
    → AreEntriesLoaded (many entry_at head.entries left) next engine → rows ≡ with_others engine others → Snap rows bytes
is_snap bytes head left next engine rows others are head_is loaded is =
    let p = rows_with loaded.placed others in
    let meant : AreMeant p (with_others (entries_alone loaded.entries) others) = record { entries = loaded.are_meant; items = refl; statements = refl; checks = refl } in (
      p,
      subst (λ (r : Rows). AreMeant p r) (sym (is ∙ ap (λ (r : Rows). with_others r others) loaded.are_rows)) meant,
      rows_spelled bytes p are (all_read bytes head left loaded.placed next others head_is loaded.are_read),
    )
