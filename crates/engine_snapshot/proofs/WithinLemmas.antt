-- Rows that have a snapshot consist of texts, so no snapshot is too long.
use Rattle.std.proofs.Common.{◌≡◌, sym, ◌∙◌, subst, ℕ, zero, suc, ◌≤◌, List, [], ◌∷◌, length, map}
use Rattle.std.specs.List.{AllByRecursion, flat_map}
use Rattle.cpe_rows.specs.Rows.{Rows}
use Rattle.cpe_rows.specs.declared.entry.Entry.{Entry}
use Rattle.cpe_rows.specs.declared.entry.Note.{Note}
use Rattle.cpe_rows.specs.declared.entry.Provenance.{Provenance}
use Rattle.cpe_rows.specs.declared.statement.Statement.{Statement}
use Rattle.cpe_rows.specs.declared.test.CheckKey.{CheckKey}
use Rattle.cpe_rows.specs.declared.test.Test.{Test, out-Test}
use Rattle.cpe_rows.specs.declared.test.Test.TheOpen.{Test-F}
use Rattle.cpe_rows.specs.declared.test.Test.TheViews.{roll-Test, roll-out-Test}
use Rattle.cpe_rows.specs.declared.test.Test.TheVariants.{rolls-Logic, rolls-Fact, rolls-Check}
use Rattle.cpe_rows.specs.declared.truth.Truth.{Truth}
use Rattle.snapshot_bytes.specs.declared.rows.KeptResult.{KeptResult}
use Rattle.snapshot_bytes.specs.declared.rows.PlacedEntry.{PlacedEntry}
use Rattle.snapshot_bytes.specs.declared.rows.PlacedRows.{PlacedRows}
use Rattle.snapshot_bytes.specs.StoredRows.{IsStoredNote, IsStoredEntry, IsStoredKey, IsStoredStep, IsStoredTest, IsStoredStatement, IsStoredResult, IsCountedList, AreStored}
use Rattle.snapshot_bytes.specs.States.{AreMeantEntries, IsMeant, AreMeant, pair_of_result, IsString, IsTextEntry, IsTextKey, keys_of, IsTextStatement, AreTexts, SnapshotsAreWithin, StatesHaveOne}
use Rattle.engine_snapshot.specs.Within.{SnapsAreWithin}
use Rattle.snapshot_bytes.proofs.TextLemmas.{all_appended, keys_check, keys_fact, keys_logic}

-- ---- entries

comments_said : (notes : List Note) → AllByRecursion IsStoredNote notes → AllByRecursion (λ (n : Note). IsString n.comment) notes
comments_said [] stored = tt
comments_said (n ∷ notes) stored = (stored.0.1.1, comments_said notes stored.1)

entry_said : (all : List PlacedEntry) (p : PlacedEntry) (e : Entry) → IsStoredEntry p → IsMeant all p e → IsTextEntry e
entry_said all p e stored meant = record {
  title = subst IsString meant.title stored.title.1;
  submitter = subst (λ (v : Provenance). IsString v.submitter) meant.provenance stored.submitter.1;
  authority = subst (λ (v : Provenance). IsString v.authority) meant.provenance stored.authority.1;
  comments = subst (λ (v : Provenance). AllByRecursion (λ (n : Note). IsString n.comment) v.notes) meant.provenance (comments_said p.provenance.notes stored.notes.1);
}

entries_said : (all ps : List PlacedEntry) (es : List Entry) → AllByRecursion IsStoredEntry ps → AreMeantEntries all ps es → AllByRecursion IsTextEntry es
entries_said all [] [] stored meant = tt
entries_said all [] (e ∷ es) stored meant = absurd meant
entries_said all (p ∷ ps) [] stored meant = absurd meant
entries_said all (p ∷ ps) (e ∷ es) stored meant = (entry_said all p e stored.0 meant.0, entries_said all ps es stored.1 meant.1)

-- ---- keys

key_said : (k : CheckKey) → IsStoredKey k → IsTextKey k
key_said k stored = record { system = stored.0.1; href = stored.1.1; id = stored.2.1 }

each_said : (levels : ℕ) → ((t : Test) → IsStoredTest levels t → AllByRecursion IsTextKey (keys_of t)) → (of : List Test) → AllByRecursion (IsStoredTest levels) of
    → AllByRecursion IsTextKey (flat_map keys_of of)
each_said levels said [] stored = tt
each_said levels said (t ∷ of) stored = all_appended IsTextKey (keys_of t) (flat_map keys_of of) (said t stored.0) (each_said levels said of stored.1)

step_said : (AreChildren : List Test → Type 0) (t : Test) → ((of : List Test) → AreChildren of → AllByRecursion IsTextKey (flat_map keys_of of)) → IsStoredStep AreChildren (out-Test t)
    → AllByRecursion IsTextKey (keys_of t)
step_said AreChildren t children stored = go (out-Test t) (roll-out-Test t) stored where
  go : (y : Test-F Test) → roll-Test y ≡ t → IsStoredStep AreChildren y → AllByRecursion IsTextKey (keys_of t)
  go (Test-F.Logic operator negate of) is fits =
      subst (λ u. AllByRecursion IsTextKey (keys_of u)) (sym (rolls-Logic operator negate of) ∙ is)
      (subst (AllByRecursion IsTextKey) (sym (keys_logic operator negate of)) (children of fits))
  go (Test-F.Fact n) is fits = subst (λ u. AllByRecursion IsTextKey (keys_of u)) (sym (rolls-Fact n) ∙ is) (subst (AllByRecursion IsTextKey) (sym (keys_fact n)) tt)
  go (Test-F.Check k) is fits =
      subst (λ u. AllByRecursion IsTextKey (keys_of u)) (sym (rolls-Check k) ∙ is) (subst (AllByRecursion IsTextKey) (sym (keys_check k)) (key_said k fits, tt))

keys_said : (levels : ℕ) (t : Test) → IsStoredTest levels t → AllByRecursion IsTextKey (keys_of t)
keys_said zero t stored = step_said (λ of. ⊥) t (λ of none. absurd none) stored
keys_said (suc levels) t stored = step_said (IsCountedList (IsStoredTest levels)) t (λ of counted. each_said levels (keys_said levels) of counted.1) stored

-- ---- all rows

statements_said : (ss : List Statement) → AllByRecursion IsStoredStatement ss → AllByRecursion IsTextStatement ss
statements_said [] stored = tt
statements_said (s ∷ ss) stored = (record { id = stored.0.id.1; title = stored.0.title.1; keys = keys_said 32 s.test stored.0.test }, statements_said ss stored.1)

results_said : (rs : List KeptResult) → AllByRecursion IsStoredResult rs → AllByRecursion (λ (c : CheckKey × Truth). IsTextKey c.0) (map pair_of_result rs)
results_said [] stored = tt
results_said (r ∷ rs) stored = (key_said r.key stored.0, results_said rs stored.1)

stored_are_texts : (placed : PlacedRows) (rows : Rows) → AreStored placed → AreMeant placed rows → AreTexts rows
stored_are_texts placed rows stored meant = record {
  entries = entries_said placed.entries placed.entries rows.entries stored.entries.1 meant.entries;
  statements = subst (AllByRecursion IsTextStatement) meant.statements (statements_said placed.statements stored.statements.1);
  checks = subst (AllByRecursion (λ (c : CheckKey × Truth). IsTextKey c.0)) meant.checks (results_said placed.results stored.results.1);
}

pub snaps_are_within : StatesHaveOne → SnapshotsAreWithin → SnapsAreWithin
snaps_are_within one within rows bytes lawful snap =
    subst (λ (b : List ℕ). length b ≤ 536870936) (sym (one rows bytes lawful snap)) (within rows lawful (stored_are_texts snap.0 rows snap.2.0 snap.1))
