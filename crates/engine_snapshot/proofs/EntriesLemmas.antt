-- Entries that are added as active ones, and then get their deprecations.
use Rattle.std.proofs.Common.{◌≡◌, ℕ, true, List, length, map, Option, Some, refl, sym, ap, subst, ◌∙◌}
use Rattle.std.specs.Prelude.{is_none}
use Rattle.std.specs.List.{list_all}
use Rattle.cpe_rows.specs.Lawful.{IsLawful}
use Rattle.cpe_rows.specs.Rows.{no_rows, Rows}
use Rattle.cpe_rows.specs.declared.entry.Deprecation.{Deprecation}
use Rattle.cpe_rows.specs.declared.entry.Entry.{Entry}
use Rattle.cpe_engine.specs.Adopting.{each_deprecated, IsBare, with_deprecations}
use Rattle.snapshot_bytes.specs.States.{AreMeantEntries}
use Rattle.snapshot_bytes.specs.declared.rows.PlacedDeprecation.{PlacedDeprecation}
use Rattle.snapshot_bytes.specs.declared.rows.PlacedEntry.{PlacedEntry}
use Rattle.snapshot_bytes.proofs.Readers.{some_is}
use Rattle.engine_snapshot.specs.Begun.{AreFine}
use Rattle.engine_snapshot.specs.Meant.{active_placed, AreGiven, AreMeantDeprecations, undeprecated}
use Rattle.engine_snapshot.specs.Begun.{entries_alone}
use Rattle.engine_snapshot.specs.Read.{AreEntriesLoaded, AreEntriesPut, NoEntries, with_placed}
use Rattle.engine_snapshot.proofs.MeantLemmas.{active_placed_each, deprecations_in, deprecations_meant, entries_meant, even_placed, from_seen, given_back, given_in, nones, nones_are_meant, seen, still_active, to_seen}
use Rattle.engine_snapshot.proofs.RowLemmas.{fine}

bare_each : (ps : List PlacedEntry) → IsBare (entries_alone (map active_placed ps))
bare_each ps = record { active = active_placed_each ps; items = refl; statements = refl; checks = refl }

lawful_given : (ps : List PlacedEntry) (es : List Entry) → AreMeantEntries ps ps es → IsLawful (entries_alone es) → IsLawful (with_deprecations (entries_alone (map active_placed ps)) (given_in es))
lawful_given ps es meant lawful = subst (λ (l : List Entry). IsLawful (entries_alone l)) (sym (given_back ps ps es meant)) lawful

-- if no entry has a deprecation
pub none_are_given : (rows : Rows) (all : List (Option PlacedDeprecation)) → IsBare rows → list_all is_none all ≡ true → AreGiven rows all rows
none_are_given rows all bare none = record {
  deprecations = nones all;
  are_meant = nones_are_meant (map undeprecated rows.entries) all none;
  are_given = ap (λ (es : List Entry). record rows { entries = es }) (sym (still_active rows.entries all bare.active));
}

-- if no entries that fit can be added
pub none_put : (read : Option (List PlacedEntry × List ℕ)) (old : Rows) → old ≡ no_rows
    → ((xs : List PlacedEntry) (left : List ℕ) → read ≡ Some (xs, left) → AreFine (with_placed old xs) → ⊥) → NoEntries read
none_put read old none refused placed left entries found meant lawful =
    refused placed left found
    (subst (λ (r : Rows). AreFine (with_placed r placed)) (sym none)
    (fine (map active_placed placed) (given_in entries) (active_placed_each placed) (lawful_given placed entries meant lawful)))

module _ (read : Option (List PlacedEntry × List ℕ)) (next : List ℕ) (old engine : Rows) (deprecations all : List (Option PlacedDeprecation)) (none : old ≡ no_rows)
    (put : AreEntriesPut read next old engine deprecations) (lent : all ≡ deprecations) where
  abbrev ps : List PlacedEntry
  ps = put.are_put.rows

  alone : engine ≡ entries_alone (map active_placed ps)
  alone = put.are_put.are_put ∙ ap (λ (r : Rows). with_placed r ps) none

  are_all : all ≡ deprecations_in ps
  are_all = lent ∙ put.deprecations_are

  pub is_bare : IsBare engine
  is_bare = subst IsBare (sym alone) (bare_each ps)

  pub is_even : length all ≡ length engine.entries
  is_even = ap length are_all ∙ even_placed ps ∙ ap (λ (r : Rows). length r.entries) (sym alone)

  there : (ds : List (Option Deprecation)) → AreMeantDeprecations (seen ps) (deprecations_in ps) ds → AreMeantDeprecations (map undeprecated engine.entries) all ds
  there ds are =
      subst (λ (r : Rows). AreMeantDeprecations (map undeprecated r.entries) all ds) (sym alone)
      (subst (λ (os : List (Option PlacedDeprecation)). AreMeantDeprecations (seen ps) os ds) (sym are_all) are)

  back : (ds : List (Option Deprecation)) → AreMeantDeprecations (map undeprecated engine.entries) all ds → AreMeantDeprecations (seen ps) (deprecations_in ps) ds
  back ds are =
      subst (λ (os : List (Option PlacedDeprecation)). AreMeantDeprecations (seen ps) os ds) are_all
      (subst (λ (r : Rows). AreMeantDeprecations (map undeprecated r.entries) all ds) alone are)

  pub none_given : ((ds : List (Option Deprecation)) → AreMeantDeprecations (map undeprecated engine.entries) all ds → IsLawful (with_deprecations engine ds) → ⊥) → NoEntries read
  none_given refused placed left entries found meant lawful =
      let one : List PlacedEntry × List ℕ = (ps, next) in
      let two : List PlacedEntry × List ℕ = (placed, left) in
      let same : one ≡ two = some_is one two (sym put.are_put.are_read ∙ found) in
      let here = subst (λ (q : List PlacedEntry × List ℕ). AreMeantEntries q.0 q.0 entries) (sym same) meant in
      let ds = given_in entries in
      refused ds (there ds (to_seen ps (deprecations_in ps) ds (deprecations_meant ps ps entries here)))
      (subst (λ (r : Rows). IsLawful (with_deprecations r ds)) (sym alone) (lawful_given ps entries here lawful))

  pub are_loaded : (new : Rows) → AreGiven engine all new → AreEntriesLoaded read next new
  are_loaded new given =
      let ds = given.deprecations in
      record {
        placed = ps;
        entries = each_deprecated (map active_placed ps) ds;
        are_read = put.are_put.are_read;
        are_meant = entries_meant ps ps ds (from_seen ps (deprecations_in ps) ds (back ds given.are_meant));
        are_rows = given.are_given ∙ ap (λ (r : Rows). with_deprecations r ds) alone;
      }
