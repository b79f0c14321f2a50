-- Lemmas: giving all entries their deprecations keeps the names; the nodes have the numbers of the new successors.
use Rattle.std.proofs.Common.{◌≡◌, ℕ, suc, ◌+◌, Bool, true, false, cond, not, ◌&&◌, ◌||◌, List, [], ◌∷◌, length, map, position, refl, sym, ap, ◌∙◌, arith}
use Rattle.std.specs.Prelude.{Option, Some, None}
use Rattle.std.specs.List.{cons_option, list_all, list_any, position_from}
use Rattle.std.proofs.lemmas.Bool.{and_from, and_parts}
use Rattle.std.proofs.lemmas.Iterator.Adapters.{position_from-zero}
use Rattle.cpe_rows.specs.cpe_name.Eleven.{Values}
use Rattle.cpe_rows.specs.Chains.{successors_of}
use Rattle.cpe_rows.specs.Lawful.{are_different, has_successors, is_cyclic, is_entry_name, IsDictionary}
use Rattle.cpe_rows.specs.Limits.{is_wide}
use Rattle.cpe_rows.specs.Names.{is_same}
use Rattle.cpe_rows.specs.Rows.{is_named}
use Rattle.cpe_rows.specs.declared.entry.Deprecation.{Deprecation}
use Rattle.cpe_rows.specs.declared.entry.Entry.{Entry}
use Rattle.deprecation_graph.specs.Graph.{node_of}
use Rattle.deprecation_graph.specs.Filled.{nodes_of_lists}
use Rattle.cpe_dictionary.specs.Given.{are_entries, each_deprecated, is_counted, may_have_deprecation, successors_in}
use Rattle.cpe_dictionary.specs.Kept.{names_of_entries}
use Rattle.cpe_dictionary.specs.Numbers.{node_of_entry, nodes_of_entries, numbers_of}
use Rattle.cpe_dictionary.specs.Plans.{numbered_successors}

-- ---- names are kept

module _ (p : Values → Bool) where
  pub any_given : (es : List Entry) (ds : List (Option Deprecation))
      → list_any (λ (e : Entry). p e.name) (each_deprecated es ds) ≡ list_any (λ (e : Entry). p e.name) es
  any_given [] ds = refl
  any_given (e ∷ es) [] = refl
  any_given (e ∷ es) (d ∷ ds) = ap (λ (b : Bool). p e.name || b) (any_given es ds)

  pub all_given : (es : List Entry) (ds : List (Option Deprecation))
      → list_all (λ (e : Entry). p e.name) (each_deprecated es ds) ≡ list_all (λ (e : Entry). p e.name) es
  all_given [] ds = refl
  all_given (e ∷ es) [] = refl
  all_given (e ∷ es) (d ∷ ds) = ap (λ (b : Bool). p e.name && b) (all_given es ds)

  place_from : (i : ℕ) (es : List Entry) (ds : List (Option Deprecation))
      → position_from (λ (e : Entry). p e.name) i (each_deprecated es ds) ≡ position_from (λ (e : Entry). p e.name) i es
  place_from i [] ds = refl
  place_from i (e ∷ es) [] = refl
  place_from i (e ∷ es) (d ∷ ds) = ap (λ (o : Option ℕ). cond (p e.name) (Some i) o) (place_from (i + 1) es ds)

pub different_given : (es : List Entry) (ds : List (Option Deprecation))
    → are_different (λ (e : Entry). is_named e.name) (each_deprecated es ds) ≡ are_different (λ (e : Entry). is_named e.name) es
different_given [] ds = refl
different_given (e ∷ es) [] = refl
different_given (e ∷ es) (d ∷ ds) = λ i. not (any_given (is_same e.name) es ds i) && different_given es ds i

pub names_given : (es : List Entry) (ds : List (Option Deprecation)) → names_of_entries (each_deprecated es ds) ≡ names_of_entries es
names_given [] ds = refl
names_given (e ∷ es) [] = refl
names_given (e ∷ es) (d ∷ ds) = ap (λ (ns : List Values). e.name ∷ ns) (names_given es ds)

pub length_given : (es : List Entry) (ds : List (Option Deprecation)) → length (each_deprecated es ds) ≡ length es
length_given [] ds = refl
length_given (e ∷ es) [] = refl
length_given (e ∷ es) (d ∷ ds) = ap suc (length_given es ds)

-- ---- the numbers of successors

module _ (es : List Entry) (ds : List (Option Deprecation)) where
  place_given : (n : Values) → position (is_named n) (each_deprecated es ds) ≡ position (is_named n) es
  place_given n = position_from-zero (is_named n) (each_deprecated es ds) ∙ place_from (is_same n) 0 es ds ∙ sym (position_from-zero (is_named n) es)

  numbers_given : (ns : List Values) → numbers_of (each_deprecated es ds) ns ≡ numbers_of es ns
  numbers_given [] = refl
  numbers_given (n ∷ ns) = λ i. cons_option (place_given n i) (numbers_given ns i)

  node_given : (d : Option Deprecation) (e : Entry) → node_of_entry (each_deprecated es ds) (record e { deprecation = d }) ≡ node_of (numbered_successors es d)
  node_given None e = refl
  node_given (Some d) e = λ i. record { active = false; next = numbers_given d.successors i }

  nodes_from : (xs : List Entry) (os : List (Option Deprecation)) → length os ≡ length xs
      → map (node_of_entry (each_deprecated es ds)) (each_deprecated xs os) ≡ map node_of (map (numbered_successors es) os)
  nodes_from [] [] h = refl
  nodes_from [] (o ∷ os) h = absurd (omega (arith, h))
  nodes_from (x ∷ xs) [] h = absurd (omega (arith, h))
  nodes_from (x ∷ xs) (o ∷ os) h = λ i. node_given o x i ∷ nodes_from xs os (omega (arith, h)) i

pub nodes_given : (es : List Entry) (ds : List (Option Deprecation)) → length ds ≡ length es
    → nodes_of_entries (each_deprecated es ds) ≡ nodes_of_lists (map (numbered_successors es) ds)
nodes_given es ds h = nodes_from es ds es ds h

-- ---- which deprecations an entry may have

-- a test of all new deprecations is a test of all entries that have them
pub by_deprecation : (q : Option Deprecation → Bool) (es : List Entry) (ds : List (Option Deprecation)) → length ds ≡ length es
    → list_all (λ (e : Entry). q e.deprecation) (each_deprecated es ds) ≡ list_all q ds
by_deprecation q [] [] h = refl
by_deprecation q [] (d ∷ ds) h = absurd (omega (arith, h))
by_deprecation q (e ∷ es) [] h = absurd (omega (arith, h))
by_deprecation q (e ∷ es) (d ∷ ds) h = ap (λ (b : Bool). q d && b) (by_deprecation q es ds (omega (arith, h)))

module _ {A : Type 0} (p q : A → Bool) where
  all_parts : (xs : List A) → list_all (λ x. p x && q x) xs ≡ true → (list_all p xs ≡ true) × (list_all q xs ≡ true)
  all_parts [] h = (refl, refl)
  all_parts (x ∷ xs) h =
      let parts = and_parts (p x && q x) (list_all (λ y. p y && q y) xs) h in
      let here = and_parts (p x) (q x) parts.0 in
      let rest = all_parts xs parts.1 in
      (and_from (p x) (list_all p xs) here.0 rest.0, and_from (q x) (list_all q xs) here.1 rest.1)

  all_from : (xs : List A) → list_all p xs ≡ true → list_all q xs ≡ true → list_all (λ x. p x && q x) xs ≡ true
  all_from [] h k = refl
  all_from (x ∷ xs) h k =
      let one = and_parts (p x) (list_all p xs) h in
      let other = and_parts (q x) (list_all q xs) k in
      and_from (p x && q x) (list_all (λ y. p y && q y) xs) (and_from (p x) (q x) one.0 other.0) (all_from xs one.1 other.1)

module _ (es : List Entry) (ds : List (Option Deprecation)) (even : length ds ≡ length es) where
  abbrev known : Option Deprecation → Bool
  known d = are_entries es (successors_in d)

  abbrev apart : Option Deprecation → Bool
  apart d = are_different is_same (successors_in d)

  same_successors : has_successors (each_deprecated es ds) ≡ has_successors es
  same_successors = λ i e. list_all (λ (s : Values). any_given (is_same s) es ds i) (successors_of e)

  -- the entries are a lawful dictionary if their graph is lawful
  module _ (old : IsDictionary es) (may : list_all (may_have_deprecation es) ds ≡ true) where
    counts : list_all is_counted ds ≡ true
    counts = (all_parts is_counted (λ d. known d && apart d) ds may).0

    rest : (list_all known ds ≡ true) × (list_all apart ds ≡ true)
    rest = all_parts known apart ds (all_parts is_counted (λ d. known d && apart d) ds may).1

    pub still_different : are_different (λ (e : Entry). is_named e.name) (each_deprecated es ds) ≡ true
    still_different = different_given es ds ∙ old.names_differ

    pub successors_known : list_all (has_successors (each_deprecated es ds)) (each_deprecated es ds) ≡ true
    successors_known = ap (λ (p : Entry → Bool). list_all p (each_deprecated es ds)) same_successors ∙ by_deprecation known es ds even ∙ rest.0

    pub dictionary_given : list_any (is_cyclic (each_deprecated es ds)) (each_deprecated es ds) ≡ false
        → list_any (is_wide (each_deprecated es ds)) (each_deprecated es ds) ≡ false → IsDictionary (each_deprecated es ds)
    dictionary_given no_cycle no_wide = record {
      names = all_given is_entry_name es ds ∙ old.names;
      names_differ = still_different;
      counts = by_deprecation is_counted es ds even ∙ counts;
      successors = successors_known;
      successors_differ = by_deprecation apart es ds even ∙ rest.1;
      no_cycle = no_cycle;
      no_wide = no_wide;
    }

  -- each entry of a lawful dictionary may have its deprecation
  pub may_have_given : IsDictionary (each_deprecated es ds) → list_all (may_have_deprecation es) ds ≡ true
  may_have_given d =
      all_from is_counted (λ o. known o && apart o) ds (sym (by_deprecation is_counted es ds even) ∙ d.counts)
      (all_from known apart ds (sym (by_deprecation known es ds even) ∙ sym (ap (λ (p : Entry → Bool). list_all p (each_deprecated es ds)) same_successors) ∙ d.successors)
      (sym (by_deprecation apart es ds even) ∙ d.successors_differ))
