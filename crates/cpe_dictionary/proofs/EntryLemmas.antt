-- Lemmas: the entries that are made of names and details.
use Rattle.std.proofs.Common.{◌≡◌, ℕ, zero, suc, ◌<◌, Bool, true, false, cond, not, ◌||◌, if◌then◌else◌, List, [], ◌∷◌, ◌++◌, filter, find, length, get_or, position, slice_get, slice_set, refl, sym, ap, ◌∙◌, arith}
use Rattle.std.specs.Prelude.{Option, Some, None, is_none, is_some, option_map}
use Rattle.std.specs.List.{list_any}
use Rattle.std.specs.Option.{option_map_or}
use Rattle.std.proofs.lemmas.Bool.{both_ways}
use Rattle.std.proofs.lemmas.Option.{none-some, same_Some}
use Rattle.std.proofs.lemmas.List.Quantifiers.{position-Some}
use Rattle.cpe_rows.specs.cpe_name.Eleven.{Values}
use Rattle.cpe_rows.specs.cpe_name.Equal.{same_name, same_name-Decides}
use Rattle.cpe_rows.specs.cpe_name.Names.{any_values}
use Rattle.cpe_rows.specs.Names.{is_same}
use Rattle.cpe_rows.specs.Chains.{is_active}
use Rattle.cpe_rows.specs.Rows.{is_named}
use Rattle.cpe_rows.specs.declared.entry.Deprecation.{Deprecation}
use Rattle.cpe_rows.specs.declared.entry.Entry.{Entry}
use Rattle.cpe_rows.specs.declared.entry.Note.{Note}
use Rattle.cpe_rows.proofs.Lists.{has_place}
use Rattle.names_in_order.proofs.OrderLemmas.{same_position}
use Rattle.cpe_dictionary.specs.declared.kept.EntryDetails.{EntryDetails}
use Rattle.cpe_dictionary.specs.Listed.{entry_with, entries_of, names_of_entries, rewritten, rewritten_details, details_written, written}
use Rattle.cpe_dictionary.proofs.KeptLemmas.{any_named}

-- ---- the names of the entries, and the number of entries

pub names_are : (ns : List Values) (ds : List EntryDetails) → length ns ≡ length ds → names_of_entries (entries_of ns ds) ≡ ns
names_are [] ds h = refl
names_are (n ∷ ns) [] h = absurd (omega (arith, h))
names_are (n ∷ ns) (d ∷ ds) h = ap (λ (ms : List Values). n ∷ ms) (names_are ns ds (omega (arith, h)))

pub count_is : (ns : List Values) (ds : List EntryDetails) → length ns ≡ length ds → length ns ≡ length (entries_of ns ds)
count_is [] [] h = refl
count_is [] (d ∷ ds) h = absurd (omega (arith, h))
count_is (n ∷ ns) [] h = absurd (omega (arith, h))
count_is (n ∷ ns) (d ∷ ds) h = ap suc (count_is ns ds (omega (arith, h)))

pub count_deprecated : (ns : List Values) (ds : List EntryDetails) → length ns ≡ length ds → length (filter (λ (d : EntryDetails). is_some d.deprecation) ds) ≡ length (filter (λ (e : Entry). not (is_active e)) (entries_of ns ds))
count_deprecated [] [] h = refl
count_deprecated [] (d ∷ ds) h = absurd (omega (arith, h))
count_deprecated (n ∷ ns) [] h = absurd (omega (arith, h))
count_deprecated (n ∷ ns) (d ∷ ds) h = go d.deprecation (count_deprecated ns ds (omega (arith, h)))
  where
    go : (o : Option Deprecation) → length (filter (λ (x : EntryDetails). is_some x.deprecation) ds) ≡ length (filter (λ (x : Entry). not (is_active x)) (entries_of ns ds))
        → length (cond (is_some o) (d ∷ filter (λ (x : EntryDetails). is_some x.deprecation) ds) (filter (λ (x : EntryDetails). is_some x.deprecation) ds))
        ≡ length (cond (not (is_none o)) (entry_with (n, d) ∷ filter (λ (x : Entry). not (is_active x)) (entries_of ns ds)) (filter (λ (x : Entry). not (is_active x)) (entries_of ns ds)))
    go None e = e
    go (Some x) e = ap suc e

-- ---- entries by their places

abbrev pub with_name : Values → EntryDetails → Entry
with_name n d = entry_with (n, d)

-- the entry at a place has the name and the details of this place
pub beside_place : (ns : List Values) (ds : List EntryDetails) (k : ℕ) (n : Values) → slice_get ns k ≡ Some n → option_map (with_name n) (slice_get ds k) ≡ slice_get (entries_of ns ds) k
beside_place [] ds k n e = absurd (none-some n e)
beside_place (m ∷ ns) [] k n e = refl
beside_place (m ∷ ns) (x ∷ ds) zero n e = ap (λ (y : Values). Some (entry_with (y, x))) (sym (same_Some m n e))
beside_place (m ∷ ns) (x ∷ ds) (suc k) n e = beside_place ns ds k n e

pub none_there : (ns : List Values) (ds : List EntryDetails) (k : ℕ) → slice_get ns k ≡ None → slice_get (entries_of ns ds) k ≡ None
none_there [] ds k e = refl
none_there (m ∷ ns) [] k e = refl
none_there (m ∷ ns) (x ∷ ds) zero e = absurd (none-some m (sym e))
none_there (m ∷ ns) (x ∷ ds) (suc k) e = none_there ns ds k e

-- ---- entries by their names

pub place_by_name : (n : Values) (ns : List Values) (ds : List EntryDetails) → length ns ≡ length ds → position (same_name n) ns ≡ position (is_named n) (entries_of ns ds)
unfolding is_same
place_by_name n ns ds h =
    ap (position (same_name n)) (sym (names_are ns ds h)) ∙ same_position (is_named n) (same_name n) (λ (e : Entry). e.name) (entries_of ns ds) (λ k e at. refl)

pub there_by_name : (n : Values) (es : List Entry) → is_some (position (is_named n) es) ≡ list_any (is_named n) es
there_by_name n es = has_place (is_named n) es

-- a result that is read through a reference
pub behind_reference : {R : Type 0} (now : R → EntryDetails) (n : Values) (o : Option R) → option_map (λ d. entry_with (n, now d)) o ≡ option_map (with_name n) (option_map now o)
behind_reference now n None = refl
behind_reference now n (Some d) = refl

pub not_found : (p : Entry → Bool) (es : List Entry) → list_any p es ≡ false → find p es ≡ None
not_found p [] h = refl
not_found p (e ∷ es) h = by (p e) refl (not_found p es)
  where
    by : (b : Bool) → p e ≡ b → (list_any p es ≡ false → find p es ≡ None) → (if p e then Some e else find p es) ≡ None
    by true t rest = absurd (both_ways (p e || list_any p es) h (ap (λ (b : Bool). b || list_any p es) t))
    by false t rest = ap (λ (b : Bool). if b then Some e else find p es) t ∙ rest (sym (ap (λ (b : Bool). b || list_any p es) t) ∙ h)

pub none_named : (n : Values) (ns : List Values) (ds : List EntryDetails) → length ns ≡ length ds → position (same_name n) ns ≡ None → find (is_named n) (entries_of ns ds) ≡ None
none_named n ns ds h e =
    let es = entries_of ns ds in
    not_found (is_named n) es (sym (there_by_name n es) ∙ ap is_some (sym (place_by_name n ns ds h) ∙ e))

at_first : (n : Values) (ns : List Values) (ds : List EntryDetails) (k : ℕ) → length ns ≡ length ds → k < length ns → same_name n (get_or ns k any_values) ≡ true → ((j : ℕ) → j < k → same_name n (get_or ns j any_values) ≡ false)
    → option_map (with_name n) (slice_get ds k) ≡ find (is_named n) (entries_of ns ds)
unfolding is_same
at_first n [] ds k h lt here before = absurd (omega (arith, lt))
at_first n (m ∷ ns) [] k h lt here before = absurd (omega (arith, h))
at_first n (m ∷ ns) (d ∷ ds) zero h lt here before =
    ap (λ (x : Values). Some (entry_with (x, d))) ((same_name-Decides n m).0 here) ∙ sym (ap (λ (b : Bool). if b then Some (entry_with (m, d)) else find (is_named n) (entries_of ns ds)) here)
at_first n (m ∷ ns) (d ∷ ds) (suc k) h lt here before =
    at_first n ns ds k (omega (arith, h)) (omega (arith, lt)) here (λ j l. before (suc j) (omega (arith, l)))
    ∙ sym (ap (λ (b : Bool). if b then Some (entry_with (m, d)) else find (is_named n) (entries_of ns ds)) (before 0 (omega arith)))

pub one_named : (n : Values) (ns : List Values) (ds : List EntryDetails) (k : ℕ) → length ns ≡ length ds → position (same_name n) ns ≡ Some k → option_map (with_name n) (slice_get ds k) ≡ find (is_named n) (entries_of ns ds)
one_named n ns ds k h e = let at = position-Some (same_name n) ns k any_values e in at_first n ns ds k h at.0 at.1 at.2

-- if no entry has a name, the list of names lacks the name
pub fresh_name : (n : Values) (ns : List Values) (ds : List EntryDetails) → length ns ≡ length ds → list_any (is_named n) (entries_of ns ds) ≡ false → list_any (same_name n) ns ≡ false
fresh_name n ns ds h e = ap (list_any (same_name n)) (sym (names_are ns ds h)) ∙ any_named n (entries_of ns ds) ∙ e

-- ---- changes of the entries

pub one_more : (ns : List Values) (ds : List EntryDetails) (n : Values) (d : EntryDetails) → length ns ≡ length ds → entries_of (ns ++ n ∷ []) (ds ++ d ∷ []) ≡ entries_of ns ds ++ entry_with (n, d) ∷ []
one_more [] [] n d h = refl
one_more [] (x ∷ ds) n d h = absurd (omega (arith, h))
one_more (m ∷ ns) [] n d h = absurd (omega (arith, h))
one_more (m ∷ ns) (x ∷ ds) n d h = ap (λ (es : List Entry). entry_with (m, x) ∷ es) (one_more ns ds n d (omega (arith, h)))

module _ (deprecation : Option Deprecation) (note : Option Note) where
  further : (x : Entry) (k : ℕ) (es : List Entry) → x ∷ written (rewritten deprecation note) k es ≡ written (rewritten deprecation note) (suc k) (x ∷ es)
  further x k es = go (slice_get es k)
    where
      go : (o : Option Entry) → x ∷ option_map_or (λ (e : Entry). slice_set es k (rewritten deprecation note e)) o es ≡ option_map_or (λ (e : Entry). slice_set (x ∷ es) (suc k) (rewritten deprecation note e)) o (x ∷ es)
      go None = refl
      go (Some e) = refl

  details_further : (x : EntryDetails) (k : ℕ) (ds : List EntryDetails) → details_written deprecation note (suc k) (x ∷ ds) ≡ x ∷ details_written deprecation note k ds
  details_further x k ds = go (slice_get ds k)
    where
      go : (o : Option EntryDetails) → option_map_or (λ (d : EntryDetails). slice_set (x ∷ ds) (suc k) (rewritten_details deprecation note d)) o (x ∷ ds) ≡ x ∷ option_map_or (λ (d : EntryDetails). slice_set ds k (rewritten_details deprecation note d)) o ds
      go None = refl
      go (Some d) = refl

  pub written_beside : (ns : List Values) (ds : List EntryDetails) (k : ℕ) → length ns ≡ length ds → entries_of ns (details_written deprecation note k ds) ≡ written (rewritten deprecation note) k (entries_of ns ds)
  written_beside [] ds k h = refl
  written_beside (n ∷ ns) [] k h = absurd (omega (arith, h))
  written_beside (n ∷ ns) (d ∷ ds) zero h = refl
  written_beside (n ∷ ns) (d ∷ ds) (suc k) h =
      ap (entries_of (n ∷ ns)) (details_further d k ds) ∙ ap (λ (es : List Entry). entry_with (n, d) ∷ es) (written_beside ns ds k (omega (arith, h))) ∙ further (entry_with (n, d)) k (entries_of ns ds)

  pub length_written : (k : ℕ) (ds : List EntryDetails) → length (details_written deprecation note k ds) ≡ length ds
  length_written k [] = refl
  length_written zero (d ∷ ds) = refl
  length_written (suc k) (d ∷ ds) = ap length (details_further d k ds) ∙ ap suc (length_written k ds)
