-- Lemmas: the details of entries after all deprecations are given in one call.
use Rattle.std.proofs.Common.{◌≡◌, ◌<◌, ℕ, zero, suc, List, [], ◌∷◌, get_or, length, slice_set, refl, ap, arith}
use Rattle.std.specs.Prelude.{Option}
use Rattle.cpe_rows.specs.cpe_name.Eleven.{Values}
use Rattle.cpe_rows.specs.declared.entry.Deprecation.{Deprecation}
use Rattle.cpe_rows.specs.declared.entry.Entry.{Entry}
use Rattle.cpe_dictionary.specs.declared.kept.EntryDetails.{EntryDetails}
use Rattle.cpe_dictionary.specs.GivenEntries.{details_given, each_deprecated}
use Rattle.cpe_dictionary.specs.Listed.{entries_of, entry_with}

pub given_beside : (ns : List Values) (xs : List EntryDetails) (ds : List (Option Deprecation)) → length ns ≡ length xs
    → entries_of ns (details_given xs ds) ≡ each_deprecated (entries_of ns xs) ds
given_beside [] [] ds h = refl
given_beside [] (x ∷ xs) ds h = absurd (omega (arith, h))
given_beside (n ∷ ns) [] ds h = absurd (omega (arith, h))
given_beside (n ∷ ns) (x ∷ xs) [] h = refl
given_beside (n ∷ ns) (x ∷ xs) (d ∷ ds) h = ap (λ (es : List Entry). record (entry_with (n, x)) { deprecation = d } ∷ es) (given_beside ns xs ds (omega (arith, h)))

pub length_details : (xs : List EntryDetails) (ds : List (Option Deprecation)) → length (details_given xs ds) ≡ length xs
length_details [] ds = refl
length_details (x ∷ xs) [] = refl
length_details (x ∷ xs) (d ∷ ds) = ap suc (length_details xs ds)

-- the details, with those from place k on given these deprecations
abbrev pub given_from : ℕ → List EntryDetails → List (Option Deprecation) → List EntryDetails
given_from zero xs ds = details_given xs ds
given_from (suc k) [] ds = []
given_from (suc k) (x ∷ xs) ds = x ∷ given_from k xs ds

pub none_left : (k : ℕ) (xs : List EntryDetails) → given_from k xs [] ≡ xs
none_left zero [] = refl
none_left zero (x ∷ xs) = refl
none_left (suc k) [] = refl
none_left (suc k) (x ∷ xs) = ap (λ (ys : List EntryDetails). x ∷ ys) (none_left k xs)

-- a step of the loop: the details at place k get a deprecation, and those after it get the rest
pub one_given : (d : Option Deprecation) (ds : List (Option Deprecation)) (k : ℕ) (xs : List EntryDetails) (x : EntryDetails) → k < length xs
    → x ≡ get_or xs k x → given_from (suc k) (slice_set xs k (record x { deprecation = d })) ds ≡ given_from k xs (d ∷ ds)
one_given d ds k [] x within is = absurd (omega (arith, within))
one_given d ds zero (y ∷ ys) x within is = ap (λ (z : EntryDetails). record z { deprecation = d } ∷ details_given ys ds) is
one_given d ds (suc k) (y ∷ ys) x within is = ap (λ (zs : List EntryDetails). y ∷ zs) (one_given d ds k ys x (omega (arith, within)) is)

pub length_put : (xs : List EntryDetails) (k : ℕ) (x : EntryDetails) → length (slice_set xs k x) ≡ length xs
length_put [] k x = refl
length_put (y ∷ ys) zero x = refl
length_put (y ∷ ys) (suc k) x = ap suc (length_put ys k x)

pub nothing_left : {A : Type 0} (xs : List A) → length xs ≡ 0 → xs ≡ []
nothing_left [] h = refl
nothing_left (x ∷ xs) h = absurd (omega (arith, h))
