-- The beginnings of lists, and what holds for a beginning if it holds for the whole.
use Rattle.std.proofs.Common.{◌≡◌, ℕ, ◌+◌, ◌≤◌, Bool, true, false, not, List, [], ◌∷◌, ◌++◌, length, map, refl, sym, ap, subst, ◌∙◌, arith}
use Rattle.std.specs.Prelude.{All}
use Rattle.std.specs.List.{flat_map, list_any, list_all}
use Rattle.std.proofs.lemmas.Bool.{and_from, and_parts, or_from, or_parts, not_from_false, not-true}
use Rattle.std.proofs.lemmas.List.{append-nil, length-append}
use Rattle.std.proofs.lemmas.List.Concat.{flat_map-append}
use Rattle.std.proofs.lemmas.List.Elements.{All-cons, All-head, All-nil, All-tail}
use Rattle.std.proofs.lemmas.List.Folds.{list_any-append, list_all-append}
use Rattle.cpe_rows.specs.cpe_name.Names.{IsName}
use Rattle.cpe_rows.specs.FactNames.{fact_names}
use Rattle.cpe_rows.specs.Formed.{IsFormedEntry, IsFormedStatement}
use Rattle.cpe_rows.specs.Lawful.{are_different, IsDictionary, IsLawful, is_lawful_statement}
use Rattle.cpe_rows.specs.Names.{is_lower, is_same}
use Rattle.cpe_rows.specs.Rows.{Rows, has_id, has_key}
use Rattle.cpe_rows.specs.Weight.{total_weight, entry_weight, name_weight, statement_weight, check_weight}
use Rattle.cpe_rows.specs.declared.entry.Entry.{Entry}
use Rattle.cpe_rows.specs.declared.fault.Which.TheVariants as limit
use Rattle.cpe_rows.proofs.Limited.{AreFewer, still_within}

-- ---- lists

pub nothing_left : {A : Type 0} (xs : List A) (n : ℕ) → n ≡ length xs → n ≡ 0 → xs ≡ []
nothing_left [] n many none = refl
nothing_left (x ∷ xs) n many none = absurd (omega (arith, many, none))

module _ {A : Type 0} where
  pub none_prefix : (p : A → Bool) (xs ys : List A) → list_any p (xs ++ ys) ≡ false → list_any p xs ≡ false
  none_prefix p xs ys h = (or_parts (list_any p xs) (list_any p ys) (sym (list_any-append p xs ys) ∙ h)).0

  pub none_middle : (p : A → Bool) (xs : List A) (y : A) (ys : List A) → list_any p (xs ++ y ∷ ys) ≡ false → p y ≡ false
  none_middle p xs y ys h = (or_parts (p y) (list_any p ys) (or_parts (list_any p xs) (list_any p (y ∷ ys)) (sym (list_any-append p xs (y ∷ ys)) ∙ h)).1).0

  pub all_prefix : (p : A → Bool) (xs ys : List A) → list_all p (xs ++ ys) ≡ true → list_all p xs ≡ true
  all_prefix p xs ys h = (and_parts (list_all p xs) (list_all p ys) (sym (list_all-append p xs ys) ∙ h)).0

  pub all_middle : (p : A → Bool) (xs : List A) (y : A) (ys : List A) → list_all p (xs ++ y ∷ ys) ≡ true → p y ≡ true
  all_middle p xs y ys h = (and_parts (p y) (list_all p ys) (and_parts (list_all p xs) (list_all p (y ∷ ys)) (sym (list_all-append p xs (y ∷ ys)) ∙ h)).1).0

  pub different_prefix : (same : A → A → Bool) (xs ys : List A) → are_different same (xs ++ ys) ≡ true → are_different same xs ≡ true
  different_prefix same [] ys h = refl
  different_prefix same (x ∷ xs) ys h =
      let parts = and_parts (not (list_any (same x) (xs ++ ys))) (are_different same (xs ++ ys)) h in
      and_from (not (list_any (same x) xs)) (are_different same xs)
      (not_from_false (list_any (same x) xs) (none_prefix (same x) xs ys (not-true (list_any (same x) (xs ++ ys)) parts.0))) (different_prefix same xs ys parts.1)

  -- an element that differs from the elements before it
  pub apart_before : (same : A → A → Bool) → ((a b : A) → same a b ≡ false → same b a ≡ false) → (xs : List A) (y : A) (ys : List A) → are_different same (xs ++ y ∷ ys) ≡ true
      → list_any (same y) xs ≡ false
  apart_before same other [] y ys h = refl
  apart_before same other (x ∷ xs) y ys h =
      let parts = and_parts (not (list_any (same x) (xs ++ y ∷ ys))) (are_different same (xs ++ y ∷ ys)) h in
      or_from (same y x) (list_any (same y) xs) (other x y (none_middle (same x) xs y ys (not-true (list_any (same x) (xs ++ y ∷ ys)) parts.0)))
      (apart_before same other xs y ys parts.1)

  pub every_prefix : (P : A → Type 0) (xs ys : List A) → All P (xs ++ ys) → All P xs
  every_prefix P [] ys h = All-nil P
  every_prefix P (x ∷ xs) ys h = All-cons P x xs (All-head P x (xs ++ ys) h) (every_prefix P xs ys (All-tail P x (xs ++ ys) h))

  pub total_prefix : (w : A → ℕ) (xs ys : List A) → total_weight (map w xs) ≤ total_weight (map w (xs ++ ys))
  total_prefix w [] ys = omega arith
  total_prefix w (x ∷ xs) ys = omega (arith, total_prefix w xs ys)

  pub length_prefix : (xs ys : List A) → length xs ≤ length (xs ++ ys)
  length_prefix xs ys = omega (arith, length-append xs ys)

  pub parts_prefix : {B : Type 0} (f : A → List B) (xs ys : List A) → length (flat_map f xs) ≤ length (flat_map f (xs ++ ys))
  parts_prefix f xs ys = omega (arith, ap length (flat_map-append f xs ys), length-append (flat_map f xs) (flat_map f ys))

-- ---- rows

-- the whole list begins with this list
abbrev pub IsFront : {A : Type 0} → List A → List A → Type 0
IsFront {A} xs whole = (ys : List A) × (whole ≡ xs ++ ys)

pub all_of_it : {A : Type 0} (xs : List A) → IsFront xs xs
all_of_it xs = ([], sym (append-nil xs))

-- Each list of these rows is a beginning of the list of the whole rows.
pub record IsPart (part whole : Rows) : Type 0 where
  pub entries : IsFront part.entries whole.entries
  pub items : IsFront part.items whole.items
  pub statements : IsFront part.statements whole.statements
  pub checks : IsFront part.checks whole.checks

module _ {A : Type 0} (xs whole : List A) (f : IsFront xs whole) where
  prefix_total : (w : A → ℕ) → total_weight (map w xs) ≤ total_weight (map w whole)
  prefix_total w = subst (λ l. total_weight (map w xs) ≤ total_weight (map w l)) (sym f.1) (total_prefix w xs f.0)

  prefix_length : length xs ≤ length whole
  prefix_length = subst (λ (l : List A). length xs ≤ length l) (sym f.1) (length_prefix xs f.0)

  prefix_parts : {B : Type 0} (g : A → List B) → length (flat_map g xs) ≤ length (flat_map g whole)
  prefix_parts g = subst (λ l. length (flat_map g xs) ≤ length (flat_map g l)) (sym f.1) (parts_prefix g xs f.0)

  prefix_all : (p : A → Bool) → list_all p whole ≡ true → list_all p xs ≡ true
  prefix_all p h = all_prefix p xs f.0 (sym (ap (list_all p) f.1) ∙ h)

  prefix_different : (same : A → A → Bool) → are_different same whole ≡ true → are_different same xs ≡ true
  prefix_different same h = different_prefix same xs f.0 (sym (ap (are_different same) f.1) ∙ h)

  prefix_every : (P : A → Type 0) → All P whole → All P xs
  prefix_every P h = every_prefix P xs f.0 (subst (λ (l : List A). All P l) f.1 h)

module _ (part whole : Rows) (is : IsPart part whole) where
  pub fewer : AreFewer whole part
  fewer limit.Entries = prefix_length part.entries whole.entries is.entries
  fewer limit.Items = prefix_length part.items whole.items is.items
  fewer limit.Statements = prefix_length part.statements whole.statements is.statements
  fewer limit.Facts = prefix_parts part.statements whole.statements is.statements (λ s. fact_names s.test)
  fewer limit.Checks = prefix_length part.checks whole.checks is.checks
  fewer limit.Weight =
      omega (
        arith,
        prefix_total part.entries whole.entries is.entries entry_weight,
        prefix_total part.items whole.items is.items name_weight,
        prefix_total part.statements whole.statements is.statements statement_weight,
        prefix_total part.checks whole.checks is.checks check_weight,
      )

  -- if these rows have all entries
  pub lawful_part : whole.entries ≡ part.entries → IsLawful whole → IsLawful part
  lawful_part same h = record {
    formed = record {
      entries = subst (λ (l : List Entry). All IsFormedEntry l) same h.formed.entries;
      items = prefix_every part.items whole.items is.items IsName h.formed.items;
      statements = prefix_every part.statements whole.statements is.statements IsFormedStatement h.formed.statements;
    };
    dictionary = subst IsDictionary same h.dictionary;
    item_names = prefix_all part.items whole.items is.items is_lower h.item_names;
    items_differ = prefix_different part.items whole.items is.items is_same h.items_differ;
    lawful_statements = prefix_all part.statements whole.statements is.statements is_lawful_statement h.lawful_statements;
    ids_differ = prefix_different part.statements whole.statements is.statements (λ s. has_id s.id) h.ids_differ;
    keys_differ = prefix_different part.checks whole.checks is.checks (λ c. has_key c.0) h.keys_differ;
    within = still_within whole part fewer h.within;
  }
