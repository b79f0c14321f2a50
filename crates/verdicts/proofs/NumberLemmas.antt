-- Lists of numbers, and of the names that they have.
use Rattle.std.proofs.Common.{◌≡◌, ℕ, ◌+◌, ◌<◌, Bool, true, false, cond, filter, get_or, length, List, [], ◌∷◌, ◌++◌, take, refl, sym, ap, ◌∙◌}
use Rattle.std.specs.List.{AllByRecursion, flat_map}
use Rattle.std.proofs.lemmas.List.{append_assoc, append-nil, map-append, take_more}
use Rattle.cpe_rows.specs.cpe_name.Eleven.{Values}
use Rattle.name_index.specs.declared.table.NameId.{NameId}
use Rattle.name_index.specs.Table.{IsLive, Names}
use Rattle.facts.specs.fact_laws.Shown.{name_at, names_at}
use Rattle.fact_boards.specs.Kept.{AreFactNames}

-- ---- lists that grow

pub all_both : {A : Type 0} (P : A → Type 0) (xs ys : List A) → AllByRecursion P xs → AllByRecursion P ys → AllByRecursion P (xs ++ ys)
all_both P [] ys all more = more
all_both P (x ∷ xs) ys all more = (all.0, all_both P xs ys all.1 more)

pub all_weaker : {A : Type 0} (P Q : A → Type 0) → ((x : A) → P x → Q x) → (xs : List A) → AllByRecursion P xs → AllByRecursion Q xs
all_weaker P Q h [] all = tt
all_weaker P Q h (x ∷ xs) all = (h x all.0, all_weaker P Q h xs all.1)

flat_one_more : {A B : Type 0} (f : A → List B) (xs : List A) (x : A) → flat_map f (xs ++ x ∷ []) ≡ flat_map f xs ++ f x
flat_one_more f [] x = append-nil (f x)
flat_one_more f (y ∷ xs) x = ap (λ (ys : List _). f y ++ ys) (flat_one_more f xs x) ∙ sym (append_assoc (f y) (flat_map f xs) (f x))

-- the names so far, and those of one number more
pub more_names : (names : Names) (g : Values → List Values) (numbers all new : List NameId) (i : ℕ) → i < length numbers → (d : NameId) → names_at names all ≡ flat_map g (names_at names (take i numbers))
    → names_at names new ≡ g (name_at names (get_or numbers i d)) → names_at names (all ++ new) ≡ flat_map g (names_at names (take (i + 1) numbers))
more_names names g numbers all new i lt d e f =
    map-append (name_at names) all new
    ∙ (λ j. e j ++ f j)
    ∙ sym (flat_one_more g (names_at names (take i numbers)) (name_at names (get_or numbers i d)))
    ∙ ap (flat_map g) (sym (map-append (name_at names) (take i numbers) (get_or numbers i d ∷ [])))
    ∙ ap (λ (ns : List NameId). flat_map g (names_at names ns)) (sym (take_more numbers i d lt))

-- ---- numbers that pass

pub all_passing : (p : NameId → Bool) (xs : List NameId) → AllByRecursion (λ (x : NameId). p x ≡ true) (filter p xs)
all_passing p [] = tt
all_passing p (x ∷ xs) = by (p x) refl (all_passing p xs)
  where
    by : (b : Bool) → p x ≡ b → AllByRecursion (λ (y : NameId). p y ≡ true) (filter p xs) → AllByRecursion (λ (y : NameId). p y ≡ true) (cond b (x ∷ filter p xs) (filter p xs))
    by true e later = (e, later)
    by false e later = later

pub live_filtered : (names : Names) (t : NameId → Bool) (ids : List NameId) → AreFactNames names ids → AreFactNames names (filter t ids)
live_filtered names t [] live = tt
live_filtered names t (x ∷ ids) live = by (t x) (live_filtered names t ids live.1)
  where
    by : (a : Bool) → AreFactNames names (filter t ids) → AreFactNames names (cond a (x ∷ filter t ids) (filter t ids))
    by true later = (live.0, later)
    by false later = later

-- numbers that pass have the names that pass
pub names_passing : (names : Names) (t : NameId → Bool) (p : Values → Bool) → ((x : NameId) → IsLive names x.0 → t x ≡ p (name_at names x)) → (ids : List NameId) → AreFactNames names ids → names_at names (filter t ids) ≡ filter p (names_at names ids)
names_passing names t p same [] live = refl
names_passing names t p same (x ∷ ids) live = ap (λ (a : Bool). names_at names (cond a (x ∷ filter t ids) (filter t ids))) (same x live.0) ∙ by (p (name_at names x)) (names_passing names t p same ids live.1)
  where
    by : (b : Bool) → names_at names (filter t ids) ≡ filter p (names_at names ids)
        → names_at names (cond b (x ∷ filter t ids) (filter t ids)) ≡ cond b (name_at names x ∷ filter p (names_at names ids)) (filter p (names_at names ids))
    by true later = ap (λ (ns : List Values). name_at names x ∷ ns) later
    by false later = later
