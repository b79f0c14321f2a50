-- Which names are in a list of names.
use Rattle.std.proofs.Common.{◌≡◌, Bool, true, false, cond, ◌&&◌, List, [], ◌∷◌, map, refl, sym, ap, subst, ◌∙◌, inl, inr}
use Rattle.std.specs.Cmp.{both_ways as agree}
use Rattle.std.specs.List.{list_any, filter, AllByRecursion}
use Rattle.std.proofs.lemmas.Bool.{both_ways, false_from_ne_true, or_cases, or_left, or_right}
use Rattle.std.proofs.lemmas.Map.Views.{any-filter_same}
use Rattle.cpe_rows.specs.cpe_name.Eleven.{Values}
use Rattle.cpe_rows.specs.cpe_name.Equal.{same_name, same_name-Decides}
use Rattle.cover_lines.specs.Laws.{is_among}

pub same_is : (a b : Values) → same_name a b ≡ true → a ≡ b
same_is a b h = (same_name-Decides a b).0 h

pub itself : (a : Values) → same_name a a ≡ true
itself a = (same_name-Decides a a).1 refl

pub same_back : (a b : Values) → same_name a b ≡ same_name b a
same_back a b = by (same_name a b) refl
  where
    by : (c : Bool) → same_name a b ≡ c → same_name a b ≡ same_name b a
    by true e = e ∙ sym ((same_name-Decides b a).1 (sym (same_is a b e)))
    by false e = e ∙ sym (false_from_ne_true _ (λ h. both_ways _ e ((same_name-Decides a b).1 (sym (same_is b a h)))))

-- ---- a test that some name passes

pub found_among : (f : Values → Bool) (ns : List Values) → list_any f ns ≡ true → (m : Values) × (is_among ns m ≡ true) × (f m ≡ true)
found_among f [] h = absurd cc
found_among f (n ∷ ns) h = elim (or_cases (f n) (list_any f ns) h) [
  | inl here ↦ (n, or_left (same_name n n) (is_among ns n) (itself n), here)
  | inr later ↦ let x = found_among f ns later in (x.0, or_right (same_name x.0 n) (is_among ns x.0) x.1, x.2)
]

pub among_finds : (f : Values → Bool) (ns : List Values) (m : Values) → is_among ns m ≡ true → f m ≡ true → list_any f ns ≡ true
among_finds f [] m h p = absurd cc
among_finds f (n ∷ ns) m h p = elim (or_cases (same_name m n) (is_among ns m) h) [
  | inl here ↦ or_left (f n) (list_any f ns) (ap f (sym (same_is m n here)) ∙ p)
  | inr later ↦ or_right (f n) (list_any f ns) (among_finds f ns m later p)
]

-- lists of the same names pass the same tests
pub same_any : (f : Values → Bool) (xs ys : List Values) → ((n : Values) → is_among xs n ≡ is_among ys n) → list_any f xs ≡ list_any f ys
same_any f xs ys same =
    agree (list_any f xs) (list_any f ys)
    (λ h. let x = found_among f xs h in among_finds f ys x.0 (sym (same x.0) ∙ x.1) x.2)
    (λ h. let x = found_among f ys h in among_finds f xs x.0 (same x.0 ∙ x.1) x.2)

-- tests that agree on the names of a list
pub any_where : (f g : Values → Bool) (ns : List Values) → ((m : Values) → is_among ns m ≡ true → f m ≡ g m) → list_any f ns ≡ list_any g ns
any_where f g ns same =
    agree (list_any f ns) (list_any g ns)
    (λ h. let x = found_among f ns h in among_finds g ns x.0 x.1 (sym (same x.0 x.1) ∙ x.2))
    (λ h. let x = found_among g ns h in among_finds f ns x.0 x.1 (same x.0 x.1 ∙ x.2))

pub among_filter : (p : Values → Bool) (ns : List Values) (n : Values) → is_among (filter p ns) n ≡ (p n && is_among ns n)
among_filter p ns n = any-filter_same (same_name n) p (p n) (λ m h. ap p (sym (same_is n m h))) ns

pub filter_where : (p q : Values → Bool) (ns : List Values) → ((m : Values) → is_among ns m ≡ true → p m ≡ q m) → filter p ns ≡ filter q ns
filter_where p q [] same = refl
filter_where p q (n ∷ ns) same =
    let here : p n ≡ q n = same n (or_left (same_name n n) (is_among ns n) (itself n)) in
    let rest : filter p ns ≡ filter q ns = filter_where p q ns (λ m h. same m (or_right (same_name m n) (is_among ns m) h)) in
    λ i. cond (here i) (n ∷ rest i) (rest i)

none_gone : (ns : List Values) → filter (λ n. true) ns ≡ ns
none_gone [] = refl
none_gone (n ∷ ns) = ap (λ ms. n ∷ ms) (none_gone ns)

pub filter_keeps : (p : Values → Bool) (ns : List Values) → ((m : Values) → is_among ns m ≡ true → p m ≡ true) → filter p ns ≡ ns
filter_keeps p ns all = filter_where p (λ n. true) ns all ∙ none_gone ns

pub map_keeps : (f : Values → Values) (ns : List Values) → ((m : Values) → is_among ns m ≡ true → f m ≡ m) → map f ns ≡ ns
map_keeps f [] all = refl
map_keeps f (n ∷ ns) all =
    let here : f n ≡ n = all n (or_left (same_name n n) (is_among ns n) (itself n)) in
    let rest : map f ns ≡ ns = map_keeps f ns (λ m h. all m (or_right (same_name m n) (is_among ns m) h)) in
    λ i. here i ∷ rest i

-- what holds for each name of a list
pub all_among : (P : Values → Type 0) (ns : List Values) → AllByRecursion P ns → (n : Values) → is_among ns n ≡ true → P n
all_among P [] all n h = absurd cc
all_among P (m ∷ ms) all n h = elim (or_cases (same_name n m) (is_among ms n) h) [
  | inl here ↦ subst P (sym (same_is n m here)) all.0
  | inr later ↦ all_among P ms all.1 n later
]

-- the names of a mapped list
pub among_image : (f : Values → Values) (ns : List Values) (n : Values) → is_among (map f ns) n ≡ true → (m : Values) × (is_among ns m ≡ true) × (n ≡ f m)
among_image f [] n h = absurd cc
among_image f (m ∷ ms) n h = elim (or_cases (same_name n (f m)) (is_among (map f ms) n) h) [
  | inl here ↦ (m, or_left (same_name m m) (is_among ms m) (itself m), same_is n (f m) here)
  | inr later ↦ let x = among_image f ms n later in (x.0, or_right (same_name x.0 m) (is_among ms x.0) x.1, x.2)
]
