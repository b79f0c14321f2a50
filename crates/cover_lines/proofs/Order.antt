-- Sorted names, each once. Such a list is fixed by the names that it has.
use Rattle.std.proofs.Common.{◌≡◌, ◌≢◌, Bool, true, false, cond, not, ◌||◌, ◌&&◌, List, [], ◌∷◌, refl, sym, ap, ◌∙◌, inl, inr}
use Rattle.std.specs.List.{AllByRecursion}
use Rattle.std.specs.List.Sorted.{IsStrictlySortedBy}
use Rattle.std.specs.Ordering.{is_lt, ordering_reverse}
use Rattle.std.specs.declared.cmp.Ordering.{Ordering}
use Rattle.std.specs.declared.cmp.Ordering.TheVariants.{Less, Equal, Greater}
use Rattle.std.proofs.lemmas.Bool.{both_ways, false_from_ne_true, or_cases, or_left, or_right}
use Rattle.std.proofs.lemmas.Cmp.{nat_list_cmp_total}
use Rattle.std.proofs.lemmas.Map.Lookups.{exact_bytes}
use Rattle.cpe_rows.specs.cpe_name.Eleven.{Values}
use Rattle.cpe_rows.specs.cpe_name.Equal.{same_name, same_name-Decides}
use Rattle.cpe_fs.specs.Grammar.{fs_text}
use Rattle.cover_lines.specs.Cover.{fs_order, put_in_order, ordered}
use Rattle.cover_lines.specs.Laws.{is_among}
use Rattle.cover_lines.proofs.Among.{same_is, itself}

-- ---- the order

pub order_through : (a b c : Values) → fs_order a b ≡ Less → fs_order b c ≡ Less → fs_order a c ≡ Less
unfolding fs_order
order_through a b c h k = nat_list_cmp_total.trans (fs_text a) (fs_text b) (fs_text c) h k

pub order_back : (a b : Values) → fs_order a b ≡ ordering_reverse (fs_order b a)
unfolding fs_order
order_back a b = nat_list_cmp_total.antisymm (fs_text a) (fs_text b)

pub order_tied : (a b : Values) → fs_order a b ≡ Equal → fs_text a ≡ fs_text b
unfolding fs_order
order_tied a b h = exact_bytes (fs_text a) (fs_text b) h

less_not_greater : Less ≢ Greater
less_not_greater e = both_ways (is_lt Greater) refl (ap is_lt (sym e))

pub not_both : (a b : Values) → fs_order a b ≡ Less → fs_order b a ≡ Less → ⊥
not_both a b h k = less_not_greater (sym h ∙ order_back a b ∙ ap ordering_reverse k)

-- ---- lists that rise

-- each name is less than all names after it in the list
abbrev pub Rises : List Values → Type 0
Rises [] = Unit {0}
Rises (n ∷ ns) = ((m : Values) → is_among ns m ≡ true → fs_order n m ≡ Less) × Rises ns

pub same_rising : (xs ys : List Values) → Rises xs → Rises ys → ((n : Values) → is_among xs n ≡ is_among ys n) → xs ≡ ys
same_rising [] [] r s same = refl
same_rising [] (y ∷ ys) r s same = absurd (both_ways (is_among [] y) refl (same y ∙ or_left (same_name y y) (is_among ys y) (itself y)))
same_rising (x ∷ xs) [] r s same = absurd (both_ways (is_among [] x) refl (sym (same x) ∙ or_left (same_name x x) (is_among xs x) (itself x)))
same_rising (x ∷ xs) (y ∷ ys) r s same =
    let first : x ≡ y = elim (or_cases (same_name x y) (is_among ys x) (sym (same x) ∙ or_left (same_name x x) (is_among xs x) (itself x))) [
      | inl here ↦ same_is x y here
      | inr behind ↦ elim (or_cases (same_name y x) (is_among xs y) (same y ∙ or_left (same_name y y) (is_among ys y) (itself y))) [
        | inl here ↦ sym (same_is y x here)
        | inr before ↦ absurd (not_both x y (r.0 y before) (s.0 x behind))
      ]
    ] in
    let rest : xs ≡ ys = same_rising xs ys r.1 s.1 (λ n. left first n) in
    λ i. first i ∷ rest i
  where
    -- the first name isn't among the names after it
    apart : (z : Values) (zs : List Values) → ((m : Values) → is_among zs m ≡ true → fs_order z m ≡ Less) → is_among zs z ≡ true → ⊥
    apart z zs up h = not_both z z (up z h) (up z h)

    behind_first : (z n : Values) (zs : List Values) → Rises (z ∷ zs) → is_among zs n ≡ (not (same_name n z) && is_among (z ∷ zs) n)
    behind_first z n zs up = by (same_name n z) refl
      where
        by : (b : Bool) → same_name n z ≡ b → is_among zs n ≡ (not b && (b || is_among zs n))
        by true e = false_from_ne_true _ (λ h. apart z zs up.0 (ap (is_among zs) (sym (same_is n z e)) ∙ h))
        by false e = refl

    left : x ≡ y → (n : Values) → is_among xs n ≡ is_among ys n
    left first n =
        behind_first x n xs r
        ∙ (λ i. not (same_name n (first i)) && same n i)
        ∙ sym (behind_first y n ys s)

pub rises_sorted : (xs : List Values) → Rises xs → IsStrictlySortedBy fs_order xs
unfolding IsStrictlySortedBy
rises_sorted [] r = tt
rises_sorted (x ∷ xs) r = (each xs r.0, rises_sorted xs r.1)
  where
    each : (ys : List Values) → ((m : Values) → is_among ys m ≡ true → fs_order x m ≡ Less) → AllByRecursion (λ (y : Values). fs_order x y ≡ Less) ys
    each [] h = tt
    each (y ∷ ys) h = (h y (or_left (same_name y y) (is_among ys y) (itself y)), each ys (λ m k. h m (or_right (same_name m y) (is_among ys m) k)))

pub sorted_rises : (xs : List Values) → IsStrictlySortedBy fs_order xs → Rises xs
unfolding IsStrictlySortedBy
sorted_rises [] s = tt
sorted_rises (x ∷ xs) s = (each xs s.0, sorted_rises xs s.1)
  where
    each : (ys : List Values) → AllByRecursion (λ (y : Values). fs_order x y ≡ Less) ys → (m : Values) → is_among ys m ≡ true → fs_order x m ≡ Less
    each [] all m h = absurd cc
    each (y ∷ ys) all m h = elim (or_cases (same_name m y) (is_among ys m) h) [
      | inl here ↦ ap (fs_order x) (same_is m y here) ∙ all.0
      | inr later ↦ each ys all.1 m later
    ]

-- ---- names that are put in at their places

pub among_put : (x : Values) (ms : List Values) (n : Values) → is_among (put_in_order x ms) n ≡ (same_name n x || is_among ms n)
among_put x [] n = refl
among_put x (m ∷ ms) n = by (same_name x m) (is_lt (fs_order x m)) refl (among_put x ms n)
  where
    twice : (a b c : Bool) → (a ≡ b) → (b || c) ≡ (a || (b || c))
    twice true b c e = ap (λ (z : Bool). z || c) (sym e)
    twice false b c e = refl

    past : (a b c d : Bool) → d ≡ (a || c) → (b || d) ≡ (a || (b || c))
    past true true c d e = refl
    past true false c d e = e
    past false true c d e = refl
    past false false c d e = e

    by : (s l : Bool) → same_name x m ≡ s → is_among (put_in_order x ms) n ≡ (same_name n x || is_among ms n)
        → is_among (cond s (m ∷ ms) (cond l (x ∷ m ∷ ms) (m ∷ put_in_order x ms))) n ≡ (same_name n x || (same_name n m || is_among ms n))
    by true l e rest = twice (same_name n x) (same_name n m) (is_among ms n) (ap (same_name n) (same_is x m e))
    by false true e rest = refl
    by false false e rest = past (same_name n x) (same_name n m) (is_among ms n) (is_among (put_in_order x ms) n) rest

pub among_ordered : (ns : List Values) (n : Values) → is_among (ordered ns) n ≡ is_among ns n
among_ordered [] n = refl
among_ordered (x ∷ ns) n = among_put x (ordered ns) n ∙ ap (λ (b : Bool). same_name n x || b) (among_ordered ns n)

-- if different names have different formatted strings
module _ (IsName : Values → Type 0) (apart : (a b : Values) → IsName a → IsName b → fs_text a ≡ fs_text b → a ≡ b) where
  -- a name that isn't the same as another and isn't less is greater
  pub behind : (a b : Values) → IsName a → IsName b → same_name a b ≡ false → is_lt (fs_order a b) ≡ false → fs_order b a ≡ Less
  behind a b na nb ne nl = by (fs_order a b) refl
    where
      by : (o : Ordering) → fs_order a b ≡ o → fs_order b a ≡ Less
      by Less e = absurd (both_ways (is_lt (fs_order a b)) nl (ap is_lt e))
      by Equal e = absurd (both_ways _ ne ((same_name-Decides a b).1 (apart a b na nb (order_tied a b e))))
      by Greater e = order_back b a ∙ ap ordering_reverse e

  rises_put : (x : Values) (ms : List Values) → IsName x → ((m : Values) → is_among ms m ≡ true → IsName m) → Rises ms → Rises (put_in_order x ms)
  rises_put x [] nx names r = ((λ m h. absurd cc), tt)
  rises_put x (m ∷ ms) nx names r =
      by (same_name x m) (is_lt (fs_order x m)) refl refl (rises_put x ms nx (λ n h. names n (or_right (same_name n m) (is_among ms n) h)) r.1)
    where
      first : IsName m
      first = names m (or_left (same_name m m) (is_among ms m) (itself m))

      is_less : (o : Ordering) → is_lt o ≡ true → o ≡ Less
      is_less Less h = refl
      is_less Equal h = absurd cc
      is_less Greater h = absurd cc

      by : (s l : Bool) → same_name x m ≡ s → is_lt (fs_order x m) ≡ l → Rises (put_in_order x ms) → Rises (cond s (m ∷ ms) (cond l (x ∷ m ∷ ms) (m ∷ put_in_order x ms)))
      by true l e f rest = r
      by false true e f rest =
          let less : fs_order x m ≡ Less = is_less (fs_order x m) f in (
            (λ n h. elim (or_cases (same_name n m) (is_among ms n) h) [
              | inl here ↦ ap (fs_order x) (same_is n m here) ∙ less
              | inr later ↦ order_through x m n less (r.0 n later)
            ]),
            r,
          )
      by false false e f rest = (
        (λ n h. elim (or_cases (same_name n x) (is_among ms n) (sym (among_put x ms n) ∙ h)) [
          | inl here ↦ ap (fs_order m) (same_is n x here) ∙ behind x m nx first e f
          | inr later ↦ r.0 n later
        ]),
        rest,
      )

  pub rises_ordered : (ns : List Values) → ((m : Values) → is_among ns m ≡ true → IsName m) → Rises (ordered ns)
  rises_ordered [] names = tt
  rises_ordered (n ∷ ns) names =
      rises_put n (ordered ns) (names n (or_left (same_name n n) (is_among ns n) (itself n)))
      (λ m h. names m (or_right (same_name m n) (is_among ns m) (sym (among_ordered ns m) ∙ h)))
      (rises_ordered ns (λ m h. names m (or_right (same_name m n) (is_among ns m) h)))
