-- Laws of covers.
use Rattle.std.proofs.Common.{◌≡◌, ℕ, zero, suc, ◌<◌, ◌≤◌, Bool, true, false, cond, not, ◌||◌, ◌&&◌, List, [], ◌∷◌, map, refl, sym, ap, subst, ◌∙◌, inl, inr, arith}
use Rattle.std.specs.Cmp.{both_ways as agree}
use Rattle.std.specs.Prelude.{IsTrue}
use Rattle.std.specs.List.{list_all, list_any, sum_by, AllByRecursion}
use Rattle.std.proofs.lemmas.Bool.{and_from, and_parts, both_ways, cases_Bool, false_from_ne_true, not-true, or_cases, or_left, or_right}
use Rattle.std.proofs.lemmas.List.Sums.{sum_by-cons}
use Rattle.cpe_rows.specs.cpe_values.declared.value.Value.{Value}
use Rattle.cpe_rows.specs.cpe_values.declared.value.Value.TheVariants as value
use Rattle.cpe_rows.specs.cpe_values.Lower.{lower_value}
use Rattle.cpe_rows.specs.cpe_values.Parts.{parts}
use Rattle.cpe_rows.specs.cpe_name.Eleven.{Values}
use Rattle.cpe_rows.specs.cpe_name.declared.attribute.Attribute.{Attribute}
use Rattle.cpe_rows.specs.cpe_name.Equal.{same_name, same_name-Decides}
use Rattle.cpe_rows.specs.cpe_name.Lower.{lower_name, IsLower}
use Rattle.cpe_rows.specs.cpe_name.Names.{IsName, attributes, value_of, named}
use Rattle.cpe_rows.proofs.cpe_name.LowerNames.{lower_at, lower_lawful}
use Rattle.cpe_relation.specs.Matching.{lower}
use Rattle.cpe_relation.specs.NameRelation.{covers, is_above, relations}
use Rattle.cpe_fs.specs.Grammar.{fs_text, Fs}
use Rattle.cover_lines.specs.Cover.{cover, covers_other, is_covered_by_some, ordered, uncovered}
use Rattle.cover_lines.specs.Laws.{AreWellFormed, CoversAreOne, CoversStay, CoversAreOfNames, NamesAreCovered, CoversMeanTheSame, is_among}
use Rattle.cover_lines.proofs.Among.{all_among, among_filter, among_finds, among_image, filter_keeps, found_among, itself, map_keeps, same_any, same_is}
use Rattle.cover_lines.proofs.Order.{Rises, among_ordered, rises_ordered, rises_sorted, same_rising, sorted_rises}
use Rattle.std.proofs.lemmas.Str.Ascii.{lowercase-lowercase}

-- ---- lower case

lower_again : (t : List ℕ) → lower (lower t) ≡ lower t
lower_again [] = refl
lower_again (c ∷ t) = let here = lowercase-lowercase c in let rest = lower_again t in λ i. here i ∷ rest i

lower_value_again : (v : Value) → lower_value (lower_value v) ≡ lower_value v
lower_value_again value.Any = refl
lower_value_again value.Na = refl
lower_value_again (value.Text t) = ap (λ (b : List ℕ). value.Text (parts t.lead b t.trail)) (lower_again t.body)

pub lower_name_again : (n : Values) → lower_name (lower_name n) ≡ lower_name n
lower_name_again n = ap named (each attributes)
  where
    each : (ws : List Attribute) → map (λ w. lower_value (value_of (lower_name n) w)) ws ≡ map (λ w. lower_value (value_of n w)) ws
    each [] = refl
    each (w ∷ ws) = let here = ap lower_value (lower_at n w) ∙ lower_value_again (value_of n w) in let rest = each ws in λ i. here i ∷ rest i

abbrev lowered : List Values → List Values
lowered ns = map lower_name ns

among_lower : (ns : List Values) (n : Values) → is_among (lowered ns) n ≡ true → lower_name n ≡ n
among_lower ns n h = let x = among_image lower_name ns n h in ap lower_name x.2 ∙ lower_name_again x.0 ∙ sym x.2

among_named : (ns : List Values) → AreWellFormed ns → (n : Values) → is_among (lowered ns) n ≡ true → IsName n
among_named ns names n h = let x = among_image lower_name ns n h in subst IsName (sym x.2) (lower_lawful x.0 (all_among IsName ns names x.0 x.1))

-- ---- the names of a cover

pub among_cover : (ns : List Values) (n : Values) → is_among (cover ns) n ≡ (not (is_covered_by_some (lowered ns) n) && is_among (lowered ns) n)
among_cover ns n = among_ordered (uncovered (lowered ns)) n ∙ among_filter (λ m. not (is_covered_by_some (lowered ns) m)) (lowered ns) n

cover_parts : (ns : List Values) (n : Values) → is_among (cover ns) n ≡ true → (not (is_covered_by_some (lowered ns) n) ≡ true) × (is_among (lowered ns) n ≡ true)
cover_parts ns n h = and_parts (not (is_covered_by_some (lowered ns) n)) (is_among (lowered ns) n) (sym (among_cover ns n) ∙ h)

module _ (one : (a b : Values) (text : List ℕ) → Fs a text → Fs b text → a ≡ b) where
  pub apart : (a b : Values) → IsName a → IsName b → fs_text a ≡ fs_text b → a ≡ b
  apart a b na nb e = one a b (fs_text a) (na, refl) (nb, e)

  pub ordered_rises : (ns : List Values) → ((m : Values) → is_among ns m ≡ true → IsName m) → Rises (ordered ns)
  ordered_rises ns names = rises_ordered IsName apart ns names

  cover_rises : (ns : List Values) → AreWellFormed ns → Rises (cover ns)
  cover_rises ns names =
      ordered_rises (uncovered (lowered ns))
      (λ m h. among_named ns names m (and_parts (not (is_covered_by_some (lowered ns) m)) (is_among (lowered ns) m) (sym (among_filter (λ k. not (is_covered_by_some (lowered ns) k)) (lowered ns) m) ∙ h)).1)

  pub covers_are_one : CoversAreOne
  covers_are_one ns names = (
    record { rising = rises_sorted (cover ns) (cover_rises ns names); members = among_cover ns },
    λ other is. same_rising other (cover ns) (sorted_rises other is.rising) (cover_rises ns names) (λ n. is.members n ∙ sym (among_cover ns n)),
  )

  pub covers_stay : CoversStay
  covers_stay ns names =
      let lower_stays : lowered (cover ns) ≡ cover ns = map_keeps lower_name (cover ns) (λ m h. among_lower ns m (cover_parts ns m h).1) in
      let none : uncovered (cover ns) ≡ cover ns = filter_keeps (λ n. not (is_covered_by_some (cover ns) n)) (cover ns) (λ m h. ap not (still m h)) in
      ap (λ (xs : List Values). ordered (uncovered xs)) lower_stays ∙ ap ordered none
      ∙ same_rising (ordered (cover ns)) (cover ns) (ordered_rises (cover ns) (λ m h. among_named ns names m (cover_parts ns m h).1)) (cover_rises ns names) (among_ordered (cover ns))
    where
      still : (m : Values) → is_among (cover ns) m ≡ true → is_covered_by_some (cover ns) m ≡ false
      still m h = false_from_ne_true _ (λ k.
          let x = found_among (λ a. covers_other a m) (cover ns) k in
          both_ways (is_covered_by_some (lowered ns) m) (not-true _ (cover_parts ns m h).0) (among_finds (λ a. covers_other a m) (lowered ns) x.0 (cover_parts ns x.0 x.1).1 x.2))

  pub covers_are_of_names : CoversAreOfNames
  covers_are_of_names xs ys nx ny same =
      same_rising (cover xs) (cover ys) (cover_rises xs nx) (cover_rises ys ny)
      (λ n. among_cover xs n ∙ (λ i. not (same_any (λ m. covers_other m n) (lowered xs) (lowered ys) same i) && same n i) ∙ sym (among_cover ys n))

-- ---- each name is covered

-- the number of names that pass
abbrev passing : (Values → Bool) → List Values → ℕ
passing p ns = sum_by (λ m. cond (p m) 1 0) ns

no_more : (p q : Values → Bool) → ((m : Values) → p m ≡ true → q m ≡ true) → (m : Values) → cond (p m) 1 0 ≤ cond (q m) 1 0
no_more p q imp m = by (p m) (q m) (imp m)
  where
    by : (a b : Bool) → (a ≡ true → b ≡ true) → cond a 1 0 ≤ cond b 1 0
    by true b f = subst (λ (c : Bool). 1 ≤ cond c 1 0) (sym (f refl)) (omega arith)
    by false b f = omega arith

passing_le : (p q : Values → Bool) → ((m : Values) → p m ≡ true → q m ≡ true) → (ns : List Values) → passing p ns ≤ passing q ns
passing_le p q imp [] = omega arith
passing_le p q imp (n ∷ ns) = omega (arith, sum_by-cons (λ m. cond (p m) 1 0) n ns, sum_by-cons (λ m. cond (q m) 1 0) n ns, no_more p q imp n, passing_le p q imp ns)

passing_lt : (p q : Values → Bool) → ((m : Values) → p m ≡ true → q m ≡ true) → (ns : List Values) (k : Values) → is_among ns k ≡ true → q k ≡ true → p k ≡ false → passing p ns < passing q ns
passing_lt p q imp [] k h passes fails = absurd cc
passing_lt p q imp (n ∷ ns) k h passes fails = elim (or_cases (same_name k n) (is_among ns k) h) [
  | inl here ↦
      let is = same_is k n here in
      omega (arith, sum_by-cons (λ m. cond (p m) 1 0) n ns, sum_by-cons (λ m. cond (q m) 1 0) n ns, none n (ap p (sym is) ∙ fails), some n (ap q (sym is) ∙ passes), passing_le p q imp ns)
  | inr later ↦
      omega (arith, sum_by-cons (λ m. cond (p m) 1 0) n ns, sum_by-cons (λ m. cond (q m) 1 0) n ns, no_more p q imp n, passing_lt p q imp ns k later passes fails)
]
  where
    none : (m : Values) → p m ≡ false → ◌≡◌ {A = ℕ} (cond (p m) 1 0) 0
    none m e = ap {B = ℕ} (λ (b : Bool). cond b 1 0) e

    some : (m : Values) → q m ≡ true → ◌≡◌ {A = ℕ} (cond (q m) 1 0) 1
    some m e = ap {B = ℕ} (λ (b : Bool). cond b 1 0) e

module _ (through : (a b c : Values) → IsTrue (covers a b) → IsTrue (covers b c) → IsTrue (covers a c)) (both : (a b : Values) → IsTrue (covers a b) → IsTrue (covers b a) → lower_name a ≡ lower_name b) where
  -- in lower case: if a name covers another, and this covers a third, the first covers the third and isn't the same name
  over : (m k n : Values) → lower_name k ≡ k → lower_name n ≡ n → covers_other k n ≡ true → covers_other m k ≡ true → covers_other m n ≡ true
  over m k n lk ln h g =
      let above = and_parts (not (same_name k n)) (covers k n) h in
      let top = and_parts (not (same_name m k)) (covers m k) g in
      and_from (not (same_name m n)) (covers m n) (ap not (differ above.0 above.1 top.1)) (through m k n top.1 above.1)
    where
      differ : not (same_name k n) ≡ true → covers k n ≡ true → covers m k ≡ true → same_name m n ≡ false
      differ ne kn mk = false_from_ne_true _ (λ e.
          let back : covers n k ≡ true = ap (λ (x : Values). covers x k) (sym (same_is m n e)) ∙ mk in
          let one : k ≡ n = sym lk ∙ both k n kn back ∙ ln in
          both_ways (same_name k n) (not-true _ ne) ((same_name-Decides k n).1 one))

  pub names_are_covered : NamesAreCovered
  names_are_covered ns n h = go (suc (passing (λ m. covers_other m n) (lowered ns))) n h (omega arith)
    where
      reached : Values → Bool
      reached x = is_among (cover ns) x || list_any (λ m. covers m x) (cover ns)

      go : (most : ℕ) (x : Values) → is_among (lowered ns) x ≡ true → passing (λ m. covers_other m x) (lowered ns) < most → reached x ≡ true
      go zero x among few = absurd (omega (arith, few))
      go (suc most) x among few = elim (cases_Bool (is_covered_by_some (lowered ns) x)) [
        | inr none ↦ or_left (is_among (cover ns) x) (list_any (λ m. covers m x) (cover ns)) (among_cover ns x ∙ and_from (not (is_covered_by_some (lowered ns) x)) (is_among (lowered ns) x) (ap not none) among)
        | inl passes ↦
            let k = found_among (λ m. covers_other m x) (lowered ns) passes in
            let up : covers k.0 x ≡ true = (and_parts (not (same_name k.0 x)) (covers k.0 x) k.2).1 in
            let fewer : passing (λ m. covers_other m k.0) (lowered ns) < passing (λ m. covers_other m x) (lowered ns) =
            passing_lt (λ m. covers_other m k.0) (λ m. covers_other m x) (λ m g. over m k.0 x (among_lower ns k.0 k.1) (among_lower ns x among) k.2 g) (lowered ns) k.0 k.1 k.2 (ap (λ (b : Bool). not b && covers k.0 k.0) (itself k.0)) in
            or_right (is_among (cover ns) x) (list_any (λ m. covers m x) (cover ns)) (above x k.0 up (go most k.0 k.1 (omega (arith, few, fewer))))
      ]
        where
          above : (x k : Values) → covers k x ≡ true → reached k ≡ true → list_any (λ m. covers m x) (cover ns) ≡ true
          above x k up h = elim (or_cases (is_among (cover ns) k) (list_any (λ m. covers m k) (cover ns)) h) [
            | inl in_it ↦ among_finds (λ m. covers m x) (cover ns) k in_it up
            | inr under ↦ let c = found_among (λ m. covers m k) (cover ns) under in among_finds (λ m. covers m x) (cover ns) c.0 c.1 (through c.0 k x c.2 up)
          ]

  -- ---- the cover covers the same names

  module _ (caseless : (a b : Values) → relations (lower_name a) (lower_name b) ≡ relations a b) where
    lower_covers : (m n : Values) → covers (lower_name m) n ≡ covers m n
    unfolding covers
    lower_covers m n =
        ap (list_all is_above) (sym (caseless (lower_name m) n) ∙ ap (λ (k : Values). relations k (lower_name n)) (lower_name_again m) ∙ caseless m n)

    lowered_cover : (ns : List Values) (n : Values) → list_any (λ m. covers m n) (lowered ns) ≡ list_any (λ m. covers m n) ns
    lowered_cover [] n = refl
    lowered_cover (m ∷ ms) n = let here = lower_covers m n in let rest = lowered_cover ms n in λ i. here i || rest i

    pub covers_mean_the_same : CoversMeanTheSame
    covers_mean_the_same ns n = agree (list_any (λ m. covers m n) (cover ns)) (list_any (λ m. covers m n) (lowered ns)) lowers rises ∙ lowered_cover ns n
      where
        lowers : list_any (λ m. covers m n) (cover ns) ≡ true → list_any (λ m. covers m n) (lowered ns) ≡ true
        lowers h = let m = found_among (λ m. covers m n) (cover ns) h in among_finds (λ m. covers m n) (lowered ns) m.0 (cover_parts ns m.0 m.1).1 m.2

        rises : list_any (λ m. covers m n) (lowered ns) ≡ true → list_any (λ m. covers m n) (cover ns) ≡ true
        rises h =
            let m = found_among (λ m. covers m n) (lowered ns) h in
            elim (or_cases (is_among (cover ns) m.0) (list_any (λ k. covers k m.0) (cover ns)) (names_are_covered ns m.0 m.1)) [
              | inl in_it ↦ among_finds (λ m. covers m n) (cover ns) m.0 in_it m.2
              | inr under ↦ let k = found_among (λ k. covers k m.0) (cover ns) under in among_finds (λ m. covers m n) (cover ns) k.0 k.1 (through k.0 m.0 n k.2 m.2)
            ]

-- ---- names in lower case

-- for names in lower case, the cover needs no change of letter case
pub lower_cover : (ns : List Values) → AllByRecursion IsLower ns → ordered (uncovered ns) ≡ cover ns
lower_cover ns lower = ap (λ (ms : List Values). ordered (uncovered ms)) (sym (map_keeps lower_name ns (all_among IsLower ns lower)))
