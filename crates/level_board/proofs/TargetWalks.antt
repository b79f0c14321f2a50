-- Lemmas: counts over the targets that a name meets.
use Rattle.std.proofs.Common.{◌≡◌, ℕ, ◌+◌, ◌≤◌, Bool, true, false, not, ◌&&◌, ◌||◌, cond, List, [], ◌∷◌, ◌++◌, length, count_by, refl, sym, ap, ◌∙◌, arith}
use Rattle.std.specs.Prelude.{IsTrue, nat_lt}
use Rattle.std.specs.List.{sum_by, filter}
use Rattle.std.proofs.lemmas.Bool.{or_left, or_right, false≢true, ltb-false}
use Rattle.std.proofs.lemmas.List.{map-append, length-map}
use Rattle.std.proofs.lemmas.List.Sums.{sum_by-cons, sum_by-append, sum_by-le-sum_by, count_by-le-length}
use Rattle.name_index.specs.cpe_values.declared.value.Value.{Value}
use Rattle.name_index.specs.cpe_values.Lower.{has_specials}
use Rattle.name_index.specs.cpe_name.Eleven.{Values}
use Rattle.name_index.specs.cpe_name.Wildcards.{name_has_specials}
use Rattle.cpe_relation.specs.NameRelation.{covers}
use Rattle.cpe_relation.specs.Near.{near}
use Rattle.cpe_relation.specs.Maybe.{maybe}
use Rattle.name_index.specs.declared.products.Side.TheVariants as side
use Rattle.name_index.specs.Elements.{SameElements}
use Rattle.name_index.proofs.Sums.{if_passes, sum_filter}
use Rattle.name_index.specs.declared.table.NameId.{NameId}
use Rattle.name_index.specs.Table.{Names, kept_at}
use Rattle.name_index.specs.Index.{ids, name_id, is_near}
use Rattle.name_index.proofs.Postings.{sum_map}
use Rattle.name_index.proofs.Covered.{walk_length}
use Rattle.level_board.specs.Targets.{Targets, held, is_open, is_loose, is_met, covered_pairs, maybe_pairs, open_count, FitsTargets}

-- a test of pairs, made from a test of numbers
abbrev pub on_pairs : (NameId → Bool) → ℕ × ℕ → Bool
on_pairs p x = p (name_id x.0)

abbrev pub one_if : Bool → ℕ
one_if b = cond b 1 0

-- ---- a walk over near products has all numbers that pass a test, if no product has a special

module _ (p q l : NameId → Bool) (fine : (x : NameId) → p x ≡ true → (l x || q x) ≡ true) where
  zero_either : (b : Bool) → ◌≡◌ {A = ℕ} (cond b 0 0) 0
  zero_either true = refl
  zero_either false = refl

  term : (x : NameId) → one_if (l x) ≡ 0 → cond (q x) (one_if (p x)) 0 ≡ one_if (p x)
  term x e = by (p x) refl
    where
      near_then : (a b : Bool) → one_if a ≡ 0 → (a || b) ≡ true → b ≡ true
      near_then true b z h = absurd (omega (arith, z))
      near_then false b z h = h

      by : (b : Bool) → p x ≡ b → cond (q x) (one_if (p x)) 0 ≡ one_if (p x)
      by true c = ap {B = ℕ} (λ (b : Bool). cond b (cond (p x) 1 0) 0) (near_then (l x) (q x) e (fine x c))
      by false c = ap {B = ℕ} (λ (b : Bool). cond (q x) (cond b 1 0) 0) c ∙ zero_either (q x) ∙ sym (ap {B = ℕ} (λ (b : Bool). cond b 1 0) c)

  agree : (xs : List (ℕ × ℕ)) → count_by (on_pairs l) xs ≡ 0 → sum_by (λ (x : ℕ × ℕ). cond (q (name_id x.0)) (cond (p (name_id x.0)) 1 0) 0) xs ≡ count_by (on_pairs p) xs
  agree [] e = refl
  agree (x ∷ xs) e =
      omega (
        arith,
        sum_by-cons (λ (y : ℕ × ℕ). cond (q (name_id y.0)) (cond (p (name_id y.0)) 1 0) 0) x xs,
        sum_by-cons (λ (y : ℕ × ℕ). cond (p (name_id y.0)) 1 0) x xs,
        term (name_id x.0) (omega (arith, e, sum_by-cons (λ (y : ℕ × ℕ). cond (l (name_id y.0)) 1 0) x xs)),
        agree xs (omega (arith, e, sum_by-cons (λ (y : ℕ × ℕ). cond (l (name_id y.0)) 1 0) x xs)),
      )

  pub walk_passing : (xs : List (ℕ × ℕ)) (walk : List NameId) → count_by (on_pairs l) xs ≡ 0 → SameElements (filter q (ids xs)) walk → count_by p walk ≡ count_by (on_pairs p) xs
  walk_passing xs walk none same =
      sym (same (λ x. cond (p x) 1 0)) ∙ sum_filter (λ x. cond (p x) 1 0) q (ids xs) ∙ sum_map (if_passes q (λ x. cond (p x) 1 0)) (λ (x : ℕ × ℕ). name_id x.0) xs ∙ agree xs none

-- ---- the first element of the rest of a list

pub count_step : {X : Type 0} (q : X → Bool) (x : X) (rest xs : List X) (b : Bool) → xs ≡ x ∷ rest → b ≡ q x → count_by q xs ≡ cond b 1 0 + count_by q rest
count_step q x rest xs b e t = ap (count_by q) e ∙ sum_by-cons (λ y. cond (q y) 1 0) x rest ∙ ap {B = ℕ} (λ (c : Bool). cond c 1 0 + count_by q rest) (sym t)

-- A walk visits at most as many numbers as are held.
pub walk_few : (q : NameId → Bool) (xs : List (ℕ × ℕ)) (walk : List NameId) → SameElements (filter q (ids xs)) walk → length walk ≤ length xs
walk_few q xs walk same = omega (arith, walk_length q (ids xs) walk same, count_by-le-length q (ids xs), length-map xs (λ (x : ℕ × ℕ). name_id x.0))

-- ---- names with a special

-- A name whose product has a special is open.
pub loose_open : (v : Values) → has_specials v.product ≡ true → name_has_specials v ≡ true
loose_open v h = or_right (has_specials v.part) _ (or_right (has_specials v.vendor) _ (or_left (has_specials v.product) _ h))

module _ (names : Names) (name : Values) where
  -- No name covers a target whose product has a special.
  pub none_covered : ((a b : Values) → IsTrue (covers a b) → name_has_specials b ≡ false) → (xs : List (ℕ × ℕ)) → count_by (λ (x : ℕ × ℕ). not (is_loose names x.0)) xs ≡ 0 → covered_pairs names name xs ≡ 0
  none_covered law [] e = refl
  none_covered law (x ∷ xs) e =
      omega (arith, sum_by-cons (λ (y : ℕ × ℕ). cond (covers name (kept_at names y.0).name) 1 0) x xs, here (omega (arith, e, split)), none_covered law xs (omega (arith, e, split)))
    where
      split : count_by (λ (y : ℕ × ℕ). not (is_loose names y.0)) (x ∷ xs) ≡ cond (not (is_loose names x.0)) 1 0 + count_by (λ (y : ℕ × ℕ). not (is_loose names y.0)) xs
      split = sum_by-cons (λ (y : ℕ × ℕ). cond (not (is_loose names y.0)) 1 0) x xs

      here : one_if (not (is_loose names x.0)) ≡ 0 → one_if (covers name (kept_at names x.0).name) ≡ 0
      here z = by (covers name (kept_at names x.0).name) refl (is_loose names x.0) refl
        where
          by : (b : Bool) → covers name (kept_at names x.0).name ≡ b → (c : Bool) → is_loose names x.0 ≡ c → one_if (covers name (kept_at names x.0).name) ≡ 0
          by false h c k = ap {B = ℕ} (λ (d : Bool). cond d 1 0) h
          by true h true k = absurd (false≢true (sym (law name (kept_at names x.0).name h) ∙ loose_open (kept_at names x.0).name k))
          by true h false k = absurd (omega (arith, z, ap {B = ℕ} (λ (d : Bool). cond (not d) 1 0) k))

  -- There are at most as many targets that the name may cover as open targets.
  pub few_open : ((a b : Values) → IsTrue (maybe a b) → name_has_specials b ≡ true) → (xs : List (ℕ × ℕ)) → maybe_pairs names name xs ≤ open_count names xs
  few_open law xs = sum_by-le-sum_by (λ (y : ℕ × ℕ). cond (maybe name (kept_at names y.0).name) 1 0) (λ (y : ℕ × ℕ). cond (is_open names y.0) 1 0) xs (λ y. by (maybe name (kept_at names y.0).name) (is_open names y.0) (law name (kept_at names y.0).name))
    where
      by : (a b : Bool) → (a ≡ true → b ≡ true) → cond a 1 0 ≤ cond b 1 0
      by true true h = omega arith
      by true false h = absurd (false≢true (h refl))
      by false b h = omega arith

  -- If no target is open, the name may cover none, so the question can be skipped.
  pub asked_count : ((a b : Values) → IsTrue (maybe a b) → name_has_specials b ≡ true) → (opens : ℕ) (xs : List (ℕ × ℕ)) → open_count names xs ≤ opens → count_by (λ (x : ℕ × ℕ). nat_lt 0 opens && maybe name (kept_at names x.0).name) xs ≡ maybe_pairs names name xs
  asked_count law opens xs le = by (nat_lt 0 opens) refl
    where
      never : (ys : List (ℕ × ℕ)) → count_by (λ (x : ℕ × ℕ). false && maybe name (kept_at names x.0).name) ys ≡ 0
      never [] = refl
      never (y ∷ ys) = omega (arith, sum_by-cons (λ (x : ℕ × ℕ). cond (false && maybe name (kept_at names x.0).name) 1 0) y ys, never ys)

      by : (b : Bool) → nat_lt 0 opens ≡ b → count_by (λ (x : ℕ × ℕ). nat_lt 0 opens && maybe name (kept_at names x.0).name) xs ≡ maybe_pairs names name xs
      by true e = ap {B = ℕ} (λ (c : Bool). count_by (λ (x : ℕ × ℕ). c && maybe name (kept_at names x.0).name) xs) e
      by false e = ap {B = ℕ} (λ (c : Bool). count_by (λ (x : ℕ × ℕ). c && maybe name (kept_at names x.0).name) xs) e ∙ never xs ∙ none (omega (arith, few_open law xs, le, zero e))
        where
          zero : nat_lt 0 opens ≡ false → opens ≡ 0
          zero k = small opens k
            where
              small : (n : ℕ) → nat_lt 0 n ≡ false → n ≡ 0
              small n h = omega (arith, ltb-false 0 n h)

          none : maybe_pairs names name xs ≡ 0 → ◌≡◌ {A = ℕ} 0 (maybe_pairs names name xs)
          none k = sym k

module _ (names : Names) (name : Values) (t : Targets) (f : FitsTargets t names) where
  -- The covered targets of both lists are the covered targets of the first list.
  pub covered_joined : ((a b : Values) → IsTrue (covers a b) → name_has_specials b ≡ false) → (plain : ℕ) → plain ≡ covered_pairs names name t.plain → plain ≡ covered_pairs names name (held t)
  covered_joined law plain is = omega (arith, is, sum_by-append (λ (x : ℕ × ℕ). cond (covers name (kept_at names x.0).name) 1 0) t.plain t.loose, none_covered names name law t.loose f.all_loose)

  pub maybe_joined : ((a b : Values) → IsTrue (maybe a b) → name_has_specials b ≡ true) → (plain loose : ℕ) → plain ≡ count_by (λ (x : ℕ × ℕ). nat_lt 0 t.opens && maybe name (kept_at names x.0).name) t.plain → loose ≡ maybe_pairs names name t.loose → plain + loose ≡ maybe_pairs names name (held t)
  maybe_joined law plain loose is rest = omega (arith, asked, rest, sum_by-append (λ (x : ℕ × ℕ). cond (maybe name (kept_at names x.0).name) 1 0) t.plain t.loose)
    where
      few : open_count names t.plain ≤ t.opens
      few = omega (arith, f.opens, sum_by-append (λ (x : ℕ × ℕ). cond (is_open names x.0) 1 0) t.plain t.loose)

      asked : plain ≡ maybe_pairs names name t.plain
      asked = is ∙ asked_count names name law t.opens t.plain few

-- ---- the steps of a count

-- The near targets, and the targets whose product has a special, are met.
pub met_count : (names : Names) (asked : Value) (plain loose : List (ℕ × ℕ)) → count_by (λ (x : ℕ × ℕ). not (is_loose names x.0)) loose ≡ 0
    → count_by (is_near names side.Source asked) (ids plain) + length loose ≤ count_by (is_met names asked) (ids (plain ++ loose))
met_count names asked plain loose all =
    omega (arith, ap (count_by (is_met names asked)) (map-append (λ (x : ℕ × ℕ). name_id x.0) plain loose), sum_by-append (λ (x : NameId). cond (is_met names asked x) 1 0) (ids plain) (ids loose), near_met, loose_met loose all)
  where
    by : (a b c : Bool) → (a ≡ true → b ≡ true) → cond a 1 0 ≤ cond (c || b) 1 0
    by true true true h = omega arith
    by true true false h = omega arith
    by true false c h = absurd (false≢true (h refl))
    by false b c h = omega arith

    near_met : count_by (is_near names side.Source asked) (ids plain) ≤ count_by (is_met names asked) (ids plain)
    near_met = sum_by-le-sum_by (λ (x : NameId). cond (is_near names side.Source asked x) 1 0) (λ (x : NameId). cond (is_met names asked x) 1 0) (ids plain)
        (λ x. by (near asked (kept_at names x.0).name.product) (near asked (kept_at names x.0).name.product) (has_specials (kept_at names x.0).name.product) (λ h. h))

    loose_met : (xs : List (ℕ × ℕ)) → count_by (λ (x : ℕ × ℕ). not (is_loose names x.0)) xs ≡ 0 → length xs ≤ count_by (is_met names asked) (ids xs)
    loose_met [] e = omega arith
    loose_met (x ∷ xs) e = omega (arith, sum_by-cons (λ (y : NameId). cond (is_met names asked y) 1 0) (name_id x.0) (ids xs), here (is_loose names x.0) (near asked (kept_at names x.0).name.product) (omega (arith, e, split)), loose_met xs (omega (arith, e, split)))
      where
        split : count_by (λ (y : ℕ × ℕ). not (is_loose names y.0)) (x ∷ xs) ≡ cond (not (is_loose names x.0)) 1 0 + count_by (λ (y : ℕ × ℕ). not (is_loose names y.0)) xs
        split = sum_by-cons (λ (y : ℕ × ℕ). cond (not (is_loose names y.0)) 1 0) x xs

        here : (l n : Bool) → one_if (not l) ≡ 0 → 1 ≤ cond (l || n) 1 0
        here true n z = omega arith
        here false n z = absurd (omega (arith, z))
