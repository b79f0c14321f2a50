-- Lemmas: which targets are found among those that a name meets.
use Rattle.std.proofs.Common.{◌≡◌, ℕ, ◌+◌, Bool, true, false, ◌||◌, cond, List, [], ◌∷◌, ◌++◌, map, count_by, refl, sym, ap, ◌∙◌, arith}
use Rattle.std.specs.Prelude.{IsTrue, ◌↔◌}
use Rattle.std.specs.List.{sum_by, filter, list_all, list_any}
use Rattle.std.proofs.lemmas.Bool.{and_parts, or_left, or_right, false≢true}
use Rattle.std.proofs.lemmas.List.{append-nil, map-append}
use Rattle.std.proofs.lemmas.List.Sums.{sum_by-cons, sum_by-append}
use Rattle.std.proofs.lemmas.List.Elements.{filter-append}
use Rattle.name_index.specs.cpe_values.declared.value.Value.{Value}
use Rattle.name_index.specs.cpe_values.Lower.{has_specials}
use Rattle.name_index.specs.cpe_name.Eleven.{Values}
use Rattle.name_index.specs.cpe_name.Names.{value_of}
use Rattle.name_index.specs.cpe_name.Wildcards.{name_has_specials}
use Rattle.name_index.specs.cpe_name.declared.attribute.Attribute.{Attribute}
use Rattle.name_index.specs.cpe_name.declared.attribute.Attribute.TheVariants.{Vendor, Product, Version, Update, Edition, Language, SwEdition, TargetSw, TargetHw, Other}
use Rattle.cpe_relation.specs.declared.relation.Relation.{Relation}
use Rattle.cpe_relation.specs.declared.relation.Relation.TheVariants.{Disjoint, Equal, Subset, Superset, Undefined}
use Rattle.cpe_relation.specs.Table.{relation}
use Rattle.cpe_relation.specs.NameRelation.{covers, is_above, relations}
use Rattle.cpe_relation.specs.Maybe.{is_undefined, may_be_above, maybe}
use Rattle.name_index.specs.Elements.{SameElements}
use Rattle.name_index.specs.Near.{covers_product}
use Rattle.name_index.proofs.Sums.{if_passes, sum_filter}
use Rattle.name_index.specs.declared.table.NameId.{NameId}
use Rattle.name_index.specs.Table.{Names}
use Rattle.name_index.specs.Index.{ids, name_id, is_covered}
use Rattle.name_index.proofs.Postings.{sum_map}
use Rattle.level_board.specs.Targets.{Targets, FitsTargets, held, is_maybe_target, maybe_pairs}
use Rattle.level_board.proofs.TargetWalks.{few_open, none_covered, on_pairs, one_if}

-- ---- a walk has all numbers that pass a test, if no product has a special

module _ (p q l : NameId → Bool) (fine : (x : NameId) → q x ≡ true → (l x || p x) ≡ true) where
  zero_either : (b : Bool) → ◌≡◌ {A = ℕ} 0 (cond b 0 0)
  zero_either true = refl
  zero_either false = refl

  walked_then : (a b : Bool) → one_if a ≡ 0 → (a || b) ≡ true → b ≡ true
  walked_then true b z h = absurd (omega (arith, z))
  walked_then false b z h = h

  both : (f : NameId → ℕ) (x : NameId) → one_if (l x) ≡ 0 → if_passes q f x ≡ if_passes p (if_passes q f) x
  both f x none = by (q x) refl
    where
      by : (b : Bool) → q x ≡ b → if_passes q f x ≡ if_passes p (if_passes q f) x
      by true e = sym (ap {B = ℕ} (λ (c : Bool). cond c (cond (q x) (f x) 0) 0) (walked_then (l x) (p x) none (fine x e)))
      by false e = ap {B = ℕ} (λ (c : Bool). cond c (f x) 0) e ∙ zero_either (p x) ∙ sym (ap {B = ℕ} (λ (c : Bool). cond (p x) (cond c (f x) 0) 0) e)

  agree : (f : NameId → ℕ) (xs : List (ℕ × ℕ)) → count_by (on_pairs l) xs ≡ 0 → sum_by (λ (x : ℕ × ℕ). if_passes q f (name_id x.0)) xs ≡ sum_by (λ (x : ℕ × ℕ). if_passes p (if_passes q f) (name_id x.0)) xs
  agree f [] e = refl
  agree f (x ∷ xs) e =
      omega (
        arith,
        sum_by-cons (λ (y : ℕ × ℕ). if_passes q f (name_id y.0)) x xs,
        sum_by-cons (λ (y : ℕ × ℕ). if_passes p (if_passes q f) (name_id y.0)) x xs,
        both f (name_id x.0) (omega (arith, e, sum_by-cons (λ (y : ℕ × ℕ). cond (l (name_id y.0)) 1 0) x xs)),
        agree f xs (omega (arith, e, sum_by-cons (λ (y : ℕ × ℕ). cond (l (name_id y.0)) 1 0) x xs)),
      )

  pub walk_found : (xs : List (ℕ × ℕ)) (walk found : List NameId) → count_by (on_pairs l) xs ≡ 0 → SameElements (filter p (ids xs)) walk → found ≡ filter q walk → SameElements (filter q (ids xs)) found
  walk_found xs walk found none same is f =
      sum_filter f q (ids xs)
      ∙ sum_map (if_passes q f) (λ (x : ℕ × ℕ). name_id x.0) xs
      ∙ agree f xs none
      ∙ sym (sum_map (if_passes p (if_passes q f)) (λ (x : ℕ × ℕ). name_id x.0) xs)
      ∙ sym (sum_filter (if_passes q f) p (ids xs))
      ∙ same (if_passes q f)
      ∙ sym (sum_filter f q walk)
      ∙ sym (ap (sum_by f) is)

-- ---- the product of a target that a name may cover

may_in : Values → Values → List Attribute → Bool
may_in a b ws = list_all may_be_above (map (λ w. relation (value_of a w) (value_of b w)) ws)

-- The target's product has a special, or the name's product covers it.
pub maybe_product : ((a b : Value) → (relation a b ≡ Undefined) ↔ IsTrue (has_specials b)) → (a b : Values) → maybe a b ≡ true → (has_specials b.product || covers_product a.product b.product) ≡ true
unfolding maybe may_in
maybe_product law a b h =
    let from_version = Version ∷ Update ∷ Edition ∷ Language ∷ SwEdition ∷ TargetSw ∷ TargetHw ∷ Other ∷ [] in
    let all = and_parts (list_all may_be_above (relations a b)) (list_any is_undefined (relations a b)) h in
    let r = and_parts (may_be_above (relation a.part b.part)) (may_in a b (Vendor ∷ Product ∷ from_version)) all.0 in
    let s = and_parts (may_be_above (relation a.vendor b.vendor)) (may_in a b (Product ∷ from_version)) r.1 in
    by (relation a.product b.product) refl (and_parts (may_be_above (relation a.product b.product)) (may_in a b from_version) s.1).0
  where
    by : (r : Relation) → relation a.product b.product ≡ r → may_be_above r ≡ true → (has_specials b.product || covers_product a.product b.product) ≡ true
    by Disjoint e t = absurd (false≢true t)
    by Equal e t = or_right (has_specials b.product) (covers_product a.product b.product) (ap is_above e)
    by Subset e t = absurd (false≢true t)
    by Superset e t = or_right (has_specials b.product) (covers_product a.product b.product) (ap is_above e)
    by Undefined e t = or_left (has_specials b.product) (covers_product a.product b.product) ((law a.product b.product).0 e)

-- ---- both lists of numbers

nothing_found : (q : NameId → Bool) (xs : List (ℕ × ℕ)) → count_by (on_pairs q) xs ≡ 0 → filter q (ids xs) ≡ []
nothing_found q [] e = refl
nothing_found q (x ∷ xs) e = by (q (name_id x.0)) (omega (arith, e, split)) (nothing_found q xs (omega (arith, e, split)))
  where
    split : count_by (on_pairs q) (x ∷ xs) ≡ one_if (q (name_id x.0)) + count_by (on_pairs q) xs
    split = sum_by-cons (λ (y : ℕ × ℕ). cond (q (name_id y.0)) 1 0) x xs

    by : (b : Bool) → one_if b ≡ 0 → filter q (ids xs) ≡ [] → cond b (name_id x.0 ∷ filter q (ids xs)) (filter q (ids xs)) ≡ []
    by true z rest = absurd (omega (arith, z))
    by false z rest = rest

apart : (q : NameId → Bool) (a b : List (ℕ × ℕ)) → filter q (ids (a ++ b)) ≡ filter q (ids a) ++ filter q (ids b)
apart q a b = ap (filter q) (map-append (λ (x : ℕ × ℕ). name_id x.0) a b) ∙ filter-append q (ids a) (ids b)

pub both_found : (q : NameId → Bool) (a b : List (ℕ × ℕ)) (first found : List NameId) → SameElements (filter q (ids a)) first → found ≡ first ++ filter q (ids b) → SameElements (filter q (ids (a ++ b))) found
both_found q a b first found same is f =
    omega (arith, ap (sum_by f) (apart q a b), sum_by-append f (filter q (ids a)) (filter q (ids b)), same f, ap (sum_by f) is, sum_by-append f first (filter q (ids b)))

module _ (names : Names) (name : Values) (t : Targets) (f : FitsTargets t names) where
  pub covered_all : ((a b : Values) → IsTrue (covers a b) → name_has_specials b ≡ false) → (found : List NameId) → SameElements (filter (is_covered names name) (ids t.plain)) found → SameElements (filter (is_covered names name) (ids (held t))) found
  covered_all law found same g =
      ap (sum_by g) (apart (is_covered names name) t.plain t.loose ∙ ap (λ (xs : List NameId). filter (is_covered names name) (ids t.plain) ++ xs) (nothing_found (is_covered names name) t.loose (none_covered names name law t.loose f.all_loose)) ∙ append-nil (filter (is_covered names name) (ids t.plain)))
      ∙ same g

  pub none_open : ((a b : Values) → IsTrue (maybe a b) → name_has_specials b ≡ true) → t.opens ≡ 0 → (found : List NameId) → found ≡ [] → SameElements (filter (is_maybe_target names name) (ids (held t))) found
  none_open law none found is g = ap (sum_by g) (nothing_found (is_maybe_target names name) (held t) zero ∙ sym is)
    where
      zero : maybe_pairs names name (held t) ≡ 0
      zero = omega (arith, few_open names name law (held t), f.opens, none)
