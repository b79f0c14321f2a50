-- Lemmas: texts, compared from the front.
use Rattle.std.proofs.Common.{◌≡◌, ℕ, Bool, true, false, ◌||◌, ◌&&◌, eqb, List, [], ◌∷◌, ◌++◌, length, take, drop, reverse, ◌-◌, ◌<◌, ◌≤◌, arith, refl, sym, ap, subst, ◌∙◌, nat_cmp, is_lt, Ordering, Less, Equal, Greater, true≢false, eq-eqb, eqb-true}
use Rattle.std.specs.Prelude.{nat_eq}
use Rattle.std.specs.Bool.{Decides}
use Rattle.std.specs.List.{starts_with, ends_with}
use Rattle.std.specs.Ordering.{ordering_then}
use Rattle.std.specs.Cmp.{nat_cmp_total}
use Rattle.std.proofs.lemmas.List.{reverse-append, reverse-reverse, nil_from_length, length-reverse}
use Rattle.std.proofs.lemmas.Bool.{and_parts}
use Rattle.std.proofs.lemmas.Cmp.{tied_itself, nat_list_cmp_total}
use Rattle.std.proofs.lemmas.Map.Lookups.{exact_unsigned}
use Rattle.std.proofs.lemmas.Slice.Eq.{starts_is, ends_is}
use Rattle.name_index.specs.declared.keys.End.{End}
use Rattle.name_index.specs.declared.keys.End.TheVariants as end
use Rattle.name_index.specs.Keys.{turned_body, text_order, body_touches}

nat_itself : (c : ℕ) → nat_cmp c c ≡ Equal
nat_itself c = tied_itself nat_cmp_total c

pub text_itself : (x : List ℕ) → text_order x x ≡ Equal
text_itself x = tied_itself nat_list_cmp_total x

then_or : (r : Ordering) (d e : ℕ) (x y b : List ℕ) → nat_cmp e d ≡ r → ordering_then r (text_order x y) ≡ Less
    → (text_order x y ≡ Less → (is_lt (text_order x b) || starts_with nat_eq x b) ≡ true)
    → (is_lt (ordering_then r (text_order x b)) || (nat_eq d e && starts_with nat_eq x b)) ≡ true
then_or Less d e x y b is l more = refl
then_or Equal d e x y b is l more =
    let same : eqb d e ≡ true = eq-eqb d e (sym (exact_unsigned e d is)) in
    ap (λ (t : Bool). is_lt (text_order x b) || (t && starts_with nat_eq x b)) same ∙ more l
then_or Greater d e x y b is l more = absurd (true≢false (sym (ap is_lt l)))

-- A text before another text that has a prefix is before this prefix, or has it.
pub below_or_starts : (b x y : List ℕ) → starts_with nat_eq y b ≡ true → text_order x y ≡ Less → (is_lt (text_order x b) || starts_with nat_eq x b) ≡ true
below_or_starts [] [] y s l = refl
below_or_starts [] (e ∷ x) y s l = refl
below_or_starts (c ∷ b) x [] s l = absurd (true≢false (sym s))
below_or_starts (c ∷ b) [] (d ∷ y) s l = refl
below_or_starts (c ∷ b) (e ∷ x) (d ∷ y) s l =
    let both = and_parts (eqb c d) (starts_with nat_eq y b) s in
    let same : c ≡ d = eqb-true c d both.0 in
    then_or (nat_cmp e c) c e x y b refl (subst (λ (z : ℕ). ordering_then (nat_cmp e z) (text_order x y) ≡ Less) (sym same) l) (λ less. below_or_starts b x y both.1 less)

-- A text that has a prefix is not before this prefix.
pub not_below : (b x : List ℕ) → starts_with nat_eq x b ≡ true → is_lt (text_order x b) ≡ false
not_below [] [] s = refl
not_below [] (d ∷ x) s = refl
not_below (c ∷ b) [] s = absurd (true≢false (sym s))
not_below (c ∷ b) (d ∷ x) s =
    let both = and_parts (eqb c d) (starts_with nat_eq x b) s in
    let same : c ≡ d = eqb-true c d both.0 in
    let tied : nat_cmp d c ≡ Equal = ap (λ (z : ℕ). nat_cmp d z) same ∙ nat_itself d in
    ap (λ (r : Ordering). is_lt (ordering_then r (text_order x b))) tied ∙ not_below b x both.1

-- ---- comparing from the back

pub nat_Decides : (a b : ℕ) → Decides (nat_eq a b) (a ≡ b)
nat_Decides a b = (eqb-true a b, eq-eqb a b)

ends_key : (text body : List ℕ) → ends_with nat_eq text body ≡ starts_with nat_eq (reverse text) (reverse body)
ends_key text body =
    let e = ends_is nat_Decides text body (ends_with nat_eq text body) refl in
    let s = starts_is nat_Decides (reverse text) (reverse body) (starts_with nat_eq (reverse text) (reverse body)) refl in
    same (ends_with nat_eq text body) (starts_with nat_eq (reverse text) (reverse body))
    (λ h. let is = e.0 h in s.1 (reverse (take_front text body)) (ap reverse is ∙ reverse-append (take_front text body) body))
    (λ h. let is = s.0 h in e.1 (reverse (drop (length (reverse body)) (reverse text))) (sym (reverse-reverse text) ∙ ap reverse is ∙ reverse-append (reverse body) (drop (length (reverse body)) (reverse text)) ∙ ap (λ (u : List ℕ). reverse (drop (length (reverse body)) (reverse text)) ++ u) (reverse-reverse body)))
  where
    take_front : List ℕ → List ℕ → List ℕ
    take_front t b = take (length t - length b) t

    same : (x y : Bool) → (x ≡ true → y ≡ true) → (y ≡ true → x ≡ true) → x ≡ y
    same true y f g = sym (f refl)
    same false true f g = g refl
    same false false f g = refl

pub touches_key : (e : End) (body text : List ℕ) → body_touches e body text ≡ starts_with nat_eq (turned_body e text) (turned_body e body)
touches_key end.Front body text = refl
touches_key end.Back body text = ends_key text body

pub longer_back : (a b : List ℕ) → 1 ≤ length a → length b < 1 → text_order (reverse a) (reverse b) ≡ Greater
longer_back a b some none =
    let empty : b ≡ [] = nil_from_length b (omega (arith, none)) in
    ap (λ (u : List ℕ). text_order (reverse a) (reverse u)) empty ∙ full (reverse a) (omega (arith, some, length-reverse a)) where
      full : (u : List ℕ) → 1 ≤ length u → text_order u [] ≡ Greater
      full [] h = absurd (omega (arith, h))
      full (x ∷ u) h = refl
