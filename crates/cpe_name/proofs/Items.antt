-- Lemmas: one attribute with its value is read exactly.
use Rattle.std.proofs.Common.{◌≡◌, ◌⊎◌, ℕ, zero, suc, ◌-◌, ◌<◌, Bool, true, false, ◌&&◌, cond, eqb, List, [], ◌∷◌, ◌++◌, length, take, drop, Result, Ok, Err, Option, Some, None, refl, sym, ap, subst, ◌∙◌, inl, inr, append_assoc, arith, replicate, length-append}
use Rattle.std.specs.Prelude.{codes}
use Rattle.std.proofs.lemmas.List.{nil_from_length, take_at, append_cancel_right}
use Rattle.std.proofs.lemmas.Bool.{cases_Bool, eqb-true, and_parts, and_from, not-true, not_from_false, false_from_ne_true, both_ways}
use Rattle.cpe_values.specs.declared.value.Edge.TheVariants as edge
use Rattle.cpe_values.specs.declared.value.Value.{Value}
use Rattle.cpe_values.specs.declared.value.Value.TheVariants as value
use Rattle.cpe_values.specs.Parts.{Parts, parts, IsText}
use Rattle.cpe_values.specs.declared.spelling.Style.TheVariants as style
use Rattle.cpe_values.specs.Spelling.{spelling}
use Rattle.cpe_values.specs.Unspelling.{body_at, behind_body, parts_at}
use Rattle.cpe_values.specs.Values.{IsValue}
use Rattle.cpe_values.proofs.Unspelled.{parts_are}
use Rattle.name_grammar.specs.Scanners.{literal}
use Rattle.name_grammar.proofs.Results.{left_over}
use Rattle.name_grammar.proofs.Scans.{literal_scans}
use Rattle.cpe_name.specs.declared.attribute.Attribute.{Attribute}
use Rattle.cpe_name.specs.declared.attribute.Attribute.TheVariants.{Part, Vendor, Product, Version, Update, Edition, Language, SwEdition, TargetSw, TargetHw, Other}
use Rattle.cpe_name.specs.Names.{attributes, Suits}
use Rattle.cpe_name.specs.Text.{attribute_name, value_text}
use Rattle.cpe_name.specs.Scanning.{◌>>?◌, value_end, value_at, cut, text_between, is_lone, is_part_text, is_language_text, has_text_shape, may_have_text, left_of_scan, after_at, key_text, or_found, name_at, item_at, skip, next_at}
use Rattle.cpe_name.proofs.QuotedTexts.{IsInQuotes, IsValueText, value_scans, value_taken}
use Rattle.cpe_name.proofs.Shapes.{part_from, part_passes, language_from, language_passes}

-- ---- options

-- an option with its type given, so that equations between options have the same type
abbrev pub found : {A : Type 0} → A → Option A
found x = Some x

abbrev pub nothing_found : {A : Type 0} → Option A
nothing_found = None

pub some_is : {A : Type 0} (x y : A) → found x ≡ found y → x ≡ y
some_is x y e = cc

pub none≢some : {A : Type 0} (x : A) → nothing_found ≡ found x → ⊥
none≢some x e = cc

-- if two steps in turn found a result, the first step found a value
pub went_on : {A B : Type 0} (o : Option A) (f : A → Option B) (y : B) → (o >>? f) ≡ found y → (x : A) × (o ≡ Some x) × (f x ≡ Some y)
went_on (Some x) f y e = (x, refl, e)
went_on None f y e = absurd (none≢some y e)

-- which branch a test took
pub chosen : {X : Type 0} (b : Bool) (x y z : X) → cond b x y ≡ z → ((b ≡ true) × (x ≡ z)) ⊎ ((b ≡ false) × (y ≡ z))
chosen true x y z e = inl (refl, e)
chosen false x y z e = inr (refl, e)

-- ---- bytes that begin with a known text

left_is : (o : Result (List ℕ) ℕ) (r : List ℕ) → left_of_scan o ≡ Some r → o ≡ Ok r
left_is (Ok rest) r e = ap left_over (some_is rest r e)
left_is (Err left) r e = absurd (none≢some r e)

pub after_reads : (p s r : List ℕ) → after_at p s ≡ Some r → s ≡ p ++ r
unfolding after_at
after_reads p s r e = let a = (literal_scans p).takes s r (left_is (literal p s) r e) in a.cut ∙ ap (λ (u : List ℕ). u ++ r) a.lawful

pub after_short : (cs s : List ℕ) → length s < length cs → after_at cs s ≡ None
unfolding after_at literal
after_short [] s h = absurd (omega (arith, h))
after_short (c ∷ cs) [] h = refl
after_short (c ∷ cs) (d ∷ s) h =
    elim (cases_Bool (eqb d c)) [
      | inl is ↦ rw is (after_short cs s (omega (arith, h)))
      | inr is ↦ rw is refl
    ]

-- ---- names of attributes

or_parts_found : (o : Option (List ℕ)) (a : Attribute) (other : Option (Attribute × List ℕ)) (x : Attribute × List ℕ) → or_found o a other ≡ Some x → ((o ≡ Some x.1) × (a ≡ x.0)) ⊎ (other ≡ Some x)
or_parts_found (Some r) a other x e = let is = some_is (a, r) x e in inl (ap (λ (y : Attribute × List ℕ). Some y.1) is, ap (λ (y : Attribute × List ℕ). y.0) is)
or_parts_found None a other x e = inr e

pub name_reads : (which : List Attribute) (s : List ℕ) (x : Attribute × List ℕ) → name_at which s ≡ Some x → s ≡ key_text x.0 ++ x.1
unfolding name_at
name_reads [] s x e = absurd (none≢some x e)
name_reads (a ∷ which) s x e =
    elim (or_parts_found (after_at (key_text a) s) a (name_at which s) x e) [
      | inl h ↦ after_reads (key_text a) s x.1 h.0 ∙ ap (λ (b : Attribute). key_text b ++ x.1) h.1
      | inr h ↦ name_reads which s x h
    ]

pub name_again : (a : Attribute) (r : List ℕ) → name_at attributes (key_text a ++ r) ≡ Some (a, r)
unfolding name_at after_at literal
name_again Part r = refl
name_again Vendor r = refl
name_again Product r = refl
name_again Version r = refl
name_again Update r = refl
name_again Edition r = refl
name_again Language r = refl
name_again SwEdition r = refl
name_again TargetSw r = refl
name_again TargetHw r = refl
name_again Other r = refl

-- if the key of an attribute is at the start, that attribute is found
pub name_found : (a : Attribute) (s r : List ℕ) → after_at (key_text a) s ≡ Some r → name_at attributes s ≡ Some (a, r)
name_found a s r e = ap (name_at attributes) (after_reads (key_text a) s r e) ∙ name_again a r

-- ---- values

any_again : (r : List ℕ) → left_of_scan (value_end (codes "ANY" ++ r)) ≡ Some r
unfolding value_end literal
any_again r = refl

-- if `ANY` is at the start, it is the value
pub any_found : (s r : List ℕ) → after_at (codes "ANY") s ≡ Some r → left_of_scan (value_end s) ≡ Some r
any_found s r e = ap (λ (u : List ℕ). left_of_scan (value_end u)) (after_reads (codes "ANY") s r e) ∙ any_again r

-- the bytes are the text of a value that the attribute may have
pub record IsSlot (a : Attribute) (u : List ℕ) : Type 0 where
  pub value : Value
  pub suits : Suits a value
  pub is : u ≡ value_text value

lone_text : (t : Parts) → t ≡ parts edge.None (45 ∷ []) edge.None → is_lone (value_text (value.Text t)) ≡ true
lone_text t e = ap (λ (x : Parts). is_lone (value_text (value.Text x))) e

-- a text between quotes that is not one hyphen alone is a value's text
a_text : (u : List ℕ) (q : IsInQuotes u) → is_lone u ≡ false → IsText q.text
a_text u q h = record {
  lead = q.lead;
  characters = q.characters;
  some = q.some;
  no_hyphen = λ e. both_ways (is_lone u) h (ap is_lone q.is ∙ lone_text q.text e);
  trail = q.trail;
}

record IsGood (u : List ℕ) : Type 0 where
  value : Value
  good : IsValue value
  is : u ≡ value_text value

a_value : (u : List ℕ) → IsValueText u → is_lone u ≡ false → IsGood u
a_value u t h =
    elim t [
      | inl any ↦ record { value = value.Any; good = tt; is = any }
      | inr other ↦ elim other [
        | inl na ↦ record { value = value.Na; good = tt; is = na }
        | inr q ↦ record { value = value.Text q.text; good = a_text u q h; is = q.is }
      ]
    ]

-- a text that passes the test of an attribute's shape is that of a value that the attribute may have
shaped_slot : (a : Attribute) (shape : List ℕ → Bool) → Suits a value.Any → Suits a value.Na → ((u : List ℕ) → shape (34 ∷ u) ≡ true → (v : Value) × Suits a v × (34 ∷ u ≡ value_text v))
    → (v : Value) (u : List ℕ) → u ≡ value_text v → shape u ≡ true → IsSlot a u
shaped_slot a shape any na from value.Any u is h = record { value = value.Any; suits = any; is = is }
shaped_slot a shape any na from value.Na u is h = record { value = value.Na; suits = na; is = is }
shaped_slot a shape any na from (value.Text t) u is h =
    let p = from _ (ap shape (sym is) ∙ h) in
    record { value = p.0; suits = p.1; is = is ∙ p.2 }

shaped : (a : Attribute) (u : List ℕ) (g : IsGood u) → has_text_shape a u ≡ true → IsSlot a u
shaped Part u g h = shaped_slot Part is_part_text (tt, refl) (tt, refl) part_from g.value u g.is h
shaped Language u g h = shaped_slot Language is_language_text (tt, refl) (tt, refl) language_from g.value u g.is h
shaped _ u g h = record { value = g.value; suits = g.good; is = g.is }

a_slot : (a : Attribute) (u : List ℕ) → IsValueText u → may_have_text a u ≡ true → IsSlot a u
a_slot a u t h = let p = and_parts _ _ h in shaped a u (a_value u t (not-true _ p.0)) p.1

has : (a : Attribute) (v : Value) → Suits a v → has_text_shape a (value_text v) ≡ true
has Part v h = part_passes v h.1
has Language v h = language_passes v h.1
has _ v h = refl

-- each value that suits an attribute is lawful
pub good_of : (a : Attribute) (v : Value) → Suits a v → IsValue v
good_of Part v h = h.0
good_of Language v h = h.0
good_of _ v h = h

-- ---- the text that is one hyphen

lone_is_text : (u : List ℕ) → is_lone u ≡ true → u ≡ 34 ∷ 92 ∷ 45 ∷ 34 ∷ []
lone_is_text [] h = absurd cc
lone_is_text (a ∷ []) h = absurd cc
lone_is_text (a ∷ b ∷ []) h = absurd cc
lone_is_text (a ∷ b ∷ c ∷ []) h = absurd cc
lone_is_text (a ∷ b ∷ c ∷ d ∷ []) h =
    let p = and_parts (eqb a 34 && eqb b 92 && eqb c 45) (eqb d 34) h in
    let q = and_parts (eqb a 34 && eqb b 92) (eqb c 45) p.0 in
    let r = and_parts (eqb a 34) (eqb b 92) q.0 in
    rw (eqb-true a 34 r.0, eqb-true b 92 r.1, eqb-true c 45 q.1, eqb-true d 34 p.1) refl
lone_is_text (a ∷ b ∷ c ∷ d ∷ e ∷ u) h = absurd cc

lone_parts : parts_at (92 ∷ 45 ∷ []) ≡ parts edge.None (45 ∷ []) edge.None
unfolding body_at behind_body
lone_parts = refl

inner : (x y : List ℕ) → 34 ∷ (x ++ 34 ∷ []) ≡ 34 ∷ (y ++ 34 ∷ []) → x ≡ y
inner x y e = append_cancel_right x y (34 ∷ []) (ap (drop 1) e)

no_text_is_lone : (t : Parts) → IsText t → is_lone (value_text (value.Text t)) ≡ true → ⊥
no_text_is_lone t good h =
    let spells : spelling style.Wfn t ≡ 92 ∷ 45 ∷ [] = inner (spelling style.Wfn t) (92 ∷ 45 ∷ []) (lone_is_text (value_text (value.Text t)) h) in
    good.no_hyphen (sym (parts_are style.Wfn t (92 ∷ 45 ∷ []) good spells) ∙ lone_parts)

not_lone : (v : Value) → IsValue v → is_lone (value_text v) ≡ false
not_lone value.Any good = refl
not_lone value.Na good = refl
not_lone (value.Text t) good = false_from_ne_true _ (λ h. no_text_is_lone t good h)

-- the text of a value that suits an attribute passes the test for this attribute
may : (a : Attribute) (v : Value) → Suits a v → may_have_text a (value_text v) ≡ true
may a v h = and_from _ _ (not_from_false _ (not_lone v (good_of a v h))) (has a v h)

-- ---- the value at the start

pub between_is : (u r : List ℕ) → text_between (u ++ r) r ≡ u
between_is u r =
    let long : length (u ++ r) - length r ≡ length u = omega (arith, length-append u r) in
    ap (λ (n : ℕ). take n (u ++ r)) long ∙ take_at u r (length u) refl

record ValueRead (s : List ℕ) (x : List ℕ × List ℕ) : Type 0 where
  lawful : IsValueText x.0
  text : s ≡ x.0 ++ x.1

value_reads : (s : List ℕ) (x : List ℕ × List ℕ) → value_at s ≡ Some x → ValueRead s x
unfolding value_at
value_reads s x e = go (value_end s) refl where
  go : (r : Result (List ℕ) ℕ) → value_end s ≡ r → ValueRead s x
  go (Ok rest) is =
      let t = value_scans.takes s rest is in
      let prefix : text_between s rest ≡ t.taken = ap (λ (u : List ℕ). text_between u rest) t.cut ∙ between_is t.taken rest in
      let at : found (text_between s rest, rest) ≡ Some x = ap (cut s) (sym is) ∙ e in
      subst (ValueRead s) (ap (λ (u : List ℕ). (u, rest)) (sym prefix) ∙ some_is (text_between s rest, rest) x at) (record { lawful = t.lawful; text = t.cut })
  go (Err left) is = absurd (none≢some x (ap (cut s) (sym is) ∙ e))

value_again : (v : Value) (r : List ℕ) → IsValue v → value_at (value_text v ++ r) ≡ Some (value_text v, r)
unfolding value_at
value_again v r good = ap (cut (value_text v ++ r)) (value_taken v r good) ∙ ap (λ (u : List ℕ). found (u, r)) (between_is (value_text v) r)

-- ---- attributes with their values

abbrev pub item_text : Attribute → List ℕ → List ℕ
item_text a u = attribute_name a ++ 61 ∷ u

regroup : (a : Attribute) (u r : List ℕ) → item_text a u ++ r ≡ key_text a ++ (u ++ r)
regroup a u r = append_assoc (attribute_name a) (61 ∷ u) r ∙ sym (append_assoc (attribute_name a) (61 ∷ []) (u ++ r))

pub record ItemRead (s : List ℕ) (x : (Attribute × List ℕ) × List ℕ) : Type 0 where
  pub slot : IsSlot x.0.0 x.0.1
  pub text : s ≡ item_text x.0.0 x.0.1 ++ x.1

pub item_reads : (s : List ℕ) (x : (Attribute × List ℕ) × List ℕ) → item_at s ≡ Some x → ItemRead s x
unfolding item_at
item_reads s x e =
    let a = went_on (name_at attributes s) (λ n. value_at n.1 >>? λ y. cond (may_have_text n.0 y.0) (found {A = (Attribute × List ℕ) × List ℕ} ((n.0, y.0), y.1)) None) x e in
    let b = went_on (value_at a.0.1) (λ y. cond (may_have_text a.0.0 y.0) (found {A = (Attribute × List ℕ) × List ℕ} ((a.0.0, y.0), y.1)) None) x a.2 in
    let v = value_reads a.0.1 b.0 b.1 in
    elim (chosen (may_have_text a.0.0 b.0.0) (found {A = (Attribute × List ℕ) × List ℕ} ((a.0.0, b.0.0), b.0.1)) None (Some x) b.2) [
      | inl h ↦
          let text : s ≡ item_text a.0.0 b.0.0 ++ b.0.1 = name_reads attributes s a.0 a.1 ∙ ap (λ (u : List ℕ). key_text a.0.0 ++ u) v.text ∙ sym (regroup a.0.0 b.0.0 b.0.1) in
          subst (ItemRead s) (some_is ((a.0.0, b.0.0), b.0.1) x h.1) (record { slot = a_slot a.0.0 b.0.0 v.lawful h.0; text = text })
      | inr h ↦ absurd (none≢some x h.1)
    ]

pub item_again : (a : Attribute) (v : Value) (r : List ℕ) → Suits a v → item_at (item_text a (value_text v) ++ r) ≡ Some ((a, value_text v), r)
unfolding item_at
item_again a v r h = ap item_at (regroup a (value_text v) r) ∙ rw (name_again a (value_text v ++ r), value_again v r (good_of a v h), may a v h) refl

-- ---- what follows an attribute

skip_reads : (s : List ℕ) → (k : ℕ) × (s ≡ replicate k 32 ++ skip s)
unfolding skip
skip_reads [] = (0, refl)
skip_reads (c ∷ s) =
    elim (cases_Bool (eqb c 32)) [
      | inl h ↦ let so = skip_reads s in (suc so.0, rw h (ap (λ (z : ℕ). z ∷ s) (eqb-true c 32 h) ∙ ap (λ (u : List ℕ). 32 ∷ u) so.1))
      | inr h ↦ (0, rw h refl)
    ]

skip_again : (k : ℕ) (s : List ℕ) → skip (replicate k 32 ++ s) ≡ skip s
unfolding skip
skip_again zero s = refl
skip_again (suc k) s = skip_again k s

skip_name : (a : Attribute) (s : List ℕ) → skip (attribute_name a ++ s) ≡ attribute_name a ++ s
unfolding skip
skip_name Part s = refl
skip_name _ s = refl

abbrev pub NextRead : List ℕ → Option (List ℕ) → Type 0
NextRead s None = s ≡ 93 ∷ []
NextRead s (Some t) = (k : ℕ) × (s ≡ 44 ∷ (replicate k 32 ++ t))

pub next_reads : (s : List ℕ) (x : Option (List ℕ)) → next_at s ≡ Some x → NextRead s x
unfolding next_at
next_reads [] x e = absurd (none≢some x e)
next_reads (c ∷ s) x e =
    elim (chosen (eqb c 44) (found (Some (skip s))) (cond (eqb c 93 && eqb (length s) 0) (found None) None) (Some x) e) [
      | inl h ↦ let so = skip_reads s in subst (NextRead (c ∷ s)) (some_is (Some (skip s)) x h.1) (so.0, ap (λ (z : ℕ). z ∷ s) (eqb-true c 44 h.0) ∙ ap (λ (u : List ℕ). 44 ∷ u) so.1)
      | inr h ↦ elim (chosen (eqb c 93 && eqb (length s) 0) (found None) None (Some x) h.1) [
        | inl k ↦
            let both = and_parts (eqb c 93) (eqb (length s) 0) k.0 in
            subst (NextRead (c ∷ s)) (some_is None x k.1) (ap (λ (z : ℕ). z ∷ s) (eqb-true c 93 both.0) ∙ ap (λ (u : List ℕ). 93 ∷ u) (nil_from_length s (eqb-true _ _ both.1)))
        | inr k ↦ absurd (none≢some x k.1)
      ]
    ]

pub next_again : (k : ℕ) (a : Attribute) (s : List ℕ) → next_at (44 ∷ (replicate k 32 ++ (attribute_name a ++ s))) ≡ Some (Some (attribute_name a ++ s))
unfolding next_at
next_again k a s = ap (λ (u : List ℕ). Some (Some u)) (skip_again k (attribute_name a ++ s) ∙ skip_name a s)

pub next_end : next_at (93 ∷ []) ≡ Some None
unfolding next_at
next_end = refl
