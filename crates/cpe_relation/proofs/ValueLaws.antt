-- Lemmas: laws of the relation of two values.
use Rattle.std.proofs.Common.{◌≡◌, ℕ, Bool, true, false, not, ◌||◌, cond, nat_eq, List, [], ◌∷◌, ◌++◌, refl, sym, ap, ◌∙◌, arith}
use Rattle.std.specs.Cmp.{both_ways as agree}
use Rattle.std.proofs.lemmas.List.{append-nil}
use Rattle.std.proofs.lemmas.Bool.{false≢true}
use Rattle.std.proofs.lemmas.Str.Ascii.{lowercase-lowercase}
use Rattle.std.specs.Char.{to_ascii_lowercase}
use lib.Pointwise.{pointwise}
use Rattle.cpe_values.specs.declared.value.Edge.{Edge}
use Rattle.cpe_values.specs.declared.value.Edge.TheVariants as edge
use Rattle.cpe_values.specs.declared.value.Value.{Value}
use Rattle.cpe_values.specs.declared.value.Value.TheVariants as value
use Rattle.cpe_values.specs.Parts.{Parts, parts, is_nothing, has_special}
use Rattle.cpe_values.specs.Lower.{lower_parts, lower_value, has_specials}
use Rattle.cpe_relation.specs.declared.relation.Relation.{Relation}
use Rattle.cpe_relation.specs.declared.relation.Relation.TheVariants.{Disjoint, Equal, Subset, Superset, Undefined}
use Rattle.cpe_relation.specs.Matching.{lower, Allows, Matches}
use Rattle.cpe_relation.specs.MatchTests.{matches_text, same_lower}
use Rattle.cpe_relation.specs.Table.{to_plain, relation}
use Rattle.cpe_relation.specs.NameRelation.{is_above}
use Rattle.cpe_relation.specs.Maybe.{is_undefined}
use Rattle.cpe_relation.specs.Laws.{converse}
use Rattle.cpe_relation.proofs.Splits.{matches-Decides, same_lower-Decides}

-- ---- values above a text

pub above_unless : (x : Bool) (r : Relation) → is_above (cond x Undefined r) ≡ true → (x ≡ false) × (is_above r ≡ true)
above_unless true r h = absurd cc
above_unless false r h = (refl, h)

unless_above : (x : Bool) (r : Relation) → x ≡ false → is_above r ≡ true → is_above (cond x Undefined r) ≡ true
unless_above true r e h = absurd cc
unless_above false r e h = h

above_cond : (x y z : Bool) → is_above (cond x (cond y Superset Disjoint) (cond z Equal Disjoint)) ≡ cond x y z
above_cond true true z = refl
above_cond true false z = refl
above_cond false y true = refl
above_cond false y false = refl

-- A text is above a plain text if it matches this text, or if it is plain and the two are equal in lower case.
abbrev pub above_text : Parts → List ℕ → Bool
above_text s t = cond (has_special s) (matches_text s t) (same_lower s.body t)

pub above_is : (s : Parts) (t : List ℕ) → is_above (to_plain s t) ≡ above_text s t
above_is s t = above_cond (has_special s) (matches_text s t) (same_lower s.body t)

-- A pattern matches a text exactly if it matches another text that is equal in lower case.
matches_other : (p : Parts) (t u : List ℕ) → lower t ≡ lower u → Matches p t → Matches p u
matches_other p t u e m = record { before = m.before; behind = m.behind; split = sym e ∙ m.split; lead = m.lead; trail = m.trail }

above_other_by : (x : Bool) (s : Parts) (t u : List ℕ) → lower t ≡ lower u → cond x (matches_text s t) (same_lower s.body t) ≡ true → cond x (matches_text s u) (same_lower s.body u) ≡ true
above_other_by true s t u e h = (matches-Decides s u).1 (matches_other s t u e ((matches-Decides s t).0 h))
above_other_by false s t u e h = (same_lower-Decides s.body u).1 ((same_lower-Decides s.body t).0 h ∙ e)

above_other : (s : Parts) (t u : List ℕ) → lower t ≡ lower u → above_text s t ≡ true → above_text s u ≡ true
above_other s t u e h = above_other_by (has_special s) s t u e h

plain_text : (s : Parts) (t : List ℕ) → has_special s ≡ false → above_text s t ≡ true → lower s.body ≡ lower t
plain_text s t e h = (same_lower-Decides s.body t).0 (rw e at h)

-- ---- covering is transitive

pub above_through : (a b c : Value) → is_above (relation a b) ≡ true → is_above (relation b c) ≡ true → is_above (relation a c) ≡ true
above_through value.Any value.Any c h k = k
above_through value.Any value.Na value.Any h k = absurd cc
above_through value.Any value.Na value.Na h k = refl
above_through value.Any value.Na (value.Text u) h k = let q = above_unless (has_special u) Disjoint k in absurd (false≢true q.1)
above_through value.Any (value.Text t) value.Any h k = absurd cc
above_through value.Any (value.Text t) value.Na h k = absurd cc
above_through value.Any (value.Text t) (value.Text u) h k = let q = above_unless (has_special u) (to_plain t u.body) k in unless_above (has_special u) Superset q.0 refl
above_through value.Na value.Any c h k = absurd cc
above_through value.Na value.Na c h k = k
above_through value.Na (value.Text t) c h k = let q = above_unless (has_special t) Disjoint h in absurd (false≢true q.1)
above_through (value.Text s) value.Any c h k = absurd cc
above_through (value.Text s) value.Na c h k = absurd cc
above_through (value.Text s) (value.Text t) value.Any h k = absurd cc
above_through (value.Text s) (value.Text t) value.Na h k = absurd cc
above_through (value.Text s) (value.Text t) (value.Text u) h k =
    let p = above_unless (has_special t) (to_plain s t.body) h in
    let q = above_unless (has_special u) (to_plain t u.body) k in
    let same : lower t.body ≡ lower u.body = plain_text t u.body p.0 (sym (above_is t u.body) ∙ q.1) in
    unless_above (has_special u) (to_plain s u.body) q.0 (above_is s u.body ∙ above_other s t.body u.body same (sym (above_is s t.body) ∙ p.1))

-- ---- values that cover each other

no_edges : (lead trail : Edge) (b c : List ℕ) → (not (is_nothing lead) || not (is_nothing trail)) ≡ false → b ≡ c → parts lead b trail ≡ parts edge.None c edge.None
no_edges edge.None edge.None b c h e = ap (λ (x : List ℕ). parts edge.None x edge.None) e
no_edges edge.None edge.Star b c h e = absurd cc
no_edges edge.None (edge.Marks n) b c h e = absurd cc
no_edges edge.Star trail b c h e = absurd cc
no_edges (edge.Marks n) trail b c h e = absurd cc

pub above_one : (a b : Value) → is_above (relation a b) ≡ true → is_above (relation b a) ≡ true → lower_value a ≡ lower_value b
above_one value.Any value.Any h k = refl
above_one value.Any value.Na h k = absurd cc
above_one value.Any (value.Text t) h k = absurd cc
above_one value.Na value.Any h k = absurd cc
above_one value.Na value.Na h k = refl
above_one value.Na (value.Text t) h k = absurd cc
above_one (value.Text s) value.Any h k = absurd cc
above_one (value.Text s) value.Na h k = absurd cc
above_one (value.Text s) (value.Text t) h k =
    let p = above_unless (has_special t) (to_plain s t.body) h in
    let q = above_unless (has_special s) (to_plain t s.body) k in
    let same : lower s.body ≡ lower t.body = plain_text s t.body q.0 (sym (above_is s t.body) ∙ p.1) in
    ap value.Text (no_edges s.lead s.trail (lower s.body) (lower t.body) q.0 same ∙ sym (no_edges t.lead t.trail (lower t.body) (lower t.body) p.0 refl))

-- ---- letter case

lower_again : (t : List ℕ) → lower (lower t) ≡ lower t
lower_again [] = refl
lower_again (c ∷ t) = ap (λ (x : ℕ). x ∷ lower (lower t)) (lowercase-lowercase c) ∙ ap (λ (r : List ℕ). to_ascii_lowercase c ∷ r) (lower_again t)

matches_lower : (p : Parts) (t : List ℕ) → matches_text (lower_parts p) (lower t) ≡ matches_text p t
matches_lower p t = agree (matches_text (lower_parts p) (lower t)) (matches_text p t)
    (λ h.
    let m = (matches-Decides (lower_parts p) (lower t)).0 h in
    (matches-Decides p t).1 (record { before = m.before; behind = m.behind; split = sym (lower_again t) ∙ m.split ∙ ap (λ (b : List ℕ). m.before ++ b ++ m.behind) (lower_again p.body); lead = m.lead; trail = m.trail }))
    (λ h.
    let m = (matches-Decides p t).0 h in
    (matches-Decides (lower_parts p) (lower t)).1 (record { before = m.before; behind = m.behind; split = lower_again t ∙ m.split ∙ ap (λ (b : List ℕ). m.before ++ b ++ m.behind) (sym (lower_again p.body)); lead = m.lead; trail = m.trail }))

same_lower_lower : (a b : List ℕ) → same_lower (lower a) (lower b) ≡ same_lower a b
same_lower_lower a b = ap (λ (x : List ℕ). pointwise nat_eq x (lower (lower b))) (lower_again a) ∙ ap (λ (x : List ℕ). pointwise nat_eq (lower a) x) (lower_again b)

pub relation_lower : (a b : Value) → relation (lower_value a) (lower_value b) ≡ relation a b
relation_lower value.Any value.Any = refl
relation_lower value.Na value.Any = refl
relation_lower (value.Text s) (value.Text t) =
    ap (λ (x : Bool). cond (has_special t) Undefined (cond (has_special s) (cond x Superset Disjoint) (cond (same_lower (lower s.body) (lower t.body)) Equal Disjoint))) (matches_lower s t.body)
    ∙ ap (λ (x : Bool). cond (has_special t) Undefined (cond (has_special s) (cond (matches_text s t.body) Superset Disjoint) (cond x Equal Disjoint))) (same_lower_lower s.body t.body)
relation_lower _ _ = refl

-- ---- the relation of exchanged values

same_lower_back : (a b : List ℕ) → same_lower b a ≡ same_lower a b
same_lower_back a b = agree (same_lower b a) (same_lower a b)
    (λ h. (same_lower-Decides a b).1 (sym ((same_lower-Decides b a).0 h)))
    (λ h. (same_lower-Decides b a).1 (sym ((same_lower-Decides a b).0 h)))

flip_equal : (x : Bool) → converse (cond x Equal Disjoint) ≡ cond x Equal Disjoint
flip_equal true = refl
flip_equal false = refl

pub relation_back : (a b : Value) → has_specials a ≡ false → has_specials b ≡ false → relation b a ≡ converse (relation a b)
relation_back value.Any value.Any h k = refl
relation_back value.Any value.Na h k = refl
relation_back value.Any (value.Text t) h k = rw k refl
relation_back value.Na value.Any h k = refl
relation_back value.Na value.Na h k = refl
relation_back value.Na (value.Text t) h k = rw k refl
relation_back (value.Text s) value.Any h k = rw h refl
relation_back (value.Text s) value.Na h k = rw h refl
relation_back (value.Text s) (value.Text t) h k =
    let there : relation (value.Text s) (value.Text t) ≡ cond (same_lower s.body t.body) Equal Disjoint = rw (h, k) refl in
    let back : relation (value.Text t) (value.Text s) ≡ cond (same_lower t.body s.body) Equal Disjoint = rw (h, k) refl in
    back ∙ ap (λ (x : Bool). cond x Equal Disjoint) (same_lower_back s.body t.body) ∙ sym (flip_equal (same_lower s.body t.body)) ∙ ap converse (sym there)

pub relation_self : (a : Value) → has_specials a ≡ false → relation a a ≡ Equal
relation_self value.Any h = refl
relation_self value.Na h = refl
relation_self (value.Text t) h =
    let same : same_lower t.body t.body ≡ true = (same_lower-Decides t.body t.body).1 refl in
    rw (h, same) refl

-- a pattern matches its own body
nothing_allowed : (e : Edge) → Allows e []
nothing_allowed edge.None = refl
nothing_allowed edge.Star = tt
nothing_allowed (edge.Marks n) = omega arith

pub own_body : (p : Parts) → matches_text p p.body ≡ true
own_body p = (matches-Decides p p.body).1 (record { before = []; behind = []; split = sym (append-nil (lower p.body)); lead = nothing_allowed p.lead; trail = nothing_allowed p.trail })

-- ---- UNDEFINED relations

undefined_alone : (r : Relation) → is_undefined r ≡ true → r ≡ Undefined
undefined_alone Disjoint h = absurd cc
undefined_alone Equal h = absurd cc
undefined_alone Subset h = absurd cc
undefined_alone Superset h = absurd cc
undefined_alone Undefined h = refl

undefined_unless : (x : Bool) (r : Relation) → is_undefined r ≡ false → is_undefined (cond x Undefined r) ≡ x
undefined_unless true r h = refl
undefined_unless false r h = h

plain_defined : (y m e : Bool) → is_undefined (cond y (cond m Superset Disjoint) (cond e Equal Disjoint)) ≡ false
plain_defined true true e = refl
plain_defined true false e = refl
plain_defined false m true = refl
plain_defined false m false = refl

pub undefined_is : (a b : Value) → is_undefined (relation a b) ≡ has_specials b
undefined_is value.Any value.Any = refl
undefined_is value.Any value.Na = refl
undefined_is value.Any (value.Text t) = undefined_unless (has_special t) Superset refl
undefined_is value.Na value.Any = refl
undefined_is value.Na value.Na = refl
undefined_is value.Na (value.Text t) = undefined_unless (has_special t) Disjoint refl
undefined_is (value.Text s) value.Any = refl
undefined_is (value.Text s) value.Na = refl
undefined_is (value.Text s) (value.Text t) = undefined_unless (has_special t) (to_plain s t.body) (plain_defined (has_special s) (matches_text s t.body) (same_lower s.body t.body))

pub undefined_special : (a b : Value) → relation a b ≡ Undefined → has_specials b ≡ true
undefined_special a b e = sym (undefined_is a b) ∙ ap is_undefined e

pub special_undefined : (a b : Value) → has_specials b ≡ true → relation a b ≡ Undefined
special_undefined a b h = undefined_alone (relation a b) (undefined_is a b ∙ h)
