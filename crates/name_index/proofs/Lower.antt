-- Lemmas: for texts in lower case, a search by bytes finds the near products.
use Rattle.std.proofs.Common.{◌≡◌, ℕ, zero, suc, ◌-◌, ◌≤◌, Bool, true, false, not, ◌&&◌, ◌||◌, cond, eqb, leb, List, [], ◌∷◌, length, drop, refl, sym, ap, ◌∙◌, arith, eqb-true, eq-eqb, length-drop}
use Rattle.std.specs.Cmp.{both_ways as agree}
use Rattle.std.specs.Prelude.{nat_eq}
use Rattle.std.specs.List.{starts_with, ends_with}
use Rattle.std.specs.Char.{to_ascii_lowercase}
use Rattle.std.proofs.lemmas.List.{take_all}
use Rattle.std.proofs.lemmas.Bool.{leb-true, le-leb, false_from_ne_true, both_ways}
use lib.Pointwise.{pointwise}
use Rattle.cpe_values.specs.declared.value.Edge.{Edge}
use Rattle.cpe_values.specs.declared.value.Edge.TheVariants as edge
use Rattle.cpe_values.specs.Same.{same_edge, same_value}
use Rattle.cpe_values.specs.declared.value.Value.{Value}
use Rattle.cpe_values.specs.declared.value.Value.TheVariants as value
use Rattle.cpe_values.specs.Parts.{Parts, is_nothing, has_special}
use Rattle.cpe_values.specs.Lower.{lower_value}
use Rattle.cpe_relation.specs.Matching.{lower}
use Rattle.cpe_relation.specs.MatchTests.{begins_with, same_lower}
use Rattle.cpe_relation.specs.Near.{near, near_plain}
use Rattle.cpe_relation.specs.Near as nearness
use Rattle.name_index.specs.declared.keys.End.{End}
use Rattle.name_index.specs.declared.keys.End.TheVariants as end
use Rattle.name_index.specs.declared.keys.Shape.{Shape}
use Rattle.name_index.specs.declared.keys.Shape.TheVariants as shape
use Rattle.name_index.specs.Keys.{shape_by, shape_of, shape_rank, body_of, has_by, in_run}
use Rattle.name_index.proofs.Orders.{same_text}

eqb_back : (a b : ℕ) → eqb a b ≡ eqb b a
eqb_back a b = agree (eqb a b) (eqb b a) (λ h. eq-eqb b a (sym (eqb-true a b h))) (λ h. eq-eqb a b (sym (eqb-true b a h)))

lower_drop : (k : ℕ) (t : List ℕ) → lower t ≡ t → lower (drop k t) ≡ drop k t
lower_drop zero t h = h
lower_drop (suc k) [] h = refl
lower_drop (suc k) (c ∷ t) h = let rest : lower t ≡ t = cc in lower_drop k t rest

pub same_is : (a b : List ℕ) → lower a ≡ a → lower b ≡ b → same_lower a b ≡ pointwise nat_eq a b
same_is a b h k = ap (λ (x : List ℕ). pointwise nat_eq x (lower b)) h ∙ ap (λ (x : List ℕ). pointwise nat_eq a x) k

pub begins_is : (t b : List ℕ) → lower t ≡ t → lower b ≡ b → begins_with t b ≡ starts_with nat_eq t b
begins_is t [] h k = refl
begins_is [] (c ∷ b) h k = refl
begins_is (d ∷ t) (c ∷ b) h k =
    let first : to_ascii_lowercase d ≡ d = cc in
    let rest : lower t ≡ t = cc in
    let head : to_ascii_lowercase c ≡ c = cc in
    let tail : lower b ≡ b = cc in
    ap (λ (x : ℕ). eqb x (to_ascii_lowercase c) && begins_with t b) first ∙ ap (λ (x : ℕ). eqb d x && begins_with t b) head
    ∙ ap (λ (x : Bool). x && begins_with t b) (eqb_back d c) ∙ ap (λ (x : Bool). eqb c d && x) (begins_is t b rest tail)

-- No text ends with a longer text.
longer : (t b : List ℕ) → leb (length b) (length t) ≡ false → b ≡ drop (length t - length b) t → ⊥
longer t b f is = both_ways (leb (length b) (length t)) f (le-leb (length b) (length t) (omega (arith, ap length is, length-drop (length t - length b) t)))

pub ends_is_at : (t b : List ℕ) → lower t ≡ t → lower b ≡ b → nearness.text_ends_with t b ≡ ends_with nat_eq t b
ends_is_at t b h k = by (leb (length b) (length t)) refl
  where
    by : (x : Bool) → leb (length b) (length t) ≡ x → (leb (length b) (length t) && begins_with (drop (length t - length b) t) b) ≡ pointwise nat_eq b (drop (length t - length b) t)
    by true e =
        let le : length b ≤ length t = leb-true (length b) (length t) e in
        let end_ = drop (length t - length b) t in
        ap (λ (x : Bool). x && begins_with end_ b) e ∙ begins_is end_ b (lower_drop (length t - length b) t h) k
        ∙ ap (pointwise nat_eq b) (take_all (length b) end_ (omega (arith, length-drop (length t - length b) t)))
    by false e =
        ap (λ (x : Bool). x && begins_with (drop (length t - length b) t) b) e
        ∙ sym (false_from_ne_true (pointwise nat_eq b (drop (length t - length b) t)) (λ same. longer t b e (same_text b (drop (length t - length b) t) same)))

-- ---- whether a product is in a run

pub lower_body : (v : Value) → lower_value v ≡ v → lower (body_of v) ≡ body_of v
lower_body value.Any h = refl
lower_body value.Na h = refl
lower_body (value.Text t) h = ap body_of h

no_special : (x y : Bool) → nat_eq 2 (shape_rank (shape_by x y)) ≡ not (not x || not y)
no_special true true = refl
no_special true false = refl
no_special false true = refl
no_special false false = refl

not_na : (x y : Bool) → nat_eq 1 (shape_rank (shape_by x y)) ≡ false
not_na true true = refl
not_na true false = refl
not_na false true = refl
not_na false false = refl

pub na_is : (v : Value) → near value.Na v ≡ in_run end.Front shape.Na [] false v
na_is value.Any = refl
na_is value.Na = refl
na_is (value.Text t) = sym (ap (λ (b : Bool). b && has_by false end.Front [] t.body) (not_na (is_nothing t.lead) (is_nothing t.trail)))

-- whether a text with the body `b` is near the plain text `t`; `x`: the text has no lead, `y`: the text has no trail
abbrev pub near_by : Bool → Bool → List ℕ → List ℕ → Bool
near_by x y b t = cond x (cond y (pointwise nat_eq b t) (starts_with nat_eq t b)) (cond y (ends_with nat_eq t b) true)

pub near_plain_is : (p : Parts) (t : List ℕ) → lower p.body ≡ p.body → lower t ≡ t → near_plain p t ≡ near_by (is_nothing p.lead) (is_nothing p.trail) p.body t
near_plain_is p t h k = by (is_nothing p.lead) (is_nothing p.trail)
  where
    by : (x y : Bool) → cond x (cond y (same_lower p.body t) (begins_with t p.body)) (cond y (nearness.text_ends_with t p.body) true) ≡ near_by x y p.body t
    by true true = same_is p.body t h k
    by true false = begins_is t p.body k h
    by false true = ends_is_at t p.body k h
    by false false = refl

-- A text as source is near the products of a run.
near_to : (p : Parts) (whole : Bool) (e : End) (body : List ℕ) → ((t : List ℕ) → lower t ≡ t → near_plain p t ≡ has_by whole e body t) → (v : Value) → lower_value v ≡ v → near (value.Text p) v ≡ in_run e shape.Plain body whole v
near_to p whole e body says value.Any h = refl
near_to p whole e body says value.Na h = refl
near_to p whole e body says (value.Text t) h =
    ap (λ (b : Bool). not (has_special t) && b) (says t.body (lower_body (value.Text t) h))
    ∙ ap (λ (b : Bool). b && has_by whole e body t.body) (sym (no_special (is_nothing t.lead) (is_nothing t.trail)))

-- whether a text of this shape has no lead, and whether it has no trail
abbrev edges_of : Shape → Bool × Bool
edges_of shape.Any = (true, true)
edges_of shape.Na = (true, true)
edges_of shape.Plain = (true, true)
edges_of shape.WithTrail = (true, false)
edges_of shape.WithLead = (false, true)
edges_of shape.WithBoth = (false, false)

edges_back : (x y : Bool) → edges_of (shape_by x y) ≡ (x, y)
edges_back true true = refl
edges_back true false = refl
edges_back false true = refl
edges_back false false = refl

-- an edge equals an empty one exactly if it is empty too
nothing_same : (a e : Edge) → is_nothing a ≡ true → same_edge a e ≡ is_nothing e
nothing_same edge.None edge.None h = refl
nothing_same edge.None edge.Star h = refl
nothing_same edge.None (edge.Marks n) h = refl
nothing_same edge.Star e h = absurd cc
nothing_same (edge.Marks m) e h = absurd cc

pub same_plain : (v w : Value) → shape_of v ≡ shape.Plain → in_run end.Front shape.Plain (body_of v) true w ≡ same_value v w
same_plain value.Any w h = absurd (omega (arith, ap shape_rank h))
same_plain value.Na w h = absurd (omega (arith, ap shape_rank h))
same_plain (value.Text p) value.Any h = refl
same_plain (value.Text p) value.Na h = refl
same_plain (value.Text p) (value.Text t) h =
    let e = sym (edges_back (is_nothing p.lead) (is_nothing p.trail)) ∙ ap edges_of h in
    by (is_nothing t.lead) (is_nothing t.trail) (pointwise nat_eq p.body t.body)
    ∙ ap (λ (b : Bool). b && pointwise nat_eq p.body t.body && is_nothing t.trail) (sym (nothing_same p.lead t.lead (ap (λ (z : Bool × Bool). z.0) e)))
    ∙ ap (λ (b : Bool). same_edge p.lead t.lead && pointwise nat_eq p.body t.body && b) (sym (nothing_same p.trail t.trail (ap (λ (z : Bool × Bool). z.1) e)))
  where
    by : (x y b : Bool) → (nat_eq 2 (shape_rank (shape_by x y)) && b) ≡ (x && b && y)
    by true true true = refl
    by true true false = refl
    by true false true = refl
    by true false false = refl
    by false true b = refl
    by false false b = refl

module _ (p : Parts) (low : lower_value (value.Text p) ≡ value.Text p) where
  as_is : (x y : Bool) → is_nothing p.lead ≡ x → is_nothing p.trail ≡ y → (t : List ℕ) → lower t ≡ t → near_plain p t ≡ near_by x y p.body t
  as_is x y e f t k =
      near_plain_is p t (lower_body (value.Text p) low) k ∙ ap (λ (b : Bool). near_by b (is_nothing p.trail) p.body t) e ∙ ap (λ (b : Bool). near_by x b p.body t) f

  edges_are : (s : Shape) → shape_of (value.Text p) ≡ s → (is_nothing p.lead, is_nothing p.trail) ≡ edges_of s
  edges_are s r = sym (edges_back (is_nothing p.lead) (is_nothing p.trail)) ∙ ap edges_of r

  pub plain_is : shape_of (value.Text p) ≡ shape.Plain → (v : Value) → lower_value v ≡ v → near (value.Text p) v ≡ in_run end.Front shape.Plain p.body true v
  plain_is r = let e = edges_are shape.Plain r in near_to p true end.Front p.body (as_is true true (ap (λ (z : Bool × Bool). z.0) e) (ap (λ (z : Bool × Bool). z.1) e))

  pub trail_is : shape_of (value.Text p) ≡ shape.WithTrail → (v : Value) → lower_value v ≡ v → near (value.Text p) v ≡ in_run end.Front shape.Plain p.body false v
  trail_is r = let e = edges_are shape.WithTrail r in near_to p false end.Front p.body (as_is true false (ap (λ (z : Bool × Bool). z.0) e) (ap (λ (z : Bool × Bool). z.1) e))

  pub lead_is : shape_of (value.Text p) ≡ shape.WithLead → (v : Value) → lower_value v ≡ v → near (value.Text p) v ≡ in_run end.Back shape.Plain p.body false v
  lead_is r = let e = edges_are shape.WithLead r in near_to p false end.Back p.body (as_is false true (ap (λ (z : Bool × Bool). z.0) e) (ap (λ (z : Bool × Bool). z.1) e))

  -- A text with lead and trail is near each plain text.
  pub both_is : (shape_of (value.Text p) ≡ shape.Plain → ⊥) → (shape_of (value.Text p) ≡ shape.WithTrail → ⊥) → (shape_of (value.Text p) ≡ shape.WithLead → ⊥) → (v : Value) → lower_value v ≡ v → near (value.Text p) v ≡ in_run end.Front shape.Plain [] false v
  both_is not_plain not_trail not_lead = by (is_nothing p.lead) (is_nothing p.trail) refl refl not_plain not_trail not_lead
    where
      by : (x y : Bool) → is_nothing p.lead ≡ x → is_nothing p.trail ≡ y → (shape_by x y ≡ shape.Plain → ⊥) → (shape_by x y ≡ shape.WithTrail → ⊥) → (shape_by x y ≡ shape.WithLead → ⊥) → (v : Value) → lower_value v ≡ v → near (value.Text p) v ≡ in_run end.Front shape.Plain [] false v
      by true true e f a b c = absurd (a refl)
      by true false e f a b c = absurd (b refl)
      by false true e f a b c = absurd (c refl)
      by false false e f a b c = near_to p false end.Front [] (as_is false false e f)
