-- Lemmas: near by the test and by the statements are the same, and a source that covers a target is near it.
use Rattle.std.proofs.Common.{◌≡◌, ◌≤◌, ◌<◌, ◌+◌, ℕ, zero, suc, ◌-◌, Bool, true, false, not, ◌&&◌, cond, eqb, leb, List, [], ◌∷◌, ◌++◌, length, take, drop, refl, sym, ap, ◌∙◌, Decides, arith, length-append, length-drop}
use Rattle.std.proofs.lemmas.List.{append-nil, nil_from_length, map-append, take-append-drop, drop_at}
use Rattle.std.proofs.lemmas.Bool.{false≢true, leb-true, le-leb, and_parts, and_from, not-true, not_from_false}
use Rattle.std.specs.Char.{to_ascii_lowercase}
use Rattle.cpe_values.specs.declared.value.Edge.{Edge}
use Rattle.cpe_values.specs.declared.value.Edge.TheVariants as edge
use Rattle.cpe_values.specs.declared.value.Value.{Value}
use Rattle.cpe_values.specs.declared.value.Value.TheVariants as value
use Rattle.cpe_values.specs.Parts.{Parts, parts, is_nothing, has_special}
use Rattle.cpe_relation.specs.declared.relation.Relation.TheVariants.{Disjoint}
use Rattle.cpe_relation.specs.Matching.{lower, Matches}
use Rattle.cpe_relation.specs.MatchTests.{begins_with, same_lower}
use Rattle.cpe_relation.specs.Table.{to_plain, relation}
use Rattle.cpe_relation.specs.NameRelation.{is_above}
use Rattle.cpe_relation.specs.Near.{near, near_plain, text_ends_with, HasBodyFirst, HasBodyLast, Near, NearPlain}
use Rattle.cpe_relation.proofs.Splits.{begins_split, begins_from, length_lower, matches-Decides, same_lower-Decides}
use Rattle.cpe_relation.proofs.ValueLaws.{above_unless, above_text, above_is}

-- ---- bodies at the beginning or end of a text

pub begins-Decides : (t b : List ℕ) → Decides (begins_with t b) (HasBodyFirst t b)
begins-Decides t b = (λ h. (lower (drop (length b) t), begins_split t b h), λ e. begins_from t b e.0 e.1)

lower_drop : (k : ℕ) (t : List ℕ) → lower (drop k t) ≡ drop k (lower t)
lower_drop zero t = refl
lower_drop (suc k) [] = refl
lower_drop (suc k) (c ∷ t) = lower_drop k t

pub ends-Decides : (t b : List ℕ) → Decides (text_ends_with t b) (HasBodyLast t b)
ends-Decides t b =
    let k = length t - length b in (
      λ h.
          let p = and_parts (leb (length b) (length t)) (begins_with (drop k t) b) h in
          let le : length b ≤ length t = leb-true (length b) (length t) p.0 in
          let split = begins_split (drop k t) b p.1 in
          let none : lower (drop (length b) (drop k t)) ≡ [] = nil_from_length _ (omega (arith, length_lower (drop (length b) (drop k t)), length-drop (length b) (drop k t), length-drop k t)) in (
            lower (take k t),
            ap lower (sym (take-append-drop k t)) ∙ map-append to_ascii_lowercase (take k t) (drop k t) ∙ ap (λ (r : List ℕ). lower (take k t) ++ r) (split ∙ ap (λ (r : List ℕ). lower b ++ r) none ∙ append-nil (lower b)),
          ),
      λ e.
          let len : length t ≡ length e.0 + length b = omega (arith, length_lower t, length_lower b, ap length e.1, length-append e.0 (lower b)) in
          let rest : lower (drop k t) ≡ lower b = lower_drop k t ∙ ap (drop k) e.1 ∙ drop_at e.0 (lower b) k (omega arith) in
          and_from _ _ (le-leb (length b) (length t) (omega arith)) (begins_from (drop k t) b [] (rest ∙ sym (append-nil (lower b)))),
    )

-- Let the text be at least as long as the body. A prefix of the body's length equals the body exactly if the text
-- begins with the body.
pub same_front : (t b : List ℕ) → length b ≤ length t → same_lower (take (length b) t) b ≡ begins_with t b
same_front t [] le = refl
same_front [] (c ∷ b) le = absurd (omega (arith, le))
same_front (d ∷ t) (c ∷ b) le = ap (λ (x : Bool). eqb (to_ascii_lowercase d) (to_ascii_lowercase c) && x) (same_front t b (omega (arith, le)))

-- A text that is shorter than the body doesn't begin with it.
pub shorter : (t b : List ℕ) → length t < length b → begins_with t b ≡ false
shorter t [] lt = absurd (omega (arith, lt))
shorter [] (c ∷ b) lt = refl
shorter (d ∷ t) (c ∷ b) lt = ap (λ (x : Bool). eqb (to_ascii_lowercase d) (to_ascii_lowercase c) && x) (shorter t b (omega (arith, lt))) ∙ never (eqb (to_ascii_lowercase d) (to_ascii_lowercase c))
  where
    never : (x : Bool) → (x && false) ≡ false
    never true = refl
    never false = refl

-- ---- covering products are near

begins_by : (trail : Edge) (b t : List ℕ) → Matches (parts edge.None b trail) t → begins_with t b ≡ true
begins_by trail b t m = (begins-Decides t b).1 (m.behind, m.split ∙ ap (λ (x : List ℕ). x ++ lower b ++ m.behind) m.lead)

ends_by : (lead : Edge) (b t : List ℕ) → Matches (parts lead b edge.None) t → text_ends_with t b ≡ true
ends_by lead b t m = (ends-Decides t b).1 (m.before, m.split ∙ ap (λ (x : List ℕ). m.before ++ lower b ++ x) m.trail ∙ append-nil (m.before ++ lower b))

near_text : (lead : Edge) (b : List ℕ) (trail : Edge) (t : List ℕ) → above_text (parts lead b trail) t ≡ true → near_plain (parts lead b trail) t ≡ true
near_text edge.None b edge.None t h = h
near_text edge.None b edge.Star t h = begins_by edge.Star b t ((matches-Decides (parts edge.None b edge.Star) t).0 h)
near_text edge.None b (edge.Marks n) t h = begins_by (edge.Marks n) b t ((matches-Decides (parts edge.None b (edge.Marks n)) t).0 h)
near_text edge.Star b edge.None t h = ends_by edge.Star b t ((matches-Decides (parts edge.Star b edge.None) t).0 h)
near_text (edge.Marks n) b edge.None t h = ends_by (edge.Marks n) b t ((matches-Decides (parts (edge.Marks n) b edge.None) t).0 h)
near_text edge.Star b edge.Star t h = refl
near_text edge.Star b (edge.Marks n) t h = refl
near_text (edge.Marks m) b edge.Star t h = refl
near_text (edge.Marks m) b (edge.Marks n) t h = refl

-- If a source product covers a target product, the source is near the target.
pub above_near : (a b : Value) → is_above (relation a b) ≡ true → near a b ≡ true
above_near value.Any b h = refl
above_near value.Na value.Any h = absurd cc
above_near value.Na value.Na h = refl
above_near value.Na (value.Text t) h = let q = above_unless (has_special t) Disjoint h in absurd (false≢true q.1)
above_near (value.Text s) value.Any h = absurd cc
above_near (value.Text s) value.Na h = absurd cc
above_near (value.Text s) (value.Text t) h =
    let p = above_unless (has_special t) (to_plain s t.body) h in
    and_from (not (has_special t)) (near_plain s t.body) (not_from_false (has_special t) p.0) (near_text s.lead s.body s.trail t.body (sym (above_is s t.body) ∙ p.1))

-- ---- the test and the statements

near_plain-Decides : (x y : Bool) (p : Parts) (t : List ℕ) → Decides (cond x (cond y (same_lower p.body t) (begins_with t p.body)) (cond y (text_ends_with t p.body) true)) (NearPlain x y p t)
near_plain-Decides false false p t = (λ h. tt, λ h. refl)
near_plain-Decides false true p t = ends-Decides t p.body
near_plain-Decides true false p t = begins-Decides t p.body
near_plain-Decides true true p t = same_lower-Decides p.body t

pub near-Decides : (a b : Value) → Decides (near a b) (Near a b)
near-Decides value.Any b = (λ h. tt, λ h. refl)
near-Decides value.Na value.Any = (λ h. false≢true h, λ h. absurd h)
near-Decides value.Na value.Na = (λ h. tt, λ h. refl)
near-Decides value.Na (value.Text t) = (λ h. false≢true h, λ h. absurd h)
near-Decides (value.Text p) value.Any = (λ h. false≢true h, λ h. absurd h)
near-Decides (value.Text p) value.Na = (λ h. false≢true h, λ h. absurd h)
near-Decides (value.Text p) (value.Text t) =
    let d = near_plain-Decides (is_nothing p.lead) (is_nothing p.trail) p t.body in (
      λ h. let q = and_parts (not (has_special t)) (near_plain p t.body) h in (not-true (has_special t) q.0, d.0 q.1),
      λ n. and_from (not (has_special t)) (near_plain p t.body) (not_from_false (has_special t) n.0) (d.1 n.1),
    )
