-- Laws: two texts or two values pass the test of equality exactly if they are equal.
use Rattle.std.proofs.Common.{◌≡◌, ℕ, ◌&&◌, nat_eq, List, refl, ap, ◌∙◌, Decides}
use Rattle.std.proofs.lemmas.Bool.{eqb-true, eq-eqb, and_parts, and_from}
use Rattle.std.proofs.lemmas.Slice.Eq.{slice_eq-Decides}
use lib.Pointwise.{pointwise}
use Rattle.cpe_values.specs.declared.value.Edge.{Edge}
use Rattle.cpe_values.specs.declared.value.Edge.TheVariants as edge
use Rattle.cpe_values.specs.declared.value.Value.{Value}
use Rattle.cpe_values.specs.declared.value.Value.TheVariants as value
use Rattle.cpe_values.specs.Parts.{Parts, parts}
use Rattle.cpe_values.specs.Same.{same_edge, same_parts, same_value}

same_edge-Decides : (a b : Edge) → Decides (same_edge a b) (a ≡ b)
same_edge-Decides edge.None edge.None = (λ h. refl, λ h. refl)
same_edge-Decides edge.Star edge.Star = (λ h. refl, λ h. refl)
same_edge-Decides (edge.Marks m) (edge.Marks n) = (λ h. ap edge.Marks (eqb-true m n h), λ h. eq-eqb m n cc)
same_edge-Decides _ _ = (λ h. absurd cc, λ h. absurd cc)

same_body-Decides : (a b : List ℕ) → Decides (pointwise nat_eq a b) (a ≡ b)
same_body-Decides a b = slice_eq-Decides (λ x y. (eqb-true x y, eq-eqb x y)) a b (pointwise nat_eq a b) refl

pub same_parts-Decides : (a b : Parts) → Decides (same_parts a b) (a ≡ b)
same_parts-Decides a b =
    let lead = same_edge-Decides a.lead b.lead in
    let body = same_body-Decides a.body b.body in
    let trail = same_edge-Decides a.trail b.trail in (
      λ h.
          let p = and_parts (same_edge a.lead b.lead && pointwise nat_eq a.body b.body) (same_edge a.trail b.trail) h in
          let q = and_parts (same_edge a.lead b.lead) (pointwise nat_eq a.body b.body) p.0 in
          ap (λ (e : Edge). parts e a.body a.trail) (lead.0 q.0) ∙ ap (λ (u : List ℕ). parts b.lead u a.trail) (body.0 q.1) ∙ ap (λ (e : Edge). parts b.lead b.body e) (trail.0 p.1),
      λ h. and_from _ _ (and_from _ _ (lead.1 (ap (λ (t : Parts). t.lead) h)) (body.1 (ap (λ (t : Parts). t.body) h))) (trail.1 (ap (λ (t : Parts). t.trail) h)),
    )

pub same_value-Decides : (a b : Value) → Decides (same_value a b) (a ≡ b)
same_value-Decides value.Any value.Any = (λ h. refl, λ h. refl)
same_value-Decides value.Na value.Na = (λ h. refl, λ h. refl)
same_value-Decides (value.Text s) (value.Text t) = let d = same_parts-Decides s t in (λ h. ap value.Text (d.0 h), λ h. d.1 cc)
same_value-Decides _ _ = (λ h. absurd cc, λ h. absurd cc)
