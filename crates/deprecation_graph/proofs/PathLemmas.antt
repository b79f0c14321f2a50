-- Lemmas about paths: a further step, two paths joined, and properties that are kept along a path.
use Rattle.std.proofs.Common.{◌≡◌, ℕ, ◌<◌, List, [], ◌∷◌, refl, sym, subst}
use Rattle.deprecation_graph.specs.Paths.{HasEdge, IsPathFrom, last_from, Leads, IsClosed}

module _ {next : ℕ → List ℕ} where
  pub Leads-self : (a : ℕ) → Leads next a a
  Leads-self a = record { path = []; steps = tt; ends = refl }

  pub Leads-cons : {a b c : ℕ} → HasEdge next a b → Leads next b c → Leads next a c
  Leads-cons {a} {b} {c} edge l = record { path = b ∷ l.path; steps = (edge, l.steps); ends = l.ends }

  -- P is true at the start of a path, if it is true at the end and each step carries it back from a successor
  pub Leads-back : {b : ℕ} (P : ℕ → Type 0) → P b → ((a c : ℕ) → HasEdge next a c → Leads next c b → P c → P a) → {a : ℕ} → Leads next a b → P a
  Leads-back {b} P base step {a} l = go a l.path l.steps l.ends
    where
      go : (x : ℕ) (p : List ℕ) → IsPathFrom next x p → last_from x p ≡ b → P x
      go x [] s e = subst P (sym e) base
      go x (y ∷ p) s e = step x y s.0 (record { path = p; steps = s.1; ends = e }) (go y p s.1 e)

  pub Leads-trans : {a b c : ℕ} → Leads next a b → Leads next b c → Leads next a c
  Leads-trans {a} {b} {c} l m = Leads-back (λ x. Leads next x c) m (λ x y edge _ r. Leads-cons edge r) l

  pub Leads-edge : {a b : ℕ} → HasEdge next a b → Leads next a b
  Leads-edge {a} {b} edge = Leads-cons edge (Leads-self b)

  pub Leads-then : {a b c : ℕ} → Leads next a b → HasEdge next b c → Leads next a c
  Leads-then {a} {b} {c} l edge = Leads-trans l (Leads-edge edge)

  -- P is true at the end of a path, if it is true at the start and each step carries it on to the successor
  pub Leads-forth : {b : ℕ} (P : ℕ → Type 0) → ((a c : ℕ) → HasEdge next a c → P a → P c) → {a : ℕ} → Leads next a b → P a → P b
  Leads-forth {b} P step l = Leads-back (λ x. P x → P b) (λ h. h) (λ x y edge _ r h. r (step x y edge h)) l

  -- a path to a number that is no successor has no step; neither has a path from a number without successors
  pub Leads-first : {a b : ℕ} → ((x : ℕ) → HasEdge next x b → ⊥) → Leads next a b → a ≡ b
  Leads-first {a} {b} none l = Leads-back (λ x. x ≡ b) refl (λ x y edge _ same. absurd (none x (subst (HasEdge next x) same edge))) l

  pub Leads-last : {a b : ℕ} → ((y : ℕ) → HasEdge next a y → ⊥) → Leads next a b → a ≡ b
  Leads-last {a} {b} none l = go l.path l.steps l.ends
    where
      go : (p : List ℕ) → IsPathFrom next a p → last_from a p ≡ b → a ≡ b
      go [] s e = e
      go (y ∷ p) s e = absurd (none y s.0)

  pub Leads-below : {count a b : ℕ} → IsClosed next count → a < count → Leads next a b → b < count
  Leads-below {count} {a} {b} closed lt l = Leads-forth (λ x. x < count) (λ x y edge h. closed x y h edge) l lt
