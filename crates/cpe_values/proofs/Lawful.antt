-- Lemmas: the parts of a text have no fault.
use Rattle.std.proofs.Common.{◌≡◌, ℕ, Bool, true, false, not, eqb, ltb, List, [], ◌∷◌, length, position, Some, None, refl, ap, arith}
use Rattle.std.specs.List.{list_all, position_or_len}
use Rattle.std.proofs.lemmas.Bool.{and_parts, le-ltb, eqb-true}
use Rattle.cpe_values.specs.declared.value.Edge.{Edge}
use Rattle.cpe_values.specs.declared.value.Edge.TheVariants as edge
use Rattle.cpe_values.specs.Parts.{Parts, parts, is_character, IsText}
use Rattle.cpe_values.specs.Faults.{is_lone_hyphen}

lone_parts : (lead : Edge) (body : List ℕ) (trail : Edge) → is_lone_hyphen (parts lead body trail) ≡ true → parts lead body trail ≡ parts edge.None (45 ∷ []) edge.None
lone_parts edge.Star body trail h = absurd cc
lone_parts (edge.Marks n) body trail h = absurd cc
lone_parts edge.None [] trail h = absurd cc
lone_parts edge.None (c ∷ d ∷ body) trail h = absurd cc
lone_parts edge.None (c ∷ []) edge.None h = let is : c ≡ 45 = eqb-true c 45 (and_parts (eqb c 45) true h).0 in ap (λ (d : ℕ). parts edge.None (d ∷ []) edge.None) is
lone_parts edge.None (c ∷ []) edge.Star h = let never = (and_parts (eqb c 45) false h).1 in absurd cc
lone_parts edge.None (c ∷ []) (edge.Marks n) h = let never = (and_parts (eqb c 45) false h).1 in absurd cc

pub lone_is : (t : Parts) → is_lone_hyphen t ≡ true → t ≡ parts edge.None (45 ∷ []) edge.None
lone_is t h = lone_parts t.lead t.body t.trail h

all_len : (q : ℕ → Bool) (xs : List ℕ) → list_all q xs ≡ true → position_or_len (λ c. not (q c)) xs ≡ length xs
all_len q [] h = refl
all_len q (x ∷ xs) h = let p = and_parts (q x) (list_all q xs) h in rw p.0 (omega (arith, all_len q xs p.1))

all_none : (q : ℕ → Bool) (xs : List ℕ) → list_all q xs ≡ true → position (λ c. not (q c)) xs ≡ None
all_none q xs h =
    let test : ltb (position_or_len (λ c. not (q c)) xs) (length xs) ≡ false = le-ltb _ _ (omega (arith, all_len q xs h)) in
    rw test refl

pub never_unprintable : (t : Parts) (k : ℕ) → Some k ≡ position (λ c. not (is_character c)) t.body → IsText t → ⊥
never_unprintable t k e is = let none = all_none is_character t.body is.characters in cc
