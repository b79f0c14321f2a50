-- Lemmas: one step of a walk over the lists of products.
use Rattle.std.proofs.Common.{◌≡◌, ℕ, zero, suc, ◌+◌, ◌-◌, ◌<◌, ◌≤◌, List, [], ◌∷◌, ◌++◌, map, length, drop, Option, Some, None, slice_get, refl, sym, ap, ◌∙◌, arith}
use Rattle.std.specs.List.{flat_map}
use Rattle.std.specs.Option.{option_map}
use Rattle.std.proofs.lemmas.List.{drop_all, drop_more}
use Rattle.std.proofs.lemmas.Option.{same_Some, get_or_from_slice_get}
use Rattle.list_pool.specs.Pool.{Row as CellRow, list_at, cell_at, ValueIs}
use Rattle.list_pool.specs.declared.ListName.{ListName}
use Rattle.name_index.specs.Index.{cell_values, posting_of, posting, last_values, walk_left, name_id, IsWalkAt}

module _ (lists : List (Option (List CellRow))) where
  pub none_left : (name : ℕ) → last_values lists name 0 ≡ []
  none_left name = ap cell_values (drop_all (length (list_at lists name) - 0) (list_at lists name) (omega arith))

  all_left : (name : ℕ) → last_values lists name (length (list_at lists name)) ≡ cell_values (list_at lists name)
  all_left name = let z : length (list_at lists name) - length (list_at lists name) ≡ 0 = omega arith in ap (λ (k : ℕ). cell_values (drop k (list_at lists name))) z

  module _ (heads : List ListName) where
    pub walk_begins : (name left p : ℕ) (h : ListName) (ps rest : List ℕ) → left ≡ 0 → ps ≡ p ∷ rest → slice_get heads p ≡ Some h → walk_left lists heads name left ps ≡ walk_left lists heads h.0 (length (list_at lists h.0)) rest
    walk_begins name left p h ps rest z e at =
        ap (λ (k : ℕ). walk_left lists heads name k ps) z ∙ ap (λ (xs : List ℕ). map name_id (xs ++ flat_map (posting lists heads) ps)) (none_left name) ∙ ap (λ (qs : List ℕ). map name_id (flat_map (posting lists heads) qs)) e
        ∙ ap (λ (o : Option ListName). map name_id (posting_of lists o ++ flat_map (posting lists heads) rest)) at ∙ ap (λ (xs : List ℕ). map name_id (xs ++ flat_map (posting lists heads) rest)) (sym (all_left h.0))

    cell_none : (name k : ℕ) → None ≡ cell_at lists name k → length (list_at lists name) ≤ k
    cell_none name k e = go (list_at lists name) k e
      where
        go : (xs : List CellRow) (k : ℕ) → None ≡ option_map (λ (x : CellRow). x.0) (slice_get xs k) → length xs ≤ k
        go [] k f = omega arith
        go (x ∷ xs) zero f = absurd cc
        go (x ∷ xs) (suc k) f = omega (arith, go xs k f)

    pub walk_at_begin : (p : ℕ) (h : ListName) (name left cell c : ℕ) → slice_get heads p ≡ Some h → IsWalkAt lists heads name left cell → (0 < length (list_at lists h.0) → cell_at lists h.0 0 ≡ Some c) → IsWalkAt lists heads h.0 (length (list_at lists h.0)) c
    walk_at_begin p h name left cell c at s first = record {
      live = s.live;
      within = omega arith;
      at = λ lt. let z : length (list_at lists h.0) - length (list_at lists h.0) ≡ 0 = omega arith in ap (cell_at lists h.0) z ∙ first lt;
    }

    pub walk_next : (name left cell c : ℕ) → 0 < left → IsWalkAt lists heads name left cell → (0 < left - 1 → cell_at lists name (length (list_at lists name) - left + 1) ≡ Some c) → IsWalkAt lists heads name (left - 1) c
    walk_next name left cell c lt s next = record {
      live = s.live;
      within = omega (arith, s.within);
      at = λ more. let k : length (list_at lists name) - (left - 1) ≡ length (list_at lists name) - left + 1 = omega (arith, s.within) in ap (cell_at lists name) k ∙ next more;
    }

    no_next : (name left : ℕ) (P : Type 0) → 0 < left → left ≤ length (list_at lists name) → None ≡ cell_at lists name (length (list_at lists name) - left + 1) → 0 < left - 1 → P
    no_next name left P lt le e more = absurd (omega (arith, cell_none name (length (list_at lists name) - left + 1) e))

    pub walk_last : (name left cell : ℕ) → 0 < left → IsWalkAt lists heads name left cell → None ≡ cell_at lists name (length (list_at lists name) - left + 1) → IsWalkAt lists heads name (left - 1) cell
    walk_last name left cell lt s e = walk_next name left cell cell lt s (no_next name left _ lt s.within e)

    value_removed : (name left cell v : ℕ) → 0 < left → IsWalkAt lists heads name left cell → ValueIs lists cell v → last_values lists name left ≡ v ∷ last_values lists name (left - 1)
    value_removed name left cell v lt s is =
        let k = length (list_at lists name) - left in
        let kl : k < length (list_at lists name) = omega (arith, s.within) in
        let e = is name k (s.at lt) in
        by_row (slice_get (list_at lists name) k) refl e kl
      where
        by_row : (o : Option CellRow) → slice_get (list_at lists name) (length (list_at lists name) - left) ≡ o → option_map (λ (x : CellRow). x.1) (slice_get (list_at lists name) (length (list_at lists name) - left)) ≡ Some v → length (list_at lists name) - left < length (list_at lists name)
            → last_values lists name left ≡ v ∷ last_values lists name (left - 1)
        by_row None o f kl = let z : None ≡ Some v = sym (ap (option_map (λ (x : CellRow). x.1)) o) ∙ f in absurd cc
        by_row (Some x) o f kl =
            let xs = list_at lists name in
            let k = length xs - left in
            let vx : x.1 ≡ v = same_Some _ _ (sym (ap (option_map (λ (y : CellRow). y.1)) o) ∙ f) in
            let next : k + 1 ≡ length xs - (left - 1) = omega (arith, s.within) in
            ap cell_values (drop_more xs k x kl) ∙ ap (λ (y : CellRow). cell_values (y ∷ drop (k + 1) xs)) (get_or_from_slice_get xs k x x o) ∙ ap (λ (w : ℕ). w ∷ cell_values (drop (k + 1) xs)) vx ∙ ap (λ (j : ℕ). v ∷ cell_values (drop j xs)) next

    pub walk_steps : (name left cell v : ℕ) (ps : List ℕ) → 0 < left → IsWalkAt lists heads name left cell → ValueIs lists cell v → walk_left lists heads name left ps ≡ name_id v ∷ walk_left lists heads name (left - 1) ps
    walk_steps name left cell v ps lt s is = ap (λ (xs : List ℕ). map name_id (xs ++ flat_map (posting lists heads) ps)) (value_removed name left cell v lt s is)

    pub no_first : (name c : ℕ) → None ≡ cell_at lists name 0 → 0 < length (list_at lists name) → cell_at lists name 0 ≡ Some c
    no_first name c e lt = absurd (omega (arith, cell_none name 0 e))

pub some_left : (n : ℕ) → (n ≡ 0 → ⊥) → 0 < n
some_left zero h = absurd (h refl)
some_left (suc n) h = omega arith
