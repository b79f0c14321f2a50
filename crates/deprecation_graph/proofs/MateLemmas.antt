-- Lemmas: removing a number from a list by its cell.
use Rattle.std.proofs.Common.{◌≡◌, ◌<◌, ℕ, zero, suc, ◌+◌, eqb, Bool, true, false, cond, List, [], ◌∷◌, length, map, sym, ap, ◌∙◌, arith, Option, Some, slice_get, slice_set}
use Rattle.std.specs.Option.{option_map}
use Rattle.std.proofs.lemmas.Option.{same_Some}
use Rattle.list_pool.specs.Pool.{Row, list_at, TakesOut, IsCellOf, ValueIs, without_at}
use Rattle.list_pool.specs.declared.ListName.{ListName}
use Rattle.deprecation_graph.specs.Indexed.{list_of_node}
use Rattle.deprecation_graph.specs.Heads.{heads_values, lists_at, AreHeads}
use Rattle.deprecation_graph.specs.Mirror.{node_times, Loses}
use Rattle.deprecation_graph.proofs.HeadLemmas.{lists_at-updated, heads-updated, list_of-map}
use Rattle.deprecation_graph.proofs.MirrorLemmas.{loses_set}

exchanged : (t : ℕ) (p q : Bool) → cond p (t + 1) t + cond q 1 0 ≡ cond q (t + 1) t + cond p 1 0
exchanged t true true = omega arith
exchanged t true false = omega arith
exchanged t false true = omega arith
exchanged t false false = omega arith

times-set : (v w value cell k : ℕ) (rows : List Row) → option_map (λ (x : Row). x.1) (slice_get rows k) ≡ Some value → node_times v (map (λ (x : Row). x.1) (slice_set rows k (cell, w))) + cond (eqb value v) 1 0 ≡ node_times v (map (λ (x : Row). x.1) rows) + cond (eqb w v) 1 0
times-set v w value cell k [] e = absurd cc
times-set v w value cell zero (x ∷ xs) e =
    let t = node_times v (map (λ (y : Row). y.1) xs) in
    exchanged t (eqb w v) (eqb value v) ∙ ap (λ (z : ℕ). cond (eqb z v) (t + 1) t + cond (eqb w v) 1 0) (sym (same_Some x.1 value e))
times-set v w value cell (suc k) (x ∷ xs) e = go (eqb x.1 v) (times-set v w value cell k xs e)
  where
    go : (b : Bool) → node_times v (map (λ (y : Row). y.1) (slice_set xs k (cell, w))) + cond (eqb value v) 1 0 ≡ node_times v (map (λ (y : Row). y.1) xs) + cond (eqb w v) 1 0 → cond b (node_times v (map (λ (y : Row). y.1) (slice_set xs k (cell, w))) + 1) (node_times v (map (λ (y : Row). y.1) (slice_set xs k (cell, w)))) + cond (eqb value v) 1 0 ≡ cond b (node_times v (map (λ (y : Row). y.1) xs) + 1) (node_times v (map (λ (y : Row). y.1) xs)) + cond (eqb w v) 1 0
    go true r = omega (arith, r)
    go false r = r

one_more : (t : ℕ) (b : Bool) → t + cond b 1 0 ≡ cond b (t + 1) t
one_more t true = omega arith
one_more t false = omega arith

times-without_at : (v value cell k : ℕ) (rows : List Row) → option_map (λ (x : Row). x.1) (slice_get rows k) ≡ Some value → node_times v (map (λ (x : Row). x.1) (without_at cell k rows)) + cond (eqb value v) 1 0 ≡ node_times v (map (λ (x : Row). x.1) rows)
times-without_at v value cell k [] e = absurd cc
times-without_at v value cell zero (x ∷ xs) e =
    let t = node_times v (map (λ (y : Row). y.1) xs) in
    one_more t (eqb value v) ∙ ap (λ (z : ℕ). cond (eqb z v) (t + 1) t) (sym (same_Some x.1 value e))
times-without_at v value cell (suc k) (x ∷ xs) e = times-set v x.1 value cell k xs e ∙ one_more (node_times v (map (λ (y : Row). y.1) xs)) (eqb x.1 v)

module _ (old new : List (Option (List Row))) (heads : List ListName) (i value cell : ℕ) (h : ListName) (ok : AreHeads old heads) (is : slice_get heads i ≡ Some h) (on : IsCellOf old h.0 cell) (out : TakesOut old new h.0 cell) where
  pub heads-taken : AreHeads new heads
  heads-taken = heads-updated old new heads i h (without_at cell on.0 (list_at old h.0)) ok is (out on.0 on.1)

  pub loses_cell : (lists lists' : List (List ℕ)) → lists_at old heads ≡ lists → lists' ≡ lists_at new heads → i < length lists → (found : ℕ) → ValueIs old cell found → found ≡ value → Loses lists lists' i value
  loses_cell lists lists' was now lt found has same =
      let rows = list_at old h.0 in
      let at : list_of_node lists i ≡ map (λ (x : Row). x.1) rows = ap (λ (ls : List (List ℕ)). list_of_node ls i) (sym was) ∙ list_of-map (λ (k : ListName). heads_values old k.0) heads i h is in
      loses_set lists lists' i value (map (λ (x : Row). x.1) (without_at cell on.0 rows))
      (now ∙ lists_at-updated old new heads i h (without_at cell on.0 rows) ok is (out on.0 on.1) ∙ ap (λ (ls : List (List ℕ)). slice_set ls i (map (λ (x : Row). x.1) (without_at cell on.0 rows))) was)
      lt
      (λ v. times-without_at v value cell on.0 rows (has h.0 on.0 on.1 ∙ ap Some same) ∙ ap (node_times v) (sym at))
