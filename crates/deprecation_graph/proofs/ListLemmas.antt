-- Lemmas: the lists from which a graph is filled satisfy what the graph requires of each change.
use Rattle.std.proofs.Common.{◌≡◌, ℕ, ◌+◌, ◌<◌, ◌≤◌, Bool, List, length, get_or, refl, sym, ap, subst, ◌∙◌, inl, inr, arith, Option, Some, None, slice_get}
use Rattle.std.specs.List.{All, Contains}
use Rattle.std.specs.Option.{option_map}
use Rattle.std.proofs.lemmas.Bool.{cases_Bool}
use Rattle.std.proofs.lemmas.List.{length-map}
use Rattle.std.proofs.lemmas.List.Elements.{All-contains, Contains-get_or}
use Rattle.std.proofs.lemmas.List.Sums.{sum_by-le}
use Rattle.std.proofs.lemmas.Option.{get_or_from_slice_get, slice_get-get_or, slice_get-map, slice_get_within}
use Rattle.deprecation_graph.specs.declared.limits.TheConstants.{MOST_EDGES, MOST_SUCCESSORS}
use Rattle.deprecation_graph.specs.Graph.{Node, next_or_none, next_of_node, node_of, successors, edge_count, IsChange}
use Rattle.deprecation_graph.specs.Filled.{nodes_of_lists, AreAllowed}
use Rattle.deprecation_graph.specs.Fit.{IsFit, AreFit}
use Rattle.deprecation_graph.specs.Between.{IsBetween}

next_of : (o : Option (List ℕ)) → (node_of o).next ≡ successors o
next_of None = refl
next_of (Some ys) = refl

module _ (lists : List (Option (List ℕ))) where
  pub count_nodes : length (nodes_of_lists lists) ≡ length lists
  count_nodes = length-map lists node_of

  pub node_at : (a : ℕ) (list : Option (List ℕ)) → slice_get lists a ≡ Some list → slice_get (nodes_of_lists lists) a ≡ Some (node_of list)
  node_at a list e = slice_get-map node_of lists a ∙ ap (option_map node_of) e

  pub next_at : (a : ℕ) (list : Option (List ℕ)) → slice_get lists a ≡ Some list → next_of_node (nodes_of_lists lists) a ≡ successors list
  next_at a list e = ap next_or_none (node_at a list e) ∙ next_of list

  module _ (fit : AreFit lists) where
    pub fit_at : (a : ℕ) (list : Option (List ℕ)) → slice_get lists a ≡ Some list → IsFit (length lists) list
    fit_at a list e = subst (IsFit (length lists)) (get_or_from_slice_get lists a list list e) (fit.each a list (slice_get_within lists a list e))

    pub is_change : (now : List Node) (a : ℕ) (list : Option (List ℕ)) → length now ≡ length (nodes_of_lists lists) → slice_get lists a ≡ Some list
        → IsChange now a list
    is_change now a list same e =
        let this = fit_at a list e in
        record {
          names = record {
            node = omega (arith, slice_get_within lists a list e, same, count_nodes);
            next = λ b c. omega (arith, All-contains (λ x. x < length lists) (successors list) b this.below c, same, count_nodes);
          };
          few = this.brief.few;
          different = this.brief.different;
        }

    next_is_short : (a : ℕ) → a < length lists → length (next_of_node (nodes_of_lists lists) a) ≤ MOST_SUCCESSORS
    next_is_short a lt =
        let e : slice_get lists a ≡ Some (get_or lists a None) = slice_get-get_or lists a None lt in
        omega (arith, (fit_at a (get_or lists a None) e).brief.few, ap length (next_at a (get_or lists a None) e))

    -- each successor is a node
    pub next_is_node : (a : ℕ) (list : Option (List ℕ)) → slice_get lists a ≡ Some list → (b : ℕ) → Contains (next_of_node (nodes_of_lists lists) a) b
        → b < length (nodes_of_lists lists)
    next_is_node a list e b c = omega (
      arith,
      count_nodes,
      All-contains (λ x. x < length lists) (successors list) b (fit_at a list e).below
          (subst (λ (ys : List ℕ). Contains ys b) (next_at a list e) c),
    )

    -- in a state of the filling each node has few successors
    now_is_short : {now : List Node} {is_done : ℕ → Bool} → IsBetween (nodes_of_lists lists) now is_done
        → All (λ n. length n.next ≤ MOST_SUCCESSORS) now
    now_is_short {now} {is_done} between k d lt =
        let here : next_of_node now k ≡ (get_or now k d).next = ap next_or_none (slice_get-get_or now k d lt) in
        elim (cases_Bool (is_done k)) [
          | inl e ↦ omega (
            arith,
            ap length here,
            ap length (ap next_or_none (between.done k e)),
            next_is_short k
                (omega (arith, between.count, count_nodes)),
          )
          | inr e ↦ omega (arith, ap length here, ap length (between.bare k e))
        ]

    pub has_room : {now : List Node} {is_done : ℕ → Bool} (a : ℕ) (list : Option (List ℕ)) → IsBetween (nodes_of_lists lists) now is_done
        → slice_get lists a ≡ Some list → edge_count now + length (successors list) ≤ MOST_EDGES
    has_room {now} {is_done} a list between e = omega (
      arith,
      sum_by-le (λ (n : Node). length n.next) MOST_SUCCESSORS now (now_is_short between),
      fit.few,
      between.count,
      count_nodes,
      (fit_at a list e).brief.few,
    )

  -- lists that are allowed are fit
  pub allowed_fit : AreAllowed lists → AreFit lists
  allowed_fit allowed = record {
    few = omega (arith, allowed.lawful.few, count_nodes);
    each = λ k d lt.
        let e : slice_get lists k ≡ Some (get_or lists k d) = slice_get-get_or lists k d lt in
        record {
          brief = allowed.brief k d lt;
          below = λ j b within. omega (
            arith,
            count_nodes,
            allowed.lawful.closed k (get_or (successors (get_or lists k d)) j b) (omega (arith, count_nodes))
                (subst (λ (ys : List ℕ). Contains ys (get_or (successors (get_or lists k d)) j b)) (sym (next_at k (get_or lists k d) e))
                (Contains-get_or (successors (get_or lists k d)) j b within)),
          );
        };
  }
