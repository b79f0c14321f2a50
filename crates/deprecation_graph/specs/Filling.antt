-- The state of a graph that is being filled. Used only inside the crate.
use Rattle.std.specs.Prelude.{◌≡◌, ℕ, ◌+◌, ◌-◌, ◌<◌, ◌≤◌, Bool, true, false, List, [], ◌∷◌, Option, Some, length, slice_get, slice_index, slice_index_or}
use Rattle.std.specs.List.{All, Contains, sum_by}
use Rattle.deprecation_graph.specs.Paths.{Leads}
use Rattle.deprecation_graph.specs.Graph.{Node, next_of_node}
use Rattle.deprecation_graph.specs.declared.filling.Mark.{Mark}
use Rattle.deprecation_graph.specs.declared.filling.Mark.TheVariants.{New, Waiting, Done}
use Rattle.deprecation_graph.specs.declared.filling.Filling.{Filling}
use Rattle.deprecation_graph.specs.Filled.{nodes_of_lists}
use Rattle.deprecation_graph.specs.Between.{IsBetween}

abbrev pub is_new : Mark → Bool
is_new New = true
is_new Waiting = false
is_new Done = false

abbrev pub is_waiting : Mark → Bool
is_waiting New = false
is_waiting Waiting = true
is_waiting Done = false

abbrev pub is_done : Mark → Bool
is_done New = false
is_done Waiting = false
is_done Done = true

-- the mark of a node; a number past the last mark is new
abbrev pub mark_of : List Mark → ℕ → Mark
mark_of marks a = slice_index_or marks a New

abbrev pub done_in : List Mark → ℕ → Bool
done_in marks a = is_done (mark_of marks a)

-- no node becomes new
abbrev pub NoneIsNewer : List Mark → List Mark → Type 0
NoneIsNewer old marks = (a : ℕ) → is_new (mark_of marks a) ≡ true → is_new (mark_of old a) ≡ true

-- the node is the last waiting node
abbrev pub IsLastWaiting : List ℕ → ℕ → Type 0
IsLastWaiting waiting a = slice_get waiting (length waiting - 1) ≡ Some a

-- The state of a filling. Nodes that are done have their successors. Each waiting node leads to the next ones. `seen`
-- has, for each node, the number of its successors that are known to be done.
pub record IsOnWay (nodes now : List Node) (marks : List Mark) (seen waiting : List ℕ) : Type 0 where
  pub between : IsBetween nodes now (done_in marks)
  pub marked : length marks ≡ length nodes
  pub counted : length seen ≡ length nodes
  pub below : All (λ a. a < length nodes) waiting
  pub waits : (a : ℕ) → is_waiting (mark_of marks a) ≡ true → Contains waiting a
  pub leads : (i j d : ℕ) → i ≤ j → j < length waiting → Leads (next_of_node nodes) (slice_index_or waiting i d) (slice_index_or waiting j d)
  pub known : (a k d : ℕ) → k < slice_index seen a → k < length (next_of_node nodes a) → done_in marks (slice_index_or (next_of_node nodes a) k d) ≡ true

abbrev pub IsFilling : List (Option (List ℕ)) → Filling → Type 0
IsFilling lists filling = IsOnWay (nodes_of_lists lists) filling.graph.nodes filling.marks.items filling.seen.items filling.waiting.items

-- ---- an upper bound of the steps that remain

-- the two steps of a new node: it begins to wait, and it is done
abbrev pub mark_work : Mark → ℕ
mark_work New = 2
mark_work Waiting = 0
mark_work Done = 0

-- the number of successors that aren't known to be done, summed over all nodes
abbrev pub unseen : List Node → List ℕ → ℕ
unseen [] seen = 0
unseen (node ∷ nodes) [] = 0
unseen (node ∷ nodes) (k ∷ seen) = (length node.next - k) + unseen nodes seen

abbrev pub work_of : List Node → List Mark → List ℕ → List ℕ → ℕ
work_of nodes marks seen waiting = sum_by mark_work marks + unseen nodes seen + length waiting

abbrev pub work : List (Option (List ℕ)) → Filling → ℕ
work lists filling = work_of (nodes_of_lists lists) filling.marks.items filling.seen.items filling.waiting.items

-- a step of the filling: the remaining work gets less, and no node becomes new
pub record IsStep (lists : List (Option (List ℕ))) (old new : Filling) : Type 0 where
  pub filling : IsFilling lists new
  pub less : work lists new < work lists old
  pub newer : NoneIsNewer old.marks.items new.marks.items
