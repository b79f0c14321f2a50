-- Groups of nodes that no edge leaves. A group's name is its lowest node. Used only inside the crate.
use Rattle.std.specs.Prelude.{◌≡◌, ◌⊎◌, ℕ, zero, suc, ◌+◌, ◌<◌, ◌≤◌, ◌==◌, Bool, false, cond, List, length, slice_get, slice_index_or, Option, Some}
use Rattle.std.specs.List.{All, Contains, sum_by}
use Rattle.deprecation_graph.specs.declared.limits.TheConstants.{MOST_ENDS, MOST_NODES}
use Rattle.deprecation_graph.specs.declared.groups.GroupMember.{GroupMember}
use Rattle.deprecation_graph.specs.declared.groups.GroupMember.TheVariants.{Head, Under}
use Rattle.deprecation_graph.specs.Indexed.{list_of_node}

-- the sum of f over the numbers below n
abbrev pub group_total : (ℕ → ℕ) → ℕ → ℕ
group_total f zero = 0
group_total f (suc n) = group_total f n + f n

-- 1 for an active node of the group, 0 for any other number
abbrev pub counts : (ℕ → ℕ) → List Bool → ℕ → ℕ → ℕ
counts group marks name x = cond (slice_index_or marks x false) (cond (group x == name) 1 0) 0

-- the number of active nodes of a group
abbrev pub active_of : (ℕ → ℕ) → List Bool → ℕ → ℕ
active_of group marks name = group_total (counts group marks name) (length marks)

-- each node is in the group of a lower node, or names its group and has the number of the group's active nodes
pub record AreMembers (members : List GroupMember) (marks : List Bool) (group : ℕ → ℕ) : Type 0 where
  pub same : length members ≡ length marks
  pub past : (x : ℕ) → length members ≤ x → group x ≡ x
  pub falls : (x : ℕ) → group x ≤ x
  pub under : (x lower : ℕ) → slice_get members x ≡ Some (Under lower) → (lower < x) × (group lower ≡ group x)
  pub head : (x count : ℕ) → slice_get members x ≡ Some (Head count) → (group x ≡ x) × (count ≡ active_of group marks x)

-- both nodes of each edge are in one group
pub record AreGroups (groups : List GroupMember) (marks : List Bool) (lists : List (List ℕ)) : Type 0 where
  pub group : ℕ → ℕ
  pub members : AreMembers groups marks group
  pub joined : (a b : ℕ) → Contains (list_of_node lists a) b → group a ≡ group b

-- the members form groups, for some marks of active nodes
pub record AreNodesGrouped (groups : List GroupMember) : Type 0 where
  pub marks : List Bool
  pub group : ℕ → ℕ
  pub members : AreMembers groups marks group
  pub few : length groups ≤ MOST_NODES

-- the node names its group
abbrev pub IsHead : List GroupMember → ℕ → Type 0
IsHead members name = (count : ℕ) × (slice_get members name ≡ Some (Head count))

-- the two nodes are in one group
abbrev pub AreOfOne : List GroupMember → ℕ → ℕ → Type 0
AreOfOne members x y = (marks : List Bool) (group : ℕ → ℕ) → AreMembers members marks group → group x ≡ group y

-- a lower node of the same group; the node itself if it names its group
pub record IsNext (members : List GroupMember) (x next : ℕ) : Type 0 where
  pub falls : next ≤ x
  pub one : AreOfOne members next x

-- the number of active nodes of the group that has this name
abbrev pub count_in : Option GroupMember → ℕ
count_in (Some (Head count)) = count
count_in _ = 0

abbrev pub member_count : List GroupMember → ℕ → ℕ
member_count members name = count_in (slice_get members name)

-- the group of node x has this name
abbrev pub IsGroupOf : List GroupMember → ℕ → ℕ → Type 0
IsGroupOf members x name = (marks : List Bool) (group : ℕ → ℕ) → AreMembers members marks group → name ≡ group x

-- `names` has the names of the groups of node x and of the other nodes
abbrev pub AreGroupsOf : List GroupMember → ℕ → List ℕ → List ℕ → Type 0
AreGroupsOf members x others names =
    (marks : List Bool) (group : ℕ → ℕ) → AreMembers members marks group → (y : ℕ) → (y ≡ x) ⊎ Contains others y → Contains names (group y)

-- the groups of node x and of the other nodes have fewer than `MOST_ENDS` active nodes together
pub record AreSmall (members : List GroupMember) (x : ℕ) (others : List ℕ) : Type 0 where
  pub names : List ℕ
  pub heads : All (IsHead members) names
  pub all : AreGroupsOf members x others names
  pub few : sum_by (member_count members) names < MOST_ENDS

-- the members form groups, and count the active nodes by these marks
abbrev pub HasMembers : List GroupMember → List Bool → Type 0
HasMembers members marks = (group : ℕ → ℕ) × AreMembers members marks group

-- the groups are the same, and count the active nodes by the new marks
abbrev pub Recounts : List GroupMember → List GroupMember → List Bool → List Bool → Type 0
Recounts old new was is = (group : ℕ → ℕ) → AreMembers old was group → AreMembers new is group

-- the members form the same groups before and after
abbrev pub KeepsGroups : List GroupMember → List GroupMember → Type 0
KeepsGroups old new = (marks : List Bool) (group : ℕ → ℕ) → AreMembers old marks group → AreMembers new marks group

-- all nodes of the group `gone` are now in the group `stays`
abbrev pub PutsUnder : List GroupMember → List GroupMember → ℕ → ℕ → Type 0
PutsUnder old new gone stays =
    (marks : List Bool) (group : ℕ → ℕ) → AreMembers old marks group → AreMembers new marks (λ x. cond (group x == gone) stays (group x))

-- wider groups: nodes that were in one group still are, and `node` and all others are in one group
pub record AreJoined (groups : List GroupMember) (marks : List Bool) (group : ℕ → ℕ) (node : ℕ) (others : List ℕ) : Type 0 where
  pub wider : ℕ → ℕ
  pub members : AreMembers groups marks wider
  pub still : (x y : ℕ) → group x ≡ group y → wider x ≡ wider y
  pub joined : (x : ℕ) → Contains others x → wider node ≡ wider x

abbrev pub Joins : List GroupMember → List GroupMember → ℕ → List ℕ → Type 0
Joins old new node others = (marks : List Bool) (group : ℕ → ℕ) → AreMembers old marks group → AreJoined new marks group node others
