-- Lemmas: what stays of groups if their members change.
use Rattle.std.proofs.Common.{◌≡◌, ◌≢◌, ◌⊎◌, ℕ, zero, suc, ◌+◌, ◌<◌, ◌≤◌, eqb, Bool, true, false, cond, List, [], ◌∷◌, ◌++◌, length, get_or, refl, sym, ap, ◌∙◌, inl, inr, arith, slice_get, slice_set, Some, eq-eqb}
use Rattle.std.specs.List.{Contains}
use Rattle.std.proofs.lemmas.Bool.{cases_eq, ne_eqb}
use Rattle.std.proofs.lemmas.List.{length-set, length_push, get_or-set_same, get_or-set_other}
use Rattle.std.proofs.lemmas.List.Elements.{Contains-append_cases}
use Rattle.std.proofs.lemmas.Option.{same_Some, slice_get_within, slice_get-get_or}
use Rattle.list_pool.proofs.SlotReads.{slice_get-set_same, slice_get-set_other, slice_get_push, slice_get-push_other}
use Rattle.deprecation_graph.specs.declared.limits.TheConstants.{MOST_NODES}
use Rattle.deprecation_graph.proofs.Rising.{Contains-cases}
use Rattle.deprecation_graph.specs.Groups.{group_total, counts, active_of, AreMembers, AreNodesGrouped, IsHead, AreOfOne, IsGroupOf, KeepsGroups, PutsUnder, AreJoined, Joins}
use Rattle.deprecation_graph.specs.declared.groups.GroupMember.{GroupMember}
use Rattle.deprecation_graph.specs.declared.groups.GroupMember.TheVariants.{Head, Under}
use Rattle.deprecation_graph.proofs.CountLemmas.{total-alike, total-add, total-none}

-- ---- sums of a function over the numbers below n

pub total-le : (f g : ℕ → ℕ) (n : ℕ) → ((i : ℕ) → i < n → f i ≤ g i) → group_total f n ≤ group_total g n
total-le f g zero h = omega arith
total-le f g (suc n) h = omega (arith, total-le f g n (λ i lt. h i (omega arith)), h n (omega arith))

-- sums of two functions that differ only at a
total-one : (f g : ℕ → ℕ) (a n : ℕ) → a < n → ((i : ℕ) → i ≢ a → f i ≡ g i) → group_total f n + g a ≡ group_total g n + f a
total-one f g a zero lt h = absurd (omega arith)
total-one f g a (suc n) lt h = elim (cases_eq a n) [
  | inl same ↦
      let rest = total-alike f g n (λ i below. h i (λ e. omega arith)) in
      let here : f n ≡ f a = ap f (sym same) in
      let there : g n ≡ g a = ap g (sym same) in
      omega (arith, rest, here, there)
  | inr other ↦ omega (arith, total-one f g a n (omega arith) h, h n (λ e. other (sym e)))
]

total-ones : (f : ℕ → ℕ) (n : ℕ) → ((i : ℕ) → f i ≤ 1) → group_total f n ≤ n
total-ones f zero h = omega arith
total-ones f (suc n) h = omega (arith, total-ones f n h, h n)

total-one_of : (f : ℕ → ℕ) (a n : ℕ) → a < n → f a ≤ group_total f n
total-one_of f a zero lt = absurd (omega arith)
total-one_of f a (suc n) lt = elim (cases_eq a n) [
  | inl same ↦ let here : f n ≡ f a = ap f (sym same) in omega (arith, here)
  | inr other ↦ omega (arith, total-one_of f a n (omega arith))
]

-- ---- the number of active nodes

one_or_none : (m b : Bool) → cond m (cond b 1 0) 0 ≤ 1
one_or_none true true = omega arith
one_or_none true false = omega arith
one_or_none false b = omega arith

pub active_of-le : (group : ℕ → ℕ) (marks : List Bool) (name : ℕ) → active_of group marks name ≤ length marks
active_of-le group marks name = total-ones (counts group marks name) (length marks) (λ x. one_or_none (get_or marks x false) (eqb (group x) name))

abbrev one_when : Bool → Bool → ℕ
one_when m b = cond m (cond b 1 0) 0

when_same : (m : Bool) (x y : ℕ) → x ≡ y → one_when m (eqb x y) ≡ one_when m true
when_same m x y e = ap (one_when m) (eq-eqb x y e)

when_other : (m : Bool) (x y : ℕ) → x ≢ y → one_when m (eqb x y) ≡ 0
when_other m x y ne = ap (one_when m) (ne_eqb x y ne) ∙ none m
  where
    none : (b : Bool) → one_when b false ≡ 0
    none true = refl
    none false = refl

pub counts-own : (group : ℕ → ℕ) (marks : List Bool) (name x : ℕ) → group x ≡ name → counts group marks name x ≡ one_when (get_or marks x false) true
counts-own group marks name x e = when_same (get_or marks x false) (group x) name e

counts-other : (group : ℕ → ℕ) (marks : List Bool) (name x : ℕ) → group x ≢ name → counts group marks name x ≡ 0
counts-other group marks name x ne = when_other (get_or marks x false) (group x) name ne

-- ---- one member is changed

set_cases : (ms : List GroupMember) (i x : ℕ) (m n : GroupMember) → i < length ms → slice_get (slice_set ms i m) x ≡ Some n → ((x ≡ i) × (m ≡ n)) ⊎ ((x ≢ i) × (slice_get ms x ≡ Some n))
set_cases ms i x m n lt e = elim (cases_eq x i) [
  | inl same ↦ inl (same, same_Some m n (sym (slice_get-set_same ms i m lt) ∙ ap (slice_get (slice_set ms i m)) (sym same) ∙ e))
  | inr ne ↦ inr (ne, sym (slice_get-set_other ms i x m ne) ∙ e)
]

abbrev named_by : GroupMember → ℕ
named_by (Head n) = n
named_by (Under n) = n

pub member_at : (ms : List GroupMember) (x : ℕ) (d m : GroupMember) → x < length ms → get_or ms x d ≡ m → slice_get ms x ≡ Some m
member_at ms x d m lt e = slice_get-get_or ms x d lt ∙ ap Some e

pub member_of : (ms : List GroupMember) (x : ℕ) (m n : GroupMember) → x < length ms → m ≡ get_or ms x m → m ≡ n → slice_get ms x ≡ Some n
member_of ms x m n lt e f = slice_get-get_or ms x m lt ∙ ap Some (sym e ∙ f)

pub head_or_under : (ms : List GroupMember) (x : ℕ) (d : GroupMember) → x < length ms → ((above : ℕ) → get_or ms x d ≡ Under above → ⊥) → IsHead ms x
head_or_under [] x d lt never = absurd (omega arith)
head_or_under (Head n ∷ ms) zero d lt never = (n, refl)
head_or_under (Under n ∷ ms) zero d lt never = absurd (never n refl)
head_or_under (m ∷ ms) (suc x) d lt never = head_or_under ms x d (omega arith) never

-- a shorter way to the group's name keeps the groups
pub shortened : (ms : List GroupMember) (at next further : ℕ) → slice_get ms at ≡ Some (Under next) → further < at → AreOfOne ms further at → KeepsGroups ms (slice_set ms at (Under further))
shortened ms at next further is falls one marks group ok =
    let same = length-set ms at (Under further) in
    let within : at < length ms = slice_get_within ms at (Under next) is in
    record {
      same = same ∙ ok.same;
      past = λ x le. ok.past x (omega (arith, le, same));
      falls = ok.falls;
      under = λ x lower e. elim (set_cases ms at x (Under further) (Under lower) within e) [
        | inl h ↦ let down : further ≡ lower = ap named_by h.1 in (omega (arith, down, h.0, falls), ap group (sym down) ∙ one marks group ok ∙ ap group (sym h.0))
        | inr h ↦ ok.under x lower h.1
      ];
      head = λ x count e. elim (set_cases ms at x (Under further) (Head count) within e) [
        | inl h ↦ let apart : Under further ≡ Head count = h.1 in absurd cc
        | inr h ↦ ok.head x count h.1
      ];
    }

-- ---- two groups are joined

module _ (group : ℕ → ℕ) (gone stays : ℕ) (lt : stays < gone) where
  abbrev pub wider : ℕ → ℕ
  wider x = cond (eqb (group x) gone) stays (group x)

  wider-gone : (x : ℕ) → group x ≡ gone → wider x ≡ stays
  wider-gone x e = ap (λ (b : Bool). cond b stays (group x)) (eq-eqb (group x) gone e)

  wider-other : (x : ℕ) → group x ≢ gone → wider x ≡ group x
  wider-other x ne = ap (λ (b : Bool). cond b stays (group x)) (ne_eqb (group x) gone ne)

  active_of-stays : (marks : List Bool) → active_of wider marks stays ≡ active_of group marks gone + active_of group marks stays
  active_of-stays marks =
      total-alike (counts wider marks stays) (λ x. counts group marks gone x + counts group marks stays x) (length marks) (λ x _. at x (cases_eq (group x) gone))
      ∙ total-add (counts group marks gone) (counts group marks stays) (length marks)
    where
      at : (x : ℕ) → (group x ≡ gone) ⊎ (group x ≢ gone) → counts wider marks stays x ≡ counts group marks gone x + counts group marks stays x
      at x (inl e) =
          omega (arith, counts-own wider marks stays x (wider-gone x e), counts-own group marks gone x e, counts-other group marks stays x (λ f. omega (arith, e, f)))
      at x (inr ne) =
          let same : counts wider marks stays x ≡ counts group marks stays x = ap (λ (n : ℕ). cond (get_or marks x false) (cond (eqb n stays) 1 0) 0) (wider-other x ne) in
          omega (arith, same, counts-other group marks gone x ne)

  active_of-apart : (marks : List Bool) (name : ℕ) → name ≢ gone → name ≢ stays → active_of wider marks name ≡ active_of group marks name
  active_of-apart marks name ng ns = total-alike (counts wider marks name) (counts group marks name) (length marks) (λ x _. at x (cases_eq (group x) gone))
    where
      at : (x : ℕ) → (group x ≡ gone) ⊎ (group x ≢ gone) → counts wider marks name x ≡ counts group marks name x
      at x (inl e) = counts-other wider marks name x (λ f. ns (sym f ∙ wider-gone x e)) ∙ sym (counts-other group marks name x (λ f. ng (sym f ∙ e)))
      at x (inr other) = ap (λ (n : ℕ). cond (get_or marks x false) (cond (eqb n name) 1 0) 0) (wider-other x other)

pub put_under : (ms : List GroupMember) (gone stays k l : ℕ) → slice_get ms gone ≡ Some (Head k) → slice_get ms stays ≡ Some (Head l) → stays < gone → PutsUnder ms (slice_set (slice_set ms stays (Head (k + l))) gone (Under stays)) gone stays
put_under ms gone stays k l at_gone at_stays lt marks group ok =
    let within : gone < length ms = slice_get_within ms gone (Head k) at_gone in
    let mid = slice_set ms stays (Head (k + l)) in
    let same : length (slice_set mid gone (Under stays)) ≡ length ms = length-set mid gone (Under stays) ∙ length-set ms stays (Head (k + l)) in
    let in_mid : gone < length mid = omega (arith, within, length-set ms stays (Head (k + l))) in
    let in_ms : stays < length ms = omega (arith, within, lt) in
    let own_gone : group gone ≡ gone = (ok.head gone k at_gone).0 in
    let own_stays : group stays ≡ stays = (ok.head stays l at_stays).0 in
    let of_gone : wider group gone stays lt gone ≡ stays = wider-gone group gone stays lt gone own_gone in
    let of_stays : wider group gone stays lt stays ≡ stays = wider-other group gone stays lt stays (λ e. omega (arith, e, own_stays)) ∙ own_stays in
    record {
      same = same ∙ ok.same;
      past = λ x le. let own = ok.past x (omega (arith, le, same)) in wider-other group gone stays lt x (λ e. omega (arith, e, own, le, same)) ∙ own;
      falls = λ x. elim (cases_eq (group x) gone) [
        | inl e ↦ omega (arith, wider-gone group gone stays lt x e, ok.falls x, e)
        | inr ne ↦ omega (arith, wider-other group gone stays lt x ne, ok.falls x)
      ];
      under = λ x lower e. elim (set_cases mid gone x (Under stays) (Under lower) in_mid e) [
        | inl h ↦
            let down : stays ≡ lower = ap named_by h.1 in
            (omega (arith, down, h.0), ap (wider group gone stays lt) (sym down) ∙ of_stays ∙ sym of_gone ∙ ap (wider group gone stays lt) (sym h.0))
        | inr h ↦ elim (set_cases ms stays x (Head (k + l)) (Under lower) in_ms h.1) [
          | inl g ↦ let apart : Head (k + l) ≡ Under lower = g.1 in absurd cc
          | inr g ↦ let old = ok.under x lower g.1 in (old.0, ap (λ (n : ℕ). cond (eqb n gone) stays n) old.1)
        ]
      ];
      head = λ x count e. elim (set_cases mid gone x (Under stays) (Head count) in_mid e) [
        | inl h ↦ let apart : Under stays ≡ Head count = h.1 in absurd cc
        | inr h ↦ elim (set_cases ms stays x (Head (k + l)) (Head count) in_ms h.1) [
          | inl g ↦
              let sum : k + l ≡ count = ap named_by g.1 in (
                ap (wider group gone stays lt) g.0 ∙ of_stays ∙ sym g.0,
                sym sum ∙ omega (arith, (ok.head gone k at_gone).1, (ok.head stays l at_stays).1, active_of-stays group gone stays lt marks) ∙ ap (active_of (wider group gone stays lt) marks) (sym g.0),
              )
          | inr g ↦ let old = ok.head x count g.1 in (
            wider-other group gone stays lt x (λ f. h.0 (sym old.0 ∙ f)) ∙ old.0,
            old.1 ∙ sym (active_of-apart group gone stays lt marks x h.0 g.0),
          )
        ]
      ];
    }

-- ---- one node is counted again

pub recounted : (ms : List GroupMember) (marks : List Bool) (group : ℕ → ℕ) (node name count new : ℕ) (is : Bool) → AreMembers ms marks group → slice_get ms name ≡ Some (Head count) → name ≡ group node → node < length marks → new + cond (get_or marks node false) 1 0 ≡ count + cond is 1 0 → AreMembers (slice_set ms name (Head new)) (slice_set marks node is) group
recounted ms marks group node name count new is ok at_name named within sum =
    let same = length-set ms name (Head new) in
    let as_many = length-set marks node is in
    let in_ms : name < length ms = slice_get_within ms name (Head count) at_name in
    record {
      same = same ∙ ok.same ∙ sym as_many;
      past = λ x le. ok.past x (omega (arith, le, same));
      falls = ok.falls;
      under = λ x lower e. elim (set_cases ms name x (Head new) (Under lower) in_ms e) [
        | inl h ↦ let apart : Head new ≡ Under lower = h.1 in absurd cc
        | inr h ↦ ok.under x lower h.1
      ];
      head = λ x c e. elim (set_cases ms name x (Head new) (Head c) in_ms e) [
        | inl h ↦
            let is_new : new ≡ c = ap named_by h.1 in
            let own = ok.head name count at_name in (
              ap group h.0 ∙ own.0 ∙ sym h.0,
              sym is_new ∙ omega (arith, sum, own.1, here name named) ∙ ap (λ (n : ℕ). active_of group (slice_set marks node is) n) (sym h.0),
            )
        | inr h ↦ let old = ok.head x c h.1 in (old.0, old.1 ∙ sym (there x (λ e'. h.0 (sym e' ∙ sym named))))
      ];
    }
  where
    alike : (x y : ℕ) → y ≢ node → counts group (slice_set marks node is) x y ≡ counts group marks x y
    alike x y ne = ap (λ (m : Bool). cond m (cond (eqb (group y) x) 1 0) 0) (get_or-set_other marks node y is false ne)

    here : (x : ℕ) → x ≡ group node → active_of group (slice_set marks node is) x + cond (get_or marks node false) 1 0 ≡ active_of group marks x + cond is 1 0
    here x e =
        let new_mark : counts group (slice_set marks node is) x node ≡ cond is 1 0 = counts-own group (slice_set marks node is) x node (sym e) ∙ ap (λ (m : Bool). cond m 1 0) (get_or-set_same marks node is false within) in
        let old_mark : counts group marks x node ≡ cond (get_or marks node false) 1 0 = counts-own group marks x node (sym e) in
        let as_many : active_of group (slice_set marks node is) x ≡ group_total (counts group (slice_set marks node is) x) (length marks) = ap (group_total (counts group (slice_set marks node is) x)) (length-set marks node is) in
        omega (arith, as_many, new_mark, old_mark, total-one (counts group (slice_set marks node is) x) (counts group marks x) node (length marks) within (alike x))

    there : (x : ℕ) → (group node ≡ x → ⊥) → active_of group (slice_set marks node is) x ≡ active_of group marks x
    there x ne =
        ap (group_total (counts group (slice_set marks node is) x)) (length-set marks node is) ∙ total-alike (counts group (slice_set marks node is) x) (counts group marks x) (length marks) (λ y _. elim (cases_eq y node) [
          | inl e ↦ counts-other group (slice_set marks node is) x y (λ f. ne (ap group (sym e) ∙ f)) ∙ sym (counts-other group marks x y (λ f. ne (ap group (sym e) ∙ f)))
          | inr other ↦ alike x y other
        ])

-- an active node is counted in its group
pub counted : (ms : List GroupMember) (marks : List Bool) (group : ℕ → ℕ) (node name count : ℕ) → AreMembers ms marks group → slice_get ms name ≡ Some (Head count) → name ≡ group node → node < length marks → get_or marks node false ≡ true → 1 ≤ count
counted ms marks group node name count ok at_name named within active =
    let one : counts group marks name node ≡ 1 = counts-own group marks name node (sym named) ∙ ap (λ (m : Bool). cond m 1 0) active in
    omega (arith, one, (ok.head name count at_name).1, total-one_of (counts group marks name) node (length marks) within)

-- ---- a node is added

pub members_pushed : (ms : List GroupMember) (marks : List Bool) (group : ℕ → ℕ) → AreMembers ms marks group → AreMembers (ms ++ Head 1 ∷ []) (marks ++ true ∷ []) group
members_pushed ms marks group ok =
    let longer = length_push ms (Head 1) in
    record {
      same = longer ∙ omega (arith, ok.same, length_push marks true);
      past = λ x le. ok.past x (omega (arith, le, longer));
      falls = ok.falls;
      under = λ x lower e. elim (cases_eq x (length ms)) [
        | inl same ↦ let apart : Some (Head 1) ≡ Some (Under lower) = sym (slice_get_push ms (Head 1)) ∙ ap (slice_get (ms ++ Head 1 ∷ [])) (sym same) ∙ e in absurd cc
        | inr ne ↦ ok.under x lower (sym (slice_get-push_other ms (Head 1) x ne) ∙ e)
      ];
      head = λ x count e. elim (cases_eq x (length ms)) [
        | inl same ↦
            let one : 1 ≡ count = ap named_by (same_Some (Head 1) (Head count) (sym (slice_get_push ms (Head 1)) ∙ ap (slice_get (ms ++ Head 1 ∷ [])) (sym same) ∙ e)) in
            (ok.past x (omega (arith, same)), sym one ∙ sym (new x same))
        | inr ne ↦
            let was = sym (slice_get-push_other ms (Head 1) x ne) ∙ e in
            let old = ok.head x count was in
            (old.0, old.1 ∙ sym (others x (slice_get_within ms x (Head count) was)))
      ];
    }
  where
    alike : (x y : ℕ) → y < length marks → counts group (marks ++ true ∷ []) x y ≡ counts group marks x y
    alike x y lt = ap (λ (m : Bool). cond m (cond (eqb (group y) x) 1 0) 0) (get_or-push marks y lt)
      where
        get_or-push : (xs : List Bool) (i : ℕ) → i < length xs → get_or (xs ++ true ∷ []) i false ≡ get_or xs i false
        get_or-push [] i h = absurd (omega arith)
        get_or-push (b ∷ xs) zero h = refl
        get_or-push (b ∷ xs) (suc i) h = get_or-push xs i (omega arith)

    last : (xs : List Bool) → get_or (xs ++ true ∷ []) (length xs) false ≡ true
    last [] = refl
    last (b ∷ xs) = last xs

    one_more : length (marks ++ true ∷ []) ≡ suc (length marks)
    one_more = omega (arith, length_push marks true)

    longer_total : (x : ℕ) → active_of group (marks ++ true ∷ []) x ≡ active_of group marks x + counts group (marks ++ true ∷ []) x (length marks)
    longer_total x =
        ap (group_total (counts group (marks ++ true ∷ []) x)) one_more
        ∙ ap (λ (n : ℕ). n + counts group (marks ++ true ∷ []) x (length marks)) (total-alike (counts group (marks ++ true ∷ []) x) (counts group marks x) (length marks) (alike x))

    new : (x : ℕ) → x ≡ length ms → active_of group (marks ++ true ∷ []) x ≡ 1
    new x e =
        let here : counts group (marks ++ true ∷ []) x (length marks) ≡ 1 = counts-own group (marks ++ true ∷ []) x (length marks) (ok.past (length marks) (omega (arith, ok.same)) ∙ omega (arith, e, ok.same)) ∙ ap (λ (m : Bool). cond m 1 0) (last marks) in
        let before : active_of group marks x ≡ 0 = total-alike (counts group marks x) (λ y. 0) (length marks) (λ y lt. counts-other group marks x y (λ f. omega (arith, ok.falls y, lt, ok.same, f, e))) ∙ total-none (length marks) in
        longer_total x ∙ omega (arith, here, before)

    others : (x : ℕ) → x < length ms → active_of group (marks ++ true ∷ []) x ≡ active_of group marks x
    others x lt =
        let here : counts group (marks ++ true ∷ []) x (length marks) ≡ 0 = counts-other group (marks ++ true ∷ []) x (length marks) (λ f. omega (arith, ok.past (length marks) (omega (arith, ok.same)), f, lt, ok.same)) in
        longer_total x ∙ omega (arith, here)

-- ---- groups that are kept

-- the new members form groups if the old members did
pub still_grouped : (old new : List GroupMember) → AreNodesGrouped old → KeepsGroups old new → AreNodesGrouped new
still_grouped old new g keeps =
    let members = keeps g.marks g.group g.members in
    record { marks = g.marks; group = g.group; members = members; few = omega (arith, g.few, g.members.same, members.same) }

pub few_counted : (ms : List GroupMember) (x count : ℕ) → AreNodesGrouped ms → slice_get ms x ≡ Some (Head count) → count ≤ MOST_NODES
few_counted ms x count g e = omega (arith, (g.members.head x count e).1, active_of-le g.group g.marks x, g.members.same, g.few)

-- a node that is its own group is the head of the group
pub named_head : (ms : List GroupMember) (marks : List Bool) (group : ℕ → ℕ) (x : ℕ) → AreMembers ms marks group → x < length ms → group x ≡ x → IsHead ms x
named_head ms marks group x ok lt own = head_or_under ms x (Head 0) lt (λ lower e.
    let down = ok.under x lower (member_at ms x (Head 0) (Under lower) lt e) in omega (arith, down.0, down.1, own, ok.falls lower))

pub still_head : (old new : List GroupMember) (x : ℕ) → AreNodesGrouped old → KeepsGroups old new → IsHead old x → IsHead new x
still_head old new x g keeps h =
    let members = keeps g.marks g.group g.members in
    named_head new g.marks g.group x members (omega (arith, slice_get_within old x (Head h.0) h.1, g.members.same, members.same)) (g.members.head x h.0 h.1).0

pub still_within : (old new : List GroupMember) (x : ℕ) → AreNodesGrouped old → KeepsGroups old new → x < length old → x < length new
still_within old new x g keeps lt = omega (arith, lt, g.members.same, (keeps g.marks g.group g.members).same)

-- ---- two nodes are joined

one_of : (x y : ℕ) → Contains (y ∷ []) x → x ≡ y
one_of x y c = elim (Contains-cases x y [] c) [ inl same ↦ same | inr d ↦ absurd (omega (arith, d.1)) ]

pub joined_alike : (ms : List GroupMember) (marks : List Bool) (group : ℕ → ℕ) (node other : ℕ) → AreMembers ms marks group → group node ≡ group other → AreJoined ms marks group node (other ∷ [])
joined_alike ms marks group node other ok e = record {
  wider = group;
  members = ok;
  still = λ x y same. same;
  joined = λ x c. e ∙ ap group (sym (one_of x other c));
}

pub joined_under : (ms : List GroupMember) (marks : List Bool) (group : ℕ → ℕ) (node other gone stays : ℕ) → stays < gone → AreMembers ms marks (λ x. cond (eqb (group x) gone) stays (group x)) → ((group node ≡ gone) × (group other ≡ stays)) ⊎ ((group node ≡ stays) × (group other ≡ gone)) → AreJoined ms marks group node (other ∷ [])
joined_under ms marks group node other gone stays lt ok h = record {
  wider = wider group gone stays lt;
  members = ok;
  still = λ x y same. ap (λ (n : ℕ). cond (eqb n gone) stays n) same;
  joined = λ x c. met h ∙ ap (wider group gone stays lt) (sym (one_of x other c));
}
  where
    stay : (x : ℕ) → group x ≡ stays → wider group gone stays lt x ≡ stays
    stay x e = wider-other group gone stays lt x (λ f. omega (arith, e, f)) ∙ e

    met : ((group node ≡ gone) × (group other ≡ stays)) ⊎ ((group node ≡ stays) × (group other ≡ gone)) → wider group gone stays lt node ≡ wider group gone stays lt other
    met (inl k) = wider-gone group gone stays lt node k.0 ∙ sym (stay other k.1)
    met (inr k) = stay node k.0 ∙ sym (wider-gone group gone stays lt other k.1)

-- the names of both groups are found, and the ways to them are shortened
module _ (old mid now : List GroupMember) (node other name other_name : ℕ) (named : IsGroupOf old node name) (keeps : KeepsGroups old mid) (other_named : IsGroupOf mid other other_name) (keeps_on : KeepsGroups mid now) where
  pub same_name : other_name ≡ name → Joins old now node (other ∷ [])
  same_name e marks group ok =
      let mid_ok = keeps marks group ok in
      joined_alike now marks group node other (keeps_on marks group mid_ok) (sym (named marks group ok) ∙ sym e ∙ other_named marks group mid_ok)

  pub lower_name : (new : List GroupMember) → other_name < name → PutsUnder now new name other_name → Joins old new node (other ∷ [])
  lower_name new lt puts marks group ok =
      let mid_ok = keeps marks group ok in
      joined_under new marks group node other name other_name lt (puts marks group (keeps_on marks group mid_ok)) (inl (sym (named marks group ok), sym (other_named marks group mid_ok)))

  pub higher_name : (new : List GroupMember) → name < other_name → PutsUnder now new other_name name → Joins old new node (other ∷ [])
  higher_name new lt puts marks group ok =
      let mid_ok = keeps marks group ok in
      joined_under new marks group node other other_name name lt (puts marks group (keeps_on marks group mid_ok)) (inr (sym (named marks group ok), sym (other_named marks group mid_ok)))

-- joining a node with xs and then with x joins it with all of them
pub joins_more : (a b d : List GroupMember) (node x : ℕ) (xs : List ℕ) → Joins a b node xs → Joins b d node (x ∷ []) → Joins a d node (xs ++ x ∷ [])
joins_more a b d node x xs j k marks group ok =
    let first = j marks group ok in
    let second = k marks first.wider first.members in
    record {
      wider = second.wider;
      members = second.members;
      still = λ y z e. second.still y z (first.still y z e);
      joined = λ y c. elim (Contains-append_cases xs (x ∷ []) y c) [
        | inl d ↦ second.still node y (first.joined y d)
        | inr e ↦ second.joined y e
      ];
    }

pub joined_grouped : (old new : List GroupMember) (node : ℕ) (xs : List ℕ) → AreNodesGrouped old → Joins old new node xs → AreNodesGrouped new
joined_grouped old new node xs g j =
    let joined = j g.marks g.group g.members in
    record { marks = g.marks; group = joined.wider; members = joined.members; few = omega (arith, g.few, g.members.same, joined.members.same) }

pub joined_within : (old new : List GroupMember) (node : ℕ) (xs : List ℕ) (x : ℕ) → AreNodesGrouped old → Joins old new node xs → x < length old → x < length new
joined_within old new node xs x g j lt = omega (arith, lt, g.members.same, (j g.marks g.group g.members).members.same)
