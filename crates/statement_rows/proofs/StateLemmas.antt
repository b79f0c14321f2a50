-- The fields after each kind of change.
use Rattle.std.proofs.Common.{◌≡◌, ℕ, ◌+◌, ◌<◌, ◌≤◌, ◌||◌, Bool, true, false, not, cond, List, [], ◌∷◌, ◌++◌, length, map, refl, sym, ap, subst, ◌∙◌, arith, vec_capacity, Vec, Global}
use Rattle.std.specs.Prelude.{nat_lt, Option, Some, Result, Ok, Err}
use Rattle.std.proofs.Common.{Box}
use Rattle.std.proofs.lemmas.List.{length-map}
use Rattle.std.proofs.lemmas.Bool.{and_parts}
use Rattle.std.proofs.lemmas.Bool.Decides.{nat_tests}
use Rattle.cpe_rows.specs.Limits.{most}
use Rattle.cpe_rows.specs.FactNames.{number_of_facts}
use Rattle.cpe_rows.specs.declared.fault.Which.TheVariants as which
use Rattle.statement_rows.specs.declared.ready_statement.ReadyStatement.{ReadyStatement}
use Rattle.statement_rows.specs.declared.row.NumberedStatement.{NumberedStatement}
use Rattle.statement_rows.specs.Askers.{askers_at}
use Rattle.statement_rows.specs.ByResult.{asks_one, each_result}
use Rattle.statement_rows.specs.Invariant.{AreStatementRows, IsAlone}
use Rattle.statement_rows.specs.Readings.{FactTruths, check_keys}
use Rattle.statement_rows.specs.Room.{RowRoom, with_id}
use Rattle.statement_rows.specs.Rows.{asks, at_rows, each_verdict, has_row_id, is_changed, judge_row, ticket_of, statement_tickets, verdict_by, verdict_now}
use Rattle.statement_rows.specs.State.{AreJudged, SameRows, State, StatementReady, StatementRow, at_tickets, has_statement_room, is_of, judge, new_statement_row, statements_of, view_of}
use Rattle.statement_rows.specs.Tickets.{IsBelow, among, with_if}
use Rattle.std.specs.List.{AllByRecursion, filter, list_any}
use Rattle.std.specs.Map.{lookup}
use Rattle.std.specs.Str.{bytes_eq}
use Rattle.std.proofs.lemmas.Slice.Eq.{bytes_eq-Decides}
use Rattle.cpe_rows.specs.Truth.{same_truth}
use Rattle.cpe_rows.specs.declared.truth.Truth.{Truth}
use Rattle.cpe_rows.specs.declared.truth.Truth.TheVariants.{True, False, Error, Unknown}
use Rattle.cpe_rows.specs.declared.statement.Statement.{Statement}
use Rattle.cpe_rows.specs.declared.test.CheckKey.{CheckKey}
use Rattle.check_results.specs.Results.{one_or_none}
use Rattle.name_index.specs.declared.table.NameId.{NameId}
use Rattle.check_results.specs.ticket_list.Rising.{IsRisingBy}
use Rattle.check_results.proofs.ticket_list.RisingLemmas.{rising_last, rising_passing}
use Rattle.statement_rows.specs.declared.row.Cause.{Cause}
use Rattle.statement_rows.specs.declared.row.Cause.TheVariants.{Fact}
use Rattle.statement_rows.specs.declared.row.JudgedRow.{JudgedRow}
use Rattle.statement_rows.proofs.RowLemmas.{rising-at_all, still_room, tickets-at_all}

module _ (f : JudgedRow → JudgedRow) (P Q : JudgedRow → Type 0) (ts : List ℕ) (here : (r : JudgedRow) → among ts (ticket_of r) ≡ true → P r → Q (f r)) (else_ : (r : JudgedRow) → among ts (ticket_of r) ≡ false → P r → Q r) where
  pub all_at_rows : (rows : List JudgedRow) → AllByRecursion P rows → AllByRecursion Q (at_rows ts f rows)
  all_at_rows [] h = tt
  all_at_rows (r ∷ rows) h = (go (among ts (ticket_of r)) refl, all_at_rows rows h.1) where
    go : (b : Bool) → among ts (ticket_of r) ≡ b → Q (cond b (f r) r)
    go true e = here r e h.0
    go false e = else_ r e h.0

pub all_weaker : {X : Type 0} (P Q : X → Type 0) → ((x : X) → P x → Q x) → (xs : List X) → AllByRecursion P xs → AllByRecursion Q xs
all_weaker P Q w [] h = tt
all_weaker P Q w (x ∷ xs) h = (w x h.0, all_weaker P Q w xs h.1)

pub all_last : {X : Type 0} (P : X → Type 0) (xs : List X) (x : X) → AllByRecursion P xs → P x → AllByRecursion P (xs ++ x ∷ [])
all_last P [] x h e = (e, tt)
all_last P (y ∷ xs) x h e = (h.0, all_last P xs x h.1 e)

pub map-last : {X Y : Type 0} (f : X → Y) (xs : List X) (x : X) → map f (xs ++ x ∷ []) ≡ map f xs ++ f x ∷ []
map-last f [] x = refl
map-last f (y ∷ xs) x = ap (λ u. f y ∷ u) (map-last f xs x)

length-last : {X : Type 0} (xs : List X) (x : X) → length (xs ++ x ∷ []) ≡ length xs + 1
length-last [] x = refl
length-last (y ∷ xs) x = let more = length-last xs x in omega (arith, more)

pub same_self : (t : Truth) → same_truth t t ≡ true
same_self True = refl
same_self False = refl
same_self Error = refl
same_self Unknown = refl

-- ---- rows that are judged

module _ (cause : Cause) (truth : FactTruths) (checks : List (CheckKey × Truth)) (ts : List ℕ) where
  abbrev f : JudgedRow → JudgedRow
  f = judge_row cause truth checks

  pub statements-judged : (rows : List JudgedRow) → statements_of (map view_of (at_rows ts f rows)) ≡ statements_of (map view_of rows)
  statements-judged [] = refl
  statements-judged (r ∷ rows) = λ i. go (among ts (ticket_of r)) i ∷ statements-judged rows i where
    go : (b : Bool) → (view_of (cond b (f r) r)).statement ≡ (view_of r).statement
    go true = refl
    go false = refl

  module _ (rows rows1 : List JudgedRow) (list list1 : Vec ℕ Global) (by_id : List (List ℕ × ℕ)) (askers : List (CheckKey × Vec ℕ Global)) (next : ℕ) (h : AreStatementRows rows list by_id askers next)
      (are : rows1 ≡ at_rows ts f rows) (changed : list1.items ≡ statement_tickets is_changed rows1) (capacity : vec_capacity list1 ≡ vec_capacity list) where
    same : (p : JudgedRow → Bool) → ((r : JudgedRow) → p (f r) ≡ p r) → statement_tickets p rows ≡ statement_tickets p rows1
    same p e = sym (tickets-at_all f (λ r. refl) p e ts rows) ∙ ap (statement_tickets p) (sym are)

    pub AreRows-judged : AreStatementRows rows1 list1 by_id askers next
    AreRows-judged = record {
      noted = record {
        rising = subst (IsRisingBy ticket_of) (sym are) (rising-at_all f (λ r. refl) ts rows h.noted.rising);
        changed = changed;
        room = still_room (length rows1) (length rows) (vec_capacity list) (vec_capacity list1)
            (ap length are ∙ length-map rows (λ (r : JudgedRow). cond (among ts r.ticket) (f r) r)) capacity h.noted.room;
      };
      below = subst (AllByRecursion (λ r. ticket_of r < next)) (sym are)
          (all_at_rows f (λ r. ticket_of r < next) (λ r. ticket_of r < next) ts (λ r e lt. lt) (λ r e lt. lt) rows h.below);
      ids = λ id. h.ids id ∙ same (has_row_id id) (λ r. refl);
      asked = λ k. h.asked k ∙ same (asks k) (λ r. refl);
      alone = subst (AllByRecursion IsAlone) (sym are) (all_at_rows f IsAlone IsAlone ts (λ r yes_ e. e) (λ r no_ e. e) rows h.alone);
    }

module _ (truth : FactTruths) (checks : List (CheckKey × Truth)) (ts : List ℕ) where
  judged-one : (r : JudgedRow) → IsAlone r → view_of (judge_row Fact truth checks r) ≡ judge truth checks (view_of r)
  judged-one r one =
      ap (λ (b : Bool). record (view_of r) { verdict = verdict_now truth checks r; by_result = cond b (each_verdict truth r.numbered.value.statement r.numbered.value.ids.items) r.by_result }) one

  pub judged-at : (rows : List JudgedRow) → AllByRecursion IsAlone rows → map view_of (at_rows ts (judge_row Fact truth checks) rows) ≡ at_tickets ts (judge truth checks) (map view_of rows)
  judged-at [] h = refl
  judged-at (r ∷ rows) h = λ i. go (among ts (ticket_of r)) i ∷ judged-at rows h.1 i where
    go : (b : Bool) → view_of (cond b (judge_row Fact truth checks r) r) ≡ cond b (judge truth checks (view_of r)) (view_of r)
    go true = judged-one r h.0
    go false = refl

-- ---- the same rows, with more room

pub AreRows-same : (rows rows1 : List JudgedRow) (list list1 : Vec ℕ Global) (by_id by_id1 : List (List ℕ × ℕ)) (askers askers1 : List (CheckKey × Vec ℕ Global)) (next : ℕ)
    → AreStatementRows rows list by_id askers next → rows1 ≡ rows → list1.items ≡ list.items → vec_capacity list ≤ vec_capacity list1
    → ((q : List ℕ) → lookup (bytes_eq q) by_id1 ≡ lookup (bytes_eq q) by_id) → ((k : CheckKey) → askers_at askers1 k ≡ askers_at askers k)
    → AreStatementRows rows1 list1 by_id1 askers1 next
AreRows-same rows rows1 list list1 by_id by_id1 askers askers1 next h are changed capacity ids asked = record {
  noted = record {
    rising = subst (IsRisingBy ticket_of) (sym are) h.noted.rising;
    changed = changed ∙ (h.noted.changed ∙ ap (statement_tickets is_changed) (sym are));
    room = let as_long = ap length are in omega (arith, as_long, capacity, h.noted.room);
  };
  below = subst (AllByRecursion (λ r. ticket_of r < next)) (sym are) h.below;
  ids = λ q. ap one_or_none (ids q) ∙ (h.ids q ∙ ap (statement_tickets (has_row_id q)) (sym are));
  asked = λ k. asked k ∙ (h.asked k ∙ ap (statement_tickets (asks k)) (sym are));
  alone = subst (AllByRecursion IsAlone) (sym are) h.alone;
}

-- ---- one more row

with-cons : (b : Bool) (n t : ℕ) (ts : List ℕ) → with_if b t (n ∷ ts) ≡ n ∷ with_if b t ts
with-cons true n t ts = refl
with-cons false n t ts = refl

tickets-last : (p : JudgedRow → Bool) (rows : List JudgedRow) (r : JudgedRow) → statement_tickets p (rows ++ r ∷ []) ≡ with_if (p r) (ticket_of r) (statement_tickets p rows)
tickets-last p [] r = go (p r) where
  go : (b : Bool) → map ticket_of (cond b (r ∷ []) []) ≡ with_if b (ticket_of r) []
  go true = refl
  go false = refl
tickets-last p (x ∷ rows) r = go (p x) (tickets-last p rows r) where
  go : (b : Bool) → statement_tickets p (rows ++ r ∷ []) ≡ with_if (p r) (ticket_of r) (statement_tickets p rows)
      → map ticket_of (cond b (x ∷ filter p (rows ++ r ∷ [])) (filter p (rows ++ r ∷ []))) ≡ with_if (p r) (ticket_of r) (map ticket_of (cond b (x ∷ filter p rows) (filter p rows)))
  go true h = ap (λ (u : List ℕ). ticket_of x ∷ u) h ∙ sym (with-cons (p r) (ticket_of x) (ticket_of r) (statement_tickets p rows))
  go false h = h

tickets_below : (p : JudgedRow → Bool) (n : ℕ) (rows : List JudgedRow) → AllByRecursion (λ r. ticket_of r < n) rows → AllByRecursion (λ t. t < n) (statement_tickets p rows)
tickets_below p n [] h = tt
tickets_below p n (x ∷ rows) h = go (p x) (tickets_below p n rows h.1) where
  go : (b : Bool) → AllByRecursion (λ t. t < n) (statement_tickets p rows) → AllByRecursion (λ t. t < n) (map ticket_of (cond b (x ∷ filter p rows) (filter p rows)))
  go true more = (h.0, more)
  go false more = more

-- the next ticket is above all in each list
pub below_next : (p : JudgedRow → Bool) (n : ℕ) (rows : List JudgedRow) (ts : List ℕ) → IsRisingBy ticket_of rows → AllByRecursion (λ r. ticket_of r < n) rows → ts ≡ statement_tickets p rows → IsBelow n ts
below_next p n rows ts rising below e = subst (IsBelow n) (sym e) (rising_passing ticket_of p rows rising, tickets_below p n rows below)

none_tickets : (p : JudgedRow → Bool) (rows : List JudgedRow) → list_any p rows ≡ false → statement_tickets p rows ≡ []
none_tickets p [] h = refl
none_tickets p (x ∷ rows) h = go (p x) h (none_tickets p rows) where
  go : (b : Bool) → (b || list_any p rows) ≡ false → (list_any p rows ≡ false → statement_tickets p rows ≡ []) → map ticket_of (cond b (x ∷ filter p rows) (filter p rows)) ≡ []
  go true h more = absurd (cc)
  go false h more = more h

any-judged : (id : List ℕ) (rows : List JudgedRow) → list_any (is_of id) (map view_of rows) ≡ list_any (has_row_id id) rows
any-judged id [] = refl
any-judged id (r ∷ rows) = ap (λ (b : Bool). has_row_id id r || b) (any-judged id rows)

pub new_id : (id : List ℕ) (rows : List JudgedRow) → list_any (is_of id) (map view_of rows) ≡ false → statement_tickets (has_row_id id) rows ≡ []
new_id id rows h = none_tickets (has_row_id id) rows (sym (any-judged id rows) ∙ h)

-- a list that had no ticket of the id has the new one alone
id_put : (b : Bool) (o : Option ℕ) (t : ℕ) (ts : List ℕ) → one_or_none o ≡ ts → (b ≡ true → ts ≡ []) → one_or_none (cond b (Some t) o) ≡ with_if b t ts
id_put true o t ts e none = ap (λ (us : List ℕ). us ++ t ∷ []) (sym (none refl))
id_put false o t ts e none = e

module _ (rows rows1 : List JudgedRow) (list : Vec ℕ Global) (by_id by_id1 : List (List ℕ × ℕ)) (askers askers1 : List (CheckKey × Vec ℕ Global)) (next : ℕ) (h : AreStatementRows rows list by_id askers next)
    (r : JudgedRow) (ticket : r.ticket ≡ next) (was : r.verdict ≡ r.known) (one : IsAlone r) (are : rows1 ≡ rows ++ r ∷ [])
    (new : statement_tickets (has_row_id r.numbered.value.statement.id) rows ≡ [])
    (ids : (q : List ℕ) → lookup (bytes_eq q) by_id1 ≡ cond (bytes_eq r.numbered.value.statement.id q) (Some r.ticket) (lookup (bytes_eq q) by_id))
    (asked : (k : CheckKey) → askers_at askers1 k ≡ with_if (asks k r) r.ticket (askers_at askers k))
    (room : length rows < vec_capacity list) where
  more : (p : JudgedRow → Bool) (ts : List ℕ) → ts ≡ statement_tickets p rows → with_if (p r) r.ticket ts ≡ statement_tickets p rows1
  more p ts e = ap (with_if (p r) r.ticket) e ∙ (sym (tickets-last p rows r) ∙ ap (statement_tickets p) (sym are))

  none_of : (q : List ℕ) → bytes_eq r.numbered.value.statement.id q ≡ true → statement_tickets (has_row_id q) rows ≡ []
  none_of q e = subst (λ (id : List ℕ). statement_tickets (has_row_id id) rows ≡ []) ((bytes_eq-Decides r.numbered.value.statement.id q).0 e) new

  unchanged : is_changed r ≡ false
  unchanged = ap (λ (t : Truth). not (same_truth t r.known)) was ∙ ap not (same_self r.known)

  pub AreRows-put : AreStatementRows rows1 list by_id1 askers1 (next + 1)
  AreRows-put = record {
    noted = record {
      rising = subst (IsRisingBy ticket_of) (sym are) (rising_last ticket_of r rows h.noted.rising (subst (λ (n : ℕ). AllByRecursion (λ x. ticket_of x < n) rows) (sym ticket) h.below));
      changed = ap (λ (c : Bool). with_if c r.ticket list.items) (sym unchanged) ∙ more is_changed list.items h.noted.changed;
      room = let as_long = ap length are ∙ length-last rows r in omega (arith, as_long, room);
    };
    below = subst (AllByRecursion (λ x. ticket_of x < next + 1)) (sym are)
        (all_last (λ x. ticket_of x < next + 1) rows r (all_weaker (λ x. ticket_of x < next) (λ x. ticket_of x < next + 1) (λ x lt. omega (arith, lt)) rows h.below) (omega (arith, ticket)));
    ids = λ q. ap one_or_none (ids q)
        ∙ (id_put (bytes_eq r.numbered.value.statement.id q) (lookup (bytes_eq q) by_id) r.ticket (statement_tickets (has_row_id q) rows) (h.ids q) (none_of q)
        ∙ more (has_row_id q) (statement_tickets (has_row_id q) rows) refl);
    asked = λ k. asked k ∙ more (asks k) (askers_at askers k) (h.asked k);
    alone = subst (AllByRecursion IsAlone) (sym are) (all_last IsAlone rows r h.alone one);
  }

-- a new row is judged
pub judged_put : (truth : FactTruths) (b : State) (s : Statement) (ids : List NameId) → judge truth b.checks (new_statement_row truth b s ids) ≡ new_statement_row truth b s ids
judged_put truth b s ids = go (asks_one (check_keys s.test)) where
  v : Truth
  v = verdict_by truth b.checks s ids

  go : (one : Bool) → record (new_statement_row truth b s ids) { by_result = cond one (each_verdict truth s ids) (cond one (each_verdict truth s ids) (each_result (λ t. v))) }
      ≡ record (new_statement_row truth b s ids) { by_result = cond one (each_verdict truth s ids) (each_result (λ t. v)) }
  go true = refl
  go false = refl

pub judged_last : (truth : FactTruths) (a b : State) (s : Statement) (ids : List NameId) → b.rows ≡ a.rows ++ new_statement_row truth a s ids ∷ [] → b.checks ≡ a.checks → AreJudged a truth → AreJudged b truth
judged_last truth a b s ids rows checks h =
    subst (λ (cs : List (CheckKey × Truth)). AllByRecursion (λ j. judge truth cs j ≡ j) b.rows) (sym checks)
    (subst (AllByRecursion (λ j. judge truth a.checks j ≡ j)) (sym rows)
    (all_last (λ j. judge truth a.checks j ≡ j) a.rows (new_statement_row truth a s ids) h (judged_put truth a s ids)))

pub statements-last : (rows : List JudgedRow) (r : JudgedRow) → statements_of (map view_of (rows ++ r ∷ [])) ≡ statements_of (map view_of rows) ++ r.numbered.value.statement ∷ []
statements-last [] r = refl
statements-last (x ∷ rows) r = ap (λ (ss : List Statement). x.numbered.value.statement ∷ ss) (statements-last rows r)

pub room_of : (listed : Bool) (count capacity spare next : ℕ) → has_statement_room listed count capacity spare next ≡ true → count < capacity
room_of listed count capacity spare next h =
    let one = and_parts listed _ h in
    let two = and_parts (nat_lt count capacity) _ one.1 in
    let fits : nat_lt count capacity ≡ true = two.0 in
    grind (arith, nat_tests)

-- a statement is ready, or memory ran out
module _ {Fault : Type 0} (a b : State) (s : Statement) (ids : List NameId) (numbered : Box NumberedStatement Global) (listed : Bool) (count capacity spare : ℕ)
    (same : SameRows a b) (ready : b.ready ≡ has_statement_room listed count capacity spare a.next) (is_held : numbered.value.statement ≡ s) (are_ids : numbered.value.ids.items ≡ ids)
    (new : list_any (is_of s.id) a.rows ≡ false) (few : nat_lt (most which.Facts) (number_of_facts (statements_of a.rows ++ s ∷ [])) ≡ false) where
  ready_cases : (id : Result (List ℕ) Fault) → RowRoom listed count capacity spare a.next s a.askers b.askers id → StatementReady a b s ids (with_id numbered a.next id)
  ready_cases (Ok i) h = record {
    same = same;
    ready = record {
      numbered = (is_held, are_ids);
      id = h.id;
      new = ap (λ (js : List StatementRow). list_any (is_of s.id) js) same.rows ∙ new;
      few = ap (λ (js : List StatementRow). nat_lt (most which.Facts) (number_of_facts (statements_of js ++ s ∷ []))) same.rows ∙ few;
      ticket = (sym same.next, ready ∙ h.room);
      keys = h.places;
    };
    asked = h.asked;
    left = h.left;
  }
  ready_cases (Err e) h = record { same = same; ready = tt; asked = h.asked; left = h.left }

  pub ready_by : (id : Result (List ℕ) Fault) (result : Result ReadyStatement Fault) → result ≡ with_id numbered a.next id
      → RowRoom listed count capacity spare a.next s a.askers b.askers id → StatementReady a b s ids result
  ready_by id result e h = subst (StatementReady a b s ids) (sym e) (ready_cases id h)
