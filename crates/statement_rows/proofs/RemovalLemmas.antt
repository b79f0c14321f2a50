-- The fields without a row, and with each verdict as the known one.
use Rattle.std.proofs.Common.{◌≡◌, ℕ, ◌<◌, ◌||◌, Bool, true, false, not, cond, List, [], ◌∷◌, length, map, refl, sym, ap, subst, ◌∙◌, arith, vec_capacity, Vec, Global}
use Rattle.std.specs.Prelude.{nat_eq, slice_get, Option, Some, None}
use Rattle.std.specs.List.{AllByRecursion, filter}
use Rattle.std.specs.Map.{lookup}
use Rattle.std.specs.Str.{bytes_eq}
use Rattle.cpe_rows.specs.declared.test.CheckKey.{CheckKey}
use Rattle.check_results.specs.Results.{one_or_none}
use Rattle.check_results.specs.ticket_list.Rising.{IsRisingBy}
use Rattle.std.proofs.lemmas.List.{length-map}
use Rattle.statement_rows.specs.declared.row.JudgedRow.{JudgedRow}
use Rattle.statement_rows.specs.Askers.{askers_at}
use Rattle.statement_rows.specs.Invariant.{AreStatementRows, IsAlone}
use Rattle.statement_rows.specs.Rows.{asks, forget_change, has_row_id, is_changed, ticket_of, statement_tickets}
use Rattle.statement_rows.specs.State.{forget_row_change, statements_of, view_of}
use Rattle.statement_rows.specs.Tickets.{among, without_if}
use Rattle.ticket_list.specs.Tickets.{without}
use Rattle.statement_rows.proofs.ListLemmas.{nat_decides, nat_same}
use Rattle.statement_rows.proofs.RowLemmas.{all_at, members, passing-map, rising-map, still_room}
use Rattle.statement_rows.proofs.StateLemmas.{same_self}
use Rattle.statement_rows.proofs.TakeLemmas.{all_removed, length-removed, removed, rising-removed, tickets-removed}

-- a list of one ticket, without that ticket
one_gone : (o : Option ℕ) (t : ℕ) → among (one_or_none o) t ≡ true → [] ≡ without t (one_or_none o)
one_gone None t h = refl
one_gone (Some u) t h =
    let same : u ≡ t = nat_decides u t (only (nat_eq u t) h) in
    subst (λ (t : ℕ). [] ≡ without t (u ∷ [])) same (ap (λ (b : Bool). cond (not b) (u ∷ []) []) (sym (nat_same u)))
  where
    only : (b : Bool) → (b || false) ≡ true → b ≡ true
    only true h = refl
    only false h = h

id_gone : (b : Bool) (o : Option ℕ) (t : ℕ) (ts : List ℕ) → one_or_none o ≡ ts → (b ≡ true → among ts t ≡ true) → one_or_none (cond b None o) ≡ without_if b t ts
id_gone true o t ts e h = one_gone o t (ap (λ (us : List ℕ). among us t) e ∙ h refl) ∙ ap (without t) e
id_gone false o t ts e h = e

module _ (rows rows1 : List JudgedRow) (list list1 : Vec ℕ Global) (by_id by_id1 : List (List ℕ × ℕ)) (askers askers1 : List (CheckKey × Vec ℕ Global)) (next : ℕ) (h : AreStatementRows rows list by_id askers next)
    (k : ℕ) (r : JudgedRow) (at : slice_get rows k ≡ Some r) (are : rows1 ≡ removed k rows)
    (ids : (q : List ℕ) → lookup (bytes_eq q) by_id1 ≡ cond (bytes_eq r.numbered.value.statement.id q) None (lookup (bytes_eq q) by_id))
    (asked : (key : CheckKey) → askers_at askers1 key ≡ without_if (asks key r) r.ticket (askers_at askers key))
    (changed : list1.items ≡ without_if (is_changed r) r.ticket list.items) (capacity : vec_capacity list1 ≡ vec_capacity list) where
  gone : (p : JudgedRow → Bool) (ts : List ℕ) → ts ≡ statement_tickets p rows → without_if (p r) r.ticket ts ≡ statement_tickets p rows1
  gone p ts e = ap (without_if (p r) r.ticket) e ∙ (sym (tickets-removed ticket_of p k r rows h.noted.rising at) ∙ ap (statement_tickets p) (sym are))

  pub AreRows-removed : AreStatementRows rows1 list1 by_id1 askers1 next
  AreRows-removed = record {
    noted = record {
      rising = subst (IsRisingBy ticket_of) (sym are) (rising-removed ticket_of k rows h.noted.rising);
      changed = changed ∙ gone is_changed list.items h.noted.changed;
      room = let fewer = length-removed k rows in let as_long = ap length are in omega (arith, fewer, as_long, capacity, h.noted.room);
    };
    below = subst (AllByRecursion (λ r. ticket_of r < next)) (sym are) (all_removed (λ r. ticket_of r < next) k rows h.below);
    ids = λ q. ap one_or_none (ids q)
        ∙ (id_gone (bytes_eq r.numbered.value.statement.id q) (lookup (bytes_eq q) by_id) r.ticket (statement_tickets (has_row_id q) rows) (h.ids q)
        (all_at (λ x. has_row_id q x ≡ true → among (statement_tickets (has_row_id q) rows) (ticket_of x) ≡ true) rows k r (members ticket_of (has_row_id q) rows) at)
        ∙ gone (has_row_id q) (statement_tickets (has_row_id q) rows) refl);
    asked = λ key. asked key ∙ gone (asks key) (askers_at askers key) (h.asked key);
    alone = subst (AllByRecursion IsAlone) (sym are) (all_removed IsAlone k rows h.alone);
  }

-- ---- known verdicts

none_changed : (rows : List JudgedRow) → statement_tickets is_changed (map forget_change rows) ≡ []
none_changed [] = refl
none_changed (r ∷ rows) =
    ap (λ (b : Bool). map ticket_of (cond (not b) (forget_change r ∷ filter is_changed (map forget_change rows)) (filter is_changed (map forget_change rows)))) (same_self r.verdict) ∙ none_changed rows

all_map : (f : JudgedRow → JudgedRow) (P Q : JudgedRow → Type 0) → ((r : JudgedRow) → P r → Q (f r)) → (rows : List JudgedRow) → AllByRecursion P rows → AllByRecursion Q (map f rows)
all_map f P Q w [] h = tt
all_map f P Q w (r ∷ rows) h = (w r h.0, all_map f P Q w rows h.1)

pub judged-known : (rows : List JudgedRow) → map view_of (map forget_change rows) ≡ map forget_row_change (map view_of rows)
judged-known [] = refl
judged-known (r ∷ rows) = ap (λ js. forget_row_change (view_of r) ∷ js) (judged-known rows)

pub statements-known : (rows : List JudgedRow) → statements_of (map view_of (map forget_change rows)) ≡ statements_of (map view_of rows)
statements-known [] = refl
statements-known (r ∷ rows) = ap (λ ss. r.numbered.value.statement ∷ ss) (statements-known rows)

module _ (rows rows1 : List JudgedRow) (list list1 : Vec ℕ Global) (by_id : List (List ℕ × ℕ)) (askers : List (CheckKey × Vec ℕ Global)) (next : ℕ) (h : AreStatementRows rows list by_id askers next)
    (are : rows1 ≡ map forget_change rows) (changed : list1.items ≡ []) (capacity : vec_capacity list1 ≡ vec_capacity list) where
  same_known : (p : JudgedRow → Bool) → ((r : JudgedRow) → p (forget_change r) ≡ p r) → statement_tickets p rows ≡ statement_tickets p rows1
  same_known p e = sym (passing-map ticket_of forget_change (λ r. refl) p e rows) ∙ ap (statement_tickets p) (sym are)

  pub AreRows-known : AreStatementRows rows1 list1 by_id askers next
  AreRows-known = record {
    noted = record {
      rising = subst (IsRisingBy ticket_of) (sym are) (rising-map ticket_of forget_change (λ r. refl) rows h.noted.rising);
      changed = changed ∙ (sym (none_changed rows) ∙ ap (statement_tickets is_changed) (sym are));
      room = still_room (length rows1) (length rows) (vec_capacity list) (vec_capacity list1) (ap length are ∙ length-map rows forget_change) capacity h.noted.room;
    };
    below = subst (AllByRecursion (λ r. ticket_of r < next)) (sym are) (all_map forget_change (λ r. ticket_of r < next) (λ r. ticket_of r < next) (λ r lt. lt) rows h.below);
    ids = λ id. h.ids id ∙ same_known (has_row_id id) (λ r. refl);
    asked = λ k. h.asked k ∙ same_known (asks k) (λ r. refl);
    alone = subst (AllByRecursion IsAlone) (sym are) (all_map forget_change IsAlone IsAlone (λ r e. e) rows h.alone);
  }
