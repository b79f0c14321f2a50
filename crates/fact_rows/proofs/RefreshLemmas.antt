-- The truths of facts are computed again, one after the other.
use Rattle.std.proofs.Common.{◌≡◌, ℕ, ◌+◌, ◌≤◌, ◌&&◌, ◌||◌, Bool, true, false, not, cond, List, [], ◌∷◌, ◌++◌, length, Option, Some, None, refl, sym, ap, subst, ◌∙◌, arith, length-append, Vec, Global}
use Rattle.std.specs.Prelude.{nat_eq, vec_capacity}
use Rattle.std.specs.Option.{option_map, option_map_or, is_some}
use Rattle.std.proofs.Math.Bool.{or-false}
use Rattle.std.proofs.lemmas.List.Folds.{list_any-append}
use Rattle.std.proofs.lemmas.List.Sums.{sum_by_push}
use Rattle.name_index.specs.declared.table.NameId.{NameId}
use Rattle.level_board.specs.Board.{Board}
use Rattle.cpe_rows.specs.Truth.{same_truth}
use Rattle.cpe_rows.specs.declared.statement.Mode.{Mode}
use Rattle.cpe_rows.specs.declared.truth.Truth.{Truth}
use Rattle.cpe_rows.specs.declared.truth.Truth.TheVariants.{True, False, Error, Unknown}
use Rattle.fact_rows.specs.declared.row.FactRow.{FactRow}
use Rattle.fact_rows.specs.Facts.{IsChangeList, Fact, truth_differs, ends_or_none, fact_row_in, has_end_of_fact, leads_by, room_or_none, seen_fact, times_among, truth_or_unknown, without_truth, users_or_none}
use Rattle.fact_rows.specs.Calls.{Refreshed, RowsRefreshed}
use Rattle.fact_rows.specs.Rows.{is_changed, is_news, count_if, fact_row_at, fact_row_with, unchanged}
use Rattle.fact_rows.specs.Truths.{truth_at_ends}
use Rattle.fact_rows.proofs.LinkLemmas.{nat_decides, nat_same}
use Rattle.fact_rows.proofs.ChangeLemmas.{changes_is}

pub differs_not : (t : Truth) → truth_differs t t ≡ false
differs_not True = refl
differs_not False = refl
differs_not Error = refl
differs_not Unknown = refl

or-true : (b : Bool) → (b || true) ≡ true
or-true true = refl
or-true false = refl

-- ends, and whether there is a fact, read from a fact without its truth
pub ends_without_truth : (o : Option Fact) → ends_or_none (option_map without_truth o) ≡ ends_or_none o
ends_without_truth None = refl
ends_without_truth (Some f) = refl

pub there_without_truth : (o : Option Fact) → is_some (option_map without_truth o) ≡ is_some o
there_without_truth None = refl
there_without_truth (Some f) = refl

-- ---- one fact

abbrev refreshed : Mode → Board → ℕ → FactRow → FactRow
refreshed mode board q r = fact_row_with (truth_at_ends board (leads_by mode q r.ends.items)) r

abbrev is_news_at : Mode → Board → ℕ → FactRow → Bool
is_news_at mode board q r = is_news (truth_at_ends board (leads_by mode q r.ends.items)) r

module _ (mode : Mode) (board : Board) (rows next : List (ℕ × FactRow)) (before : List NameId) (fact : NameId) (news : Bool)
    (here : fact_row_at next fact.0 ≡ option_map (refreshed mode board fact.0) (fact_row_at rows fact.0))
    (others : (q : ℕ) → nat_eq fact.0 q ≡ false → fact_row_at next q ≡ fact_row_at rows q)
    (news_is : news ≡ option_map_or (is_news_at mode board fact.0) (fact_row_at rows fact.0) false)
    (marks : (q : ℕ) → times_among before q ≡ count_if (is_changed (fact_row_at rows q))) where
  abbrev pub after_one : List NameId
  after_one = cond news (before ++ fact ∷ []) before

  same_else : (q : ℕ) → nat_eq fact.0 q ≡ false → fact_row_in next q ≡ fact_row_in rows q
  same_else q e = ap (option_map seen_fact) (others q e)

  new_at : (o : Option FactRow) → fact_row_at rows fact.0 ≡ o → fact_row_in next fact.0 ≡ option_map seen_fact (option_map (refreshed mode board fact.0) o)
  new_at o e = ap (option_map seen_fact) (here ∙ ap (option_map (refreshed mode board fact.0)) e)

  old_at : (o : Option FactRow) → fact_row_at rows fact.0 ≡ o → fact_row_in rows fact.0 ≡ option_map seen_fact o
  old_at o e = ap (option_map seen_fact) e

  same_one : (o : Option FactRow) → fact_row_at rows fact.0 ≡ o → option_map without_truth (fact_row_in next fact.0) ≡ option_map without_truth (fact_row_in rows fact.0)
  same_one o e = ap (option_map without_truth) (new_at o e) ∙ go o ∙ sym (ap (option_map without_truth) (old_at o e)) where
    go : (o : Option FactRow) → option_map without_truth (option_map seen_fact (option_map (refreshed mode board fact.0) o)) ≡ option_map without_truth (option_map seen_fact o)
    go None = refl
    go (Some r) = refl

  seen_one : (o : Option FactRow) → fact_row_at rows fact.0 ≡ o → is_some (fact_row_in next fact.0) ≡ true → truth_or_unknown (fact_row_in next fact.0) ≡ truth_at_ends board (leads_by mode fact.0 (ends_or_none (fact_row_in next fact.0)))
  seen_one o e some = subst (λ (f : Option Fact). is_some f ≡ true → truth_or_unknown f ≡ truth_at_ends board (leads_by mode fact.0 (ends_or_none f))) (sym (new_at o e)) (go o) some where
    go : (o : Option FactRow) → is_some (option_map seen_fact (option_map (refreshed mode board fact.0) o)) ≡ true → truth_or_unknown (option_map seen_fact (option_map (refreshed mode board fact.0) o)) ≡ truth_at_ends board (leads_by mode fact.0 (ends_or_none (option_map seen_fact (option_map (refreshed mode board fact.0) o))))
    go None h = let wrong : false ≡ true = h in absurd (cc)
    go (Some r) h = refl

  after_at : (q : ℕ) → has_end_of_fact after_one q ≡ (has_end_of_fact before q || (news && nat_eq fact.0 q))
  after_at q = go news where
    go : (b : Bool) → has_end_of_fact (cond b (before ++ fact ∷ []) before) q ≡ (has_end_of_fact before q || (b && nat_eq fact.0 q))
    go true = list_any-append (λ (id : NameId). nat_eq id.0 q) before (fact ∷ []) ∙ ap (λ (b : Bool). has_end_of_fact before q || b) (or-false (nat_eq fact.0 q))
    go false = sym (or-false (has_end_of_fact before q))

  changed_one : (o : Option FactRow) → fact_row_at rows fact.0 ≡ o → has_end_of_fact after_one fact.0 ≡ (has_end_of_fact before fact.0 || truth_differs (truth_or_unknown (fact_row_in rows fact.0)) (truth_or_unknown (fact_row_in next fact.0)))
  changed_one o e =
      after_at fact.0
      ∙ ap (λ (b : Bool). has_end_of_fact before fact.0 || (news && b)) (nat_same fact.0)
      ∙ ap (λ (b : Bool). b || (news && true)) (changes_is rows before marks fact.0 ∙ ap is_changed e)
      ∙ ap (λ (b : Bool). is_changed o || (b && true)) (news_is ∙ ap (λ (p : Option FactRow). option_map_or (is_news_at mode board fact.0) p false) e)
      ∙ go o
      ∙ ap (λ (b : Bool). b || truth_differs (truth_or_unknown (option_map seen_fact o)) (truth_or_unknown (option_map seen_fact (option_map (refreshed mode board fact.0) o)))) (sym (changes_is rows before marks fact.0 ∙ ap is_changed e))
      ∙ ap (λ (f : Option Fact). has_end_of_fact before fact.0 || truth_differs (truth_or_unknown f) (truth_or_unknown (option_map seen_fact (option_map (refreshed mode board fact.0) o)))) (sym (old_at o e))
      ∙ ap (λ (f : Option Fact). has_end_of_fact before fact.0 || truth_differs (truth_or_unknown (fact_row_in rows fact.0)) (truth_or_unknown f)) (sym (new_at o e)) where
        bools : (m s : Bool) → (m || ((not s && not m) && true)) ≡ (m || not s)
        bools true true = refl
        bools true false = refl
        bools false true = refl
        bools false false = refl

        go : (o : Option FactRow) → (is_changed o || (option_map_or (is_news_at mode board fact.0) o false && true)) ≡ (is_changed o || truth_differs (truth_or_unknown (option_map seen_fact o)) (truth_or_unknown (option_map seen_fact (option_map (refreshed mode board fact.0) o))))
        go None = refl
        go (Some r) = bools r.changed (same_truth r.truth (truth_at_ends board (leads_by mode fact.0 r.ends.items)))

  pub refreshed_one : (after : List NameId) → after ≡ after_one → RowsRefreshed rows next before after (nat_eq fact.0) mode board
  refreshed_one after is = record {
    same = λ q. same_at q (nat_eq fact.0 q) refl;
    here = λ q at. subst (λ (u : ℕ). is_some (fact_row_in next u) ≡ true → truth_or_unknown (fact_row_in next u) ≡ truth_at_ends board (leads_by mode u (ends_or_none (fact_row_in next u)))) (nat_decides fact.0 q at) (seen_one (fact_row_at rows fact.0) refl);
    others = λ q e. ap truth_or_unknown (same_else q e);
    changed = λ q. ap (λ (ids : List NameId). has_end_of_fact ids q) is ∙ changed_at q (nat_eq fact.0 q) refl;
  } where
    same_at : (q : ℕ) (b : Bool) → nat_eq fact.0 q ≡ b → option_map without_truth (fact_row_in next q) ≡ option_map without_truth (fact_row_in rows q)
    same_at q true e = subst (λ (u : ℕ). option_map without_truth (fact_row_in next u) ≡ option_map without_truth (fact_row_in rows u)) (nat_decides fact.0 q e) (same_one (fact_row_at rows fact.0) refl)
    same_at q false e = ap (option_map without_truth) (same_else q e)

    nowhere : (b : Bool) → (b && false) ≡ false
    nowhere true = refl
    nowhere false = refl

    changed_at : (q : ℕ) (b : Bool) → nat_eq fact.0 q ≡ b → has_end_of_fact after_one q ≡ (has_end_of_fact before q || truth_differs (truth_or_unknown (fact_row_in rows q)) (truth_or_unknown (fact_row_in next q)))
    changed_at q true e = subst (λ (u : ℕ). has_end_of_fact after_one u ≡ (has_end_of_fact before u || truth_differs (truth_or_unknown (fact_row_in rows u)) (truth_or_unknown (fact_row_in next u)))) (nat_decides fact.0 q e) (changed_one (fact_row_at rows fact.0) refl)
    changed_at q false e =
        after_at q
        ∙ ap (λ (b : Bool). has_end_of_fact before q || (news && b)) e
        ∙ ap (λ (b : Bool). has_end_of_fact before q || b) (nowhere news ∙ sym (differs_not (truth_or_unknown (fact_row_in rows q))))
        ∙ ap (λ (f : Option Fact). has_end_of_fact before q || truth_differs (truth_or_unknown (fact_row_in rows q)) (truth_or_unknown f)) (sym (same_else q e))

  marks_one : (o : Option FactRow) → fact_row_at rows fact.0 ≡ o → count_if (is_changed o) + count_if (option_map_or (is_news_at mode board fact.0) o false) ≡ count_if (is_changed (option_map (refreshed mode board fact.0) o))
  marks_one None e = refl
  marks_one (Some r) e = bools r.changed (same_truth r.truth (truth_at_ends board (leads_by mode fact.0 r.ends.items))) where
    bools : (m s : Bool) → count_if m + count_if (not s && not m) ≡ count_if (m || not s)
    bools true true = refl
    bools true false = refl
    bools false true = refl
    bools false false = refl

  pub changes_one : (changed after : Vec NameId Global) → changed.items ≡ before → unchanged rows + length changed.items ≤ vec_capacity changed → unchanged next + count_if news ≡ unchanged rows → after.items ≡ after_one → vec_capacity after ≡ vec_capacity changed → IsChangeList next after
  changes_one changed after was room many is capacity = record {
    marks = λ q. ap (λ (ids : List NameId). times_among ids q) is ∙ marks_at q (nat_eq fact.0 q) refl;
    room = omega (arith, room, many, capacity, ap {B = ℕ} (λ (ids : List NameId). length ids) is, ap {B = ℕ} (λ (ids : List NameId). length ids) was, length_is news);
  } where
    length_is : (b : Bool) → length (cond b (before ++ fact ∷ []) before) ≡ length before + count_if b
    length_is true = length-append before (fact ∷ [])
    length_is false = omega arith

    times_is : (q : ℕ) (b : Bool) → times_among (cond b (before ++ fact ∷ []) before) q ≡ times_among before q + count_if (b && nat_eq fact.0 q)
    times_is q true = sum_by_push (λ (id : NameId). count_if (nat_eq id.0 q)) before fact
    times_is q false = omega arith

    nowhere : (b : Bool) → count_if (b && false) ≡ 0
    nowhere true = refl
    nowhere false = refl

    every : (b : Bool) → count_if (b && true) ≡ count_if b
    every true = refl
    every false = refl

    marks_at : (q : ℕ) (b : Bool) → nat_eq fact.0 q ≡ b → times_among after_one q ≡ count_if (is_changed (fact_row_at next q))
    marks_at q true e = subst (λ (u : ℕ). times_among after_one u ≡ count_if (is_changed (fact_row_at next u))) (nat_decides fact.0 q e) (
        let times : times_among after_one fact.0 ≡ times_among before fact.0 + count_if (news && nat_eq fact.0 fact.0) = times_is fact.0 news in
        let one : count_if (news && nat_eq fact.0 fact.0) ≡ count_if (option_map_or (is_news_at mode board fact.0) (fact_row_at rows fact.0) false) = ap (λ (b : Bool). count_if (news && b)) (nat_same fact.0) ∙ every news ∙ ap count_if news_is in
        let now : count_if (is_changed (fact_row_at next fact.0)) ≡ count_if (is_changed (option_map (refreshed mode board fact.0) (fact_row_at rows fact.0))) = ap (λ (o : Option FactRow). count_if (is_changed o)) here in
        omega (arith, times, one, now, marks fact.0, marks_one (fact_row_at rows fact.0) refl))
    marks_at q false e =
        let times : times_among after_one q ≡ times_among before q + count_if (news && nat_eq fact.0 q) = times_is q news in
        let none : count_if (news && nat_eq fact.0 q) ≡ 0 = ap (λ (b : Bool). count_if (news && b)) e ∙ nowhere news in
        let now : count_if (is_changed (fact_row_at next q)) ≡ count_if (is_changed (fact_row_at rows q)) = ap (λ (o : Option FactRow). count_if (is_changed o)) (others q e) in
        omega (arith, times, none, now, marks q)

-- ---- several

pub refreshed_none : (mode : Mode) (board : Board) (rows : List (ℕ × FactRow)) (before : List NameId) (which : ℕ → Bool) → ((q : ℕ) → which q ≡ false) → RowsRefreshed rows rows before before which mode board
refreshed_none mode board rows before which none = record {
  same = λ q. refl;
  here = λ q at. absurd (let wrong : false ≡ true = sym (none q) ∙ at in cc);
  others = λ q e. refl;
  changed = λ q. sym (ap (λ (b : Bool). has_end_of_fact before q || b) (differs_not (truth_or_unknown (fact_row_in rows q))) ∙ or-false (has_end_of_fact before q));
}

pub refreshed_where : (mode : Mode) (board : Board) (rows next : List (ℕ × FactRow)) (before after : List NameId) (which other : ℕ → Bool) → ((q : ℕ) → other q ≡ which q) → RowsRefreshed rows next before after which mode board → RowsRefreshed rows next before after other mode board
refreshed_where mode board rows next before after which other same r = record {
  same = r.same;
  here = λ q at. r.here q (sym (same q) ∙ at);
  others = λ q at. r.others q (sym (same q) ∙ at);
  changed = r.changed;
}

module _ (mode : Mode) (board : Board) (first now next : List (ℕ × FactRow)) (before between after : List NameId) (so_far more : ℕ → Bool) (h : RowsRefreshed first now before between so_far mode board) (k : RowsRefreshed now next between after more mode board) where
  leads_same : (q : ℕ) → leads_by mode q (ends_or_none (fact_row_in next q)) ≡ leads_by mode q (ends_or_none (fact_row_in now q))
  leads_same q = ap (leads_by mode q) (sym (ends_without_truth (fact_row_in next q)) ∙ ap ends_or_none (k.same q) ∙ ends_without_truth (fact_row_in now q))

  there_same : (q : ℕ) → is_some (fact_row_in next q) ≡ is_some (fact_row_in now q)
  there_same q = sym (there_without_truth (fact_row_in next q)) ∙ ap is_some (k.same q) ∙ there_without_truth (fact_row_in now q)

  here_both : (q : ℕ) (b : Bool) → more q ≡ b → (so_far q || more q) ≡ true → is_some (fact_row_in next q) ≡ true → truth_or_unknown (fact_row_in next q) ≡ truth_at_ends board (leads_by mode q (ends_or_none (fact_row_in next q)))
  here_both q true e at some = k.here q e some
  here_both q false e at some =
      let was : so_far q ≡ true = sym (or-false (so_far q)) ∙ ap (λ (b : Bool). so_far q || b) (sym e) ∙ at in
      k.others q e ∙ h.here q was (sym (there_same q) ∙ some) ∙ ap (truth_at_ends board) (sym (leads_same q))

  nobody : (f g : Option Fact) → is_some f ≡ false → is_some g ≡ is_some f → truth_or_unknown g ≡ truth_or_unknown f
  nobody None None h k = refl
  nobody None (Some y) h k = let wrong : true ≡ false = k in absurd (cc)
  nobody (Some x) g h k = let wrong : true ≡ false = h in absurd (cc)

  -- a fact whose truth was computed before has the same truth now
  still : (q : ℕ) (m : Bool) → more q ≡ m → so_far q ≡ true → truth_or_unknown (fact_row_in next q) ≡ truth_or_unknown (fact_row_in now q)
  still q false m e = k.others q m
  still q true m e = go (is_some (fact_row_in now q)) refl where
    go : (b : Bool) → is_some (fact_row_in now q) ≡ b → truth_or_unknown (fact_row_in next q) ≡ truth_or_unknown (fact_row_in now q)
    go true s = k.here q m (there_same q ∙ s) ∙ ap (truth_at_ends board) (leads_same q) ∙ sym (h.here q e s)
    go false s = nobody (fact_row_in now q) (fact_row_in next q) s (there_same q)

  changed_both : (q : ℕ) (b : Bool) → so_far q ≡ b → has_end_of_fact after q ≡ (has_end_of_fact before q || truth_differs (truth_or_unknown (fact_row_in first q)) (truth_or_unknown (fact_row_in next q)))
  changed_both q true e =
      let is = still q (more q) refl e in
      k.changed q
      ∙ ap (λ (t : Truth). has_end_of_fact between q || truth_differs (truth_or_unknown (fact_row_in now q)) t) is
      ∙ ap (λ (b : Bool). has_end_of_fact between q || b) (differs_not (truth_or_unknown (fact_row_in now q)))
      ∙ or-false (has_end_of_fact between q)
      ∙ h.changed q
      ∙ ap (λ (t : Truth). has_end_of_fact before q || truth_differs (truth_or_unknown (fact_row_in first q)) t) (sym is)
  changed_both q false e =
      let is = h.others q e in
      k.changed q
      ∙ ap (λ (b : Bool). b || truth_differs (truth_or_unknown (fact_row_in now q)) (truth_or_unknown (fact_row_in next q))) (
      h.changed q
      ∙ ap (λ (t : Truth). has_end_of_fact before q || truth_differs (truth_or_unknown (fact_row_in first q)) t) is
      ∙ ap (λ (b : Bool). has_end_of_fact before q || b) (differs_not (truth_or_unknown (fact_row_in first q)))
      ∙ or-false (has_end_of_fact before q))
      ∙ ap (λ (t : Truth). has_end_of_fact before q || truth_differs t (truth_or_unknown (fact_row_in next q))) is

  pub refreshed_again : RowsRefreshed first next before after (λ q. so_far q || more q) mode board
  refreshed_again = record {
    same = λ q. k.same q ∙ h.same q;
    here = λ q at. here_both q (more q) refl at;
    others = λ q at. k.others q (second (so_far q) (more q) at) ∙ h.others q (one (so_far q) (more q) at);
    changed = λ q. changed_both q (so_far q) refl;
  } where
    one : (a b : Bool) → (a || b) ≡ false → a ≡ false
    one true b h = h
    one false b h = refl

    second : (a b : Bool) → (a || b) ≡ false → b ≡ false
    second true b h = let wrong : true ≡ false = h in absurd (cc)
    second false b h = h

-- ---- a table

users_without_truth : (o : Option Fact) → users_or_none (option_map without_truth o) ≡ users_or_none o
users_without_truth None = refl
users_without_truth (Some f) = refl

room_without_truth : (o : Option Fact) → room_or_none (option_map without_truth o) ≡ room_or_none o
room_without_truth None = refl
room_without_truth (Some f) = refl

pub refreshed_table : (mode : Mode) (board : Board) (rows next : List (ℕ × FactRow)) (by_end : List (ℕ × Vec NameId Global)) (before after : List NameId) (which : ℕ → Bool) → RowsRefreshed rows next before after which mode board
    → Refreshed (record { rows = rows; by_end = by_end; changed = before }) (record { rows = next; by_end = by_end; changed = after }) which mode board
refreshed_table mode board rows next by_end before after which r = record {
  same = record {
    there = λ q. sym (there_without_truth (fact_row_in next q)) ∙ ap is_some (r.same q) ∙ there_without_truth (fact_row_in rows q);
    ends = λ q. sym (ends_without_truth (fact_row_in next q)) ∙ ap ends_or_none (r.same q) ∙ ends_without_truth (fact_row_in rows q);
    users = λ q. sym (users_without_truth (fact_row_in next q)) ∙ ap users_or_none (r.same q) ∙ users_without_truth (fact_row_in rows q);
    facts = λ e. refl;
  };
  room = λ q. sym (room_without_truth (fact_row_in next q)) ∙ ap room_or_none (r.same q) ∙ room_without_truth (fact_row_in rows q);
  here = r.here;
  others = r.others;
  changed = r.changed;
}
