-- Lemmas: the results that are kept by tickets, and how contracts see them after each change.
use Rattle.std.proofs.Common.{◌≡◌, ℕ, ◌+◌, ◌<◌, ◌||◌, Bool, true, false, not, cond, List, [], ◌∷◌, ◌++◌, map, find, is_some, refl, sym, ap, subst, ◌∙◌, arith}
use Rattle.std.specs.Prelude.{IfOk, OnOk, Option, Some, None, Result, Ok, Err}
use Rattle.std.specs.List.{AllByRecursion, filter, list_any}
use Rattle.std.specs.Map.{lookup}
use Rattle.std.specs.Option.{option_map_or}
use Rattle.cpe_rows.specs.Rows.{has_key, same_key}
use Rattle.cpe_rows.specs.After.{with_check, without_first}
use Rattle.cpe_rows.specs.declared.test.CheckKey.{CheckKey}
use Rattle.cpe_rows.specs.declared.truth.Truth.{Truth}
use Rattle.cpe_rows.specs.declared.truth.Truth.TheVariants.{Unknown}
use Rattle.cpe_rows.proofs.KeyTests.{key_is, other_key}
use Rattle.ticket_list.specs.Rising.{IsRisingBy}
use Rattle.ticket_list.specs.TicketList.{has_ticket, with_change, without_ticket}
use Rattle.check_results.specs.Kept.{kept_truth}
use Rattle.check_results.specs.Results.{AreLawfulResults, ChecksNow, IsReadyCheck, is_for, one_or_none, retold, seen, result_ticket, result_tickets}
use Rattle.check_results.specs.declared.kept.ResultRow.{ResultRow}
use Rattle.check_results.specs.declared.ready_result.ReadyResult.{ReadyResult}
use Rattle.check_results.proofs.TicketLemmas.{changed_by, first_left, found_by, left_by, none_changed, none_pass, some_pass}

-- ---- the result of a key in the list that contracts see

abbrev truth_in : Option ResultRow → Truth
truth_in o = option_map_or (λ r. r.truth) o Unknown

module _ (k : CheckKey) where
  any_seen : (rs : List ResultRow) → list_any (has_key k) (map seen rs) ≡ list_any (is_for k) rs
  any_seen [] = refl
  any_seen (r ∷ rs) = ap (λ (b : Bool). is_for k r || b) (any_seen rs)

  truth_seen : (rs : List ResultRow) → truth_in (find (is_for k) rs) ≡ kept_truth (map seen rs) k
  truth_seen [] = refl
  truth_seen (r ∷ rs) = go (is_for k r) (truth_seen rs) where
    go : (b : Bool) → truth_in (find (is_for k) rs) ≡ kept_truth (map seen rs) k
        → truth_in (cond b (Some r) (find (is_for k) rs)) ≡ option_map_or (λ c. c.1) (cond b (Some (seen r)) (find (has_key k) (map seen rs))) Unknown
    go true more = refl
    go false more = more

  left_seen : (rs : List ResultRow) → map seen (without_first (is_for k) rs) ≡ without_first (has_key k) (map seen rs)
  left_seen [] = refl
  left_seen (r ∷ rs) = go (is_for k r) (left_seen rs) where
    go : (b : Bool) → map seen (without_first (is_for k) rs) ≡ without_first (has_key k) (map seen rs)
        → map seen (cond b rs (r ∷ without_first (is_for k) rs)) ≡ cond b (map seen rs) (seen r ∷ without_first (has_key k) (map seen rs))
    go true more = refl
    go false more = ap (λ cs. seen r ∷ cs) more

  none_left : (rs : List ResultRow) → AllByRecursion (λ r. is_for k r ≡ false) rs → map seen rs ≡ without_first (has_key k) (map seen rs)
  none_left [] h = refl
  none_left (r ∷ rs) h = λ i. cond (sym h.0 i) (map seen rs) (seen r ∷ none_left rs h.1 i)

  module _ (t : Truth) where
    abbrev retold_here : ResultRow → ResultRow
    retold_here r = cond (is_for k r) (retold t r) r

    changed_seen : (n : ℕ) (rs : List ResultRow) → result_tickets (is_for k) rs ≡ n ∷ [] → map seen (map retold_here rs) ≡ with_check k t (map seen rs)
    changed_seen n [] h = absurd (cc)
    changed_seen n (r ∷ rs) h = go (is_for k r) h (changed_seen n rs) where
      go : (b : Bool) → map result_ticket (cond b (r ∷ filter (is_for k) rs) (filter (is_for k) rs)) ≡ n ∷ []
          → (result_tickets (is_for k) rs ≡ n ∷ [] → map seen (map retold_here rs) ≡ with_check k t (map seen rs))
          → seen (cond b (retold t r) r) ∷ map seen (map retold_here rs) ≡ cond b ((r.key, t) ∷ map seen rs) (seen r ∷ with_check k t (map seen rs))
      go true h more =
          let none : result_tickets (is_for k) rs ≡ [] = cc h in
          ap (λ (us : List ResultRow). (r.key, t) ∷ map seen us) (none_changed result_ticket (is_for k) (retold t) rs (none_pass result_ticket (is_for k) rs none))
      go false h more = ap (λ cs. seen r ∷ cs) (more h)

    new_seen : (rs : List ResultRow) → AllByRecursion (λ r. is_for k r ≡ false) rs → with_check k t (map seen rs) ≡ map seen rs ++ (k, t) ∷ []
    new_seen [] h = refl
    new_seen (r ∷ rs) h = λ i. cond (h.0 i) ((r.key, t) ∷ map seen rs) (seen r ∷ new_seen rs h.1 i)

-- ---- the result of a ticket

module _ (rs : List ResultRow) (es : List (CheckKey × ℕ)) (n : ℕ) (h : AreLawfulResults rs es n) (k : CheckKey) where
  pub has_by_key : is_some (lookup (same_key k) es) ≡ list_any (has_key k) (map seen rs)
  has_by_key = some_pass result_ticket (is_for k) (lookup (same_key k) es) rs (h.found k) ∙ sym (any_seen k rs)

  -- a key without a ticket has no result
  pub none_kept : lookup (same_key k) es ≡ None → list_any (has_key k) (map seen rs) ≡ false
  none_kept e = sym has_by_key ∙ ap (λ (o : Option ℕ). is_some o) e

  one_of : (t : ℕ) → lookup (same_key k) es ≡ Some t → result_tickets (is_for k) rs ≡ t ∷ []
  one_of t e = sym (h.found k) ∙ ap one_or_none e

  none_of : lookup (same_key k) es ≡ None → AllByRecursion (λ r. is_for k r ≡ false) rs
  none_of e = none_pass result_ticket (is_for k) rs (sym (h.found k) ∙ ap one_or_none e)

  pub truth_by_ticket : (t : ℕ) → IsRisingBy result_ticket rs → lookup (same_key k) es ≡ Some t → truth_in (find (has_ticket result_ticket t) rs) ≡ kept_truth (map seen rs) k
  truth_by_ticket t rising e = ap truth_in (found_by result_ticket (is_for k) t rs rising (one_of t e)) ∙ truth_seen k rs

  no_truth : (rs : List ResultRow) → AllByRecursion (λ r. is_for k r ≡ false) rs → Unknown ≡ kept_truth (map seen rs) k
  no_truth [] h = refl
  no_truth (r ∷ rs) h = no_truth rs h.1 ∙ ap (λ (b : Bool). option_map_or (λ c. c.1) (cond b (Some (seen r)) (find (has_key k) (map seen rs))) Unknown) (sym h.0)

  pub truth_unknown : lookup (same_key k) es ≡ None → Unknown ≡ kept_truth (map seen rs) k
  truth_unknown e = no_truth rs (none_of e)

  pub set_by_ticket : (truth : Truth) (t : ℕ) → IsRisingBy result_ticket rs → lookup (same_key k) es ≡ Some t
      → map seen (with_change result_ticket t (retold truth) rs) ≡ with_check k truth (map seen rs)
  set_by_ticket truth t rising e =
      ap (λ (us : List ResultRow). map seen us) (changed_by result_ticket (is_for k) t rs rising (one_of t e) (retold truth)) ∙ changed_seen k truth t rs (one_of t e)

  pub set_last : (truth : Truth) → lookup (same_key k) es ≡ None → map seen rs ++ (k, truth) ∷ [] ≡ with_check k truth (map seen rs)
  set_last truth e = sym (new_seen k truth rs (none_of e))

  pub left_by_ticket : (t : ℕ) → IsRisingBy result_ticket rs → lookup (same_key k) es ≡ Some t
      → map seen (without_ticket result_ticket t rs) ≡ without_first (has_key k) (map seen rs)
  left_by_ticket t rising e =
      ap (λ (us : List ResultRow). map seen us) (left_by result_ticket (is_for k) t rs rising (one_of t e) ∙ first_left result_ticket (is_for k) t rs (one_of t e)) ∙ left_seen k rs

  pub left_whole : lookup (same_key k) es ≡ None → map seen rs ≡ without_first (has_key k) (map seen rs)
  left_whole e = none_left k rs (none_of e)

-- ---- a change of a truth

module _ (truth : Truth) (t : ℕ) where
  all_below : (n : ℕ) (rs : List ResultRow) → AllByRecursion (λ r. result_ticket r < n) rs → AllByRecursion (λ r. result_ticket r < n) (with_change result_ticket t (retold truth) rs)
  all_below n [] h = tt
  all_below n (r ∷ rs) h = (go (has_ticket result_ticket t r), all_below n rs h.1) where
    go : (b : Bool) → result_ticket (cond b (retold truth r) r) < n
    go true = h.0
    go false = h.0

  cons_both : (b : Bool) (x y : ResultRow) (xs ys : List ResultRow) → result_ticket x ≡ result_ticket y → map result_ticket xs ≡ map result_ticket ys
      → map result_ticket (cond b (x ∷ xs) xs) ≡ map result_ticket (cond b (y ∷ ys) ys)
  cons_both true x y xs ys e more = λ i. e i ∷ more i
  cons_both false x y xs ys e more = more

  tickets_changed : (q : CheckKey) (rs : List ResultRow) → result_tickets (is_for q) rs ≡ result_tickets (is_for q) (with_change result_ticket t (retold truth) rs)
  tickets_changed q [] = refl
  tickets_changed q (r ∷ rs) = go (has_ticket result_ticket t r) (tickets_changed q rs) where
    rest : List ResultRow
    rest = with_change result_ticket t (retold truth) rs

    go : (b : Bool) → result_tickets (is_for q) rs ≡ result_tickets (is_for q) rest → result_tickets (is_for q) (r ∷ rs) ≡ result_tickets (is_for q) (cond b (retold truth r) r ∷ rest)
    go true more = cons_both (is_for q r) r (retold truth r) (filter (is_for q) rs) (filter (is_for q) rest) refl more
    go false more = cons_both (is_for q r) r r (filter (is_for q) rs) (filter (is_for q) rest) refl more

  pub AreKept-changed : (rs : List ResultRow) (es : List (CheckKey × ℕ)) (n : ℕ) → AreLawfulResults rs es n → AreLawfulResults (with_change result_ticket t (retold truth) rs) es n
  AreKept-changed rs es n h = record {
    below = all_below n rs h.below;
    found = λ q. h.found q ∙ tickets_changed q rs;
  }

-- ---- a result that is removed

all_filtered : (P : ResultRow → Type 0) (p : ResultRow → Bool) (rs : List ResultRow) → AllByRecursion P rs → AllByRecursion P (filter p rs)
all_filtered P p [] h = tt
all_filtered P p (r ∷ rs) h = go (p r) (all_filtered P p rs h.1) where
  go : (b : Bool) → AllByRecursion P (filter p rs) → AllByRecursion P (cond b (r ∷ filter p rs) (filter p rs))
  go true more = (h.0, more)
  go false more = more

module _ (k : CheckKey) where
  abbrev others : List ResultRow → List ResultRow
  others rs = filter (λ r. not (is_for k r)) rs

  own_gone : (rs : List ResultRow) → [] ≡ result_tickets (is_for k) (others rs)
  own_gone [] = refl
  own_gone (r ∷ rs) = go (is_for k r) refl (own_gone rs) where
    go : (b : Bool) → is_for k r ≡ b → [] ≡ result_tickets (is_for k) (others rs) → [] ≡ result_tickets (is_for k) (cond (not b) (r ∷ others rs) (others rs))
    go true e more = more
    go false e more = more ∙ ap (λ (b : Bool). map result_ticket (cond b (r ∷ filter (is_for k) (others rs)) (filter (is_for k) (others rs)))) (sym e)

  others_stay : (q : CheckKey) → same_key k q ≡ false → (rs : List ResultRow) → result_tickets (is_for q) rs ≡ result_tickets (is_for q) (others rs)
  others_stay q apart [] = refl
  others_stay q apart (r ∷ rs) = go (is_for k r) refl (others_stay q apart rs) where
    stays : (b : Bool) → result_tickets (is_for q) rs ≡ result_tickets (is_for q) (others rs)
        → map result_ticket (cond b (r ∷ filter (is_for q) rs) (filter (is_for q) rs)) ≡ map result_ticket (cond b (r ∷ filter (is_for q) (others rs)) (filter (is_for q) (others rs)))
    stays true more = ap (λ (u : List ℕ). result_ticket r ∷ u) more
    stays false more = more

    go : (b : Bool) → is_for k r ≡ b → result_tickets (is_for q) rs ≡ result_tickets (is_for q) (others rs)
        → result_tickets (is_for q) (r ∷ rs) ≡ result_tickets (is_for q) (cond (not b) (r ∷ others rs) (others rs))
    go true e more =
        let not_q : is_for q r ≡ false = ap (same_key q) (sym (key_is k r.key e)) ∙ other_key k q apart in
        ap (λ (b : Bool). map result_ticket (cond b (r ∷ filter (is_for q) rs) (filter (is_for q) rs))) not_q ∙ more
    go false e more = stays (is_for q r) more

  module _ (rs : List ResultRow) (es next_es : List (CheckKey × ℕ)) (n : ℕ) (h : AreLawfulResults rs es n)
      (left : (q : CheckKey) → lookup (same_key q) next_es ≡ cond (same_key k q) None (lookup (same_key q) es)) where
    gone : (q : CheckKey) (b : Bool) → same_key k q ≡ b → one_or_none (cond b None (lookup (same_key q) es)) ≡ result_tickets (is_for q) (others rs)
    gone q true e = subst (λ (q : CheckKey). [] ≡ result_tickets (is_for q) (others rs)) (key_is k q e) (own_gone rs)
    gone q false e = h.found q ∙ others_stay q e rs

    pub AreKept-left : (t : ℕ) → IsRisingBy result_ticket rs → lookup (same_key k) es ≡ Some t → AreLawfulResults (without_ticket result_ticket t rs) next_es n
    AreKept-left t rising e = record {
      below = all_filtered (λ r. result_ticket r < n) (λ r. not (has_ticket result_ticket t r)) rs h.below;
      found = λ q. ap one_or_none (left q) ∙ (gone q (same_key k q) refl
          ∙ ap (λ (us : List ResultRow). result_tickets (is_for q) us) (sym (left_by result_ticket (is_for k) t rs rising (one_of rs es n h k t e))));
    }

-- ---- a new result

module _ (p : ResultRow → Bool) (r : ResultRow) where
  last_fails : p r ≡ false → (rs : List ResultRow) → result_tickets p rs ≡ result_tickets p (rs ++ r ∷ [])
  last_fails e [] = ap (λ (b : Bool). map result_ticket (cond b (r ∷ []) [])) (sym e)
  last_fails e (x ∷ rs) = go (p x) (last_fails e rs) where
    go : (b : Bool) → result_tickets p rs ≡ result_tickets p (rs ++ r ∷ [])
        → map result_ticket (cond b (x ∷ filter p rs) (filter p rs)) ≡ map result_ticket (cond b (x ∷ filter p (rs ++ r ∷ [])) (filter p (rs ++ r ∷ [])))
    go true more = ap (λ (u : List ℕ). result_ticket x ∷ u) more
    go false more = more

  last_passes : p r ≡ true → (rs : List ResultRow) → result_tickets p rs ≡ [] → result_ticket r ∷ [] ≡ result_tickets p (rs ++ r ∷ [])
  last_passes e [] h = ap (λ (b : Bool). map result_ticket (cond b (r ∷ []) [])) (sym e)
  last_passes e (x ∷ rs) h = go (p x) h (last_passes e rs) where
    go : (b : Bool) → map result_ticket (cond b (x ∷ filter p rs) (filter p rs)) ≡ [] → (result_tickets p rs ≡ [] → result_ticket r ∷ [] ≡ result_tickets p (rs ++ r ∷ []))
        → result_ticket r ∷ [] ≡ map result_ticket (cond b (x ∷ filter p (rs ++ r ∷ [])) (filter p (rs ++ r ∷ [])))
    go true h more = absurd (cc)
    go false h more = more h

all_last : (n : ℕ) (rs : List ResultRow) (r : ResultRow) → AllByRecursion (λ x. result_ticket x < n) rs → result_ticket r ≡ n → AllByRecursion (λ x. result_ticket x < n + 1) (rs ++ r ∷ [])
all_last n [] r h e = (omega (arith, e), tt)
all_last n (x ∷ rs) r h e = let lt : result_ticket x < n = h.0 in (omega (arith, lt), all_last n rs r h.1 e)

module _ (rs : List ResultRow) (es next_es : List (CheckKey × ℕ)) (r : ResultRow) (h : AreLawfulResults rs es r.ticket) (new : lookup (same_key r.key) es ≡ None)
    (put : (q : CheckKey) → lookup (same_key q) next_es ≡ cond (same_key r.key q) (Some r.ticket) (lookup (same_key q) es)) where
  entered : (q : CheckKey) (b : Bool) → same_key r.key q ≡ b → one_or_none (cond b (Some r.ticket) (lookup (same_key q) es)) ≡ result_tickets (is_for q) (rs ++ r ∷ [])
  entered q true e =
      let same = key_is r.key q e in
      let own : same_key q r.key ≡ true = (λ i. same_key (sym same i) (same i)) ∙ e in
      let none : result_tickets (is_for q) rs ≡ [] = subst (λ (k : CheckKey). result_tickets (is_for k) rs ≡ []) same (sym (h.found r.key) ∙ ap one_or_none new) in
      last_passes (is_for q) r own rs none
  entered q false e = h.found q ∙ last_fails (is_for q) r (other_key r.key q e) rs

  pub AreKept-put : AreLawfulResults (rs ++ r ∷ []) next_es (r.ticket + 1)
  AreKept-put = record {
    below = all_last r.ticket rs r h.below refl;
    found = λ q. ap one_or_none (put q) ∙ entered q (same_key r.key q) refl;
  }

-- the results are kept in the same way if there is more room
pub AreKept-same : (rs next : List ResultRow) (es next_es : List (CheckKey × ℕ)) (n : ℕ) → AreLawfulResults rs es n → next ≡ rs
    → ((q : CheckKey) → lookup (same_key q) next_es ≡ lookup (same_key q) es) → AreLawfulResults next next_es n
AreKept-same rs next es next_es n h e same = subst (λ (us : List ResultRow). AreLawfulResults us next_es n) (sym e) (record {
  below = h.below;
  found = λ q. ap one_or_none (same q) ∙ h.found q;
})

-- ---- ready keys

-- a key that has a result needs no copy
pub ready_known : (c : ChecksNow) (k : CheckKey) → list_any (has_key k) c.list ≡ true → IsReadyCheck c k (record { key = k; copy = None })
ready_known c k there = record { key = refl; new = λ none. absurd (let wrong : true ≡ false = sym there ∙ none in cc) }

-- a new key is ready, or memory ran out
pub ready_by : {Fault : Type 0} (c : ChecksNow) (k : CheckKey) (result : Result ReadyResult Fault) → IfOk result (λ r. r.key ≡ k) → IfOk result (λ r. r.copy ≡ Some k) → OnOk result (c.ready ≡ true) → IfOk result (IsReadyCheck c k)
ready_by c k (Ok r) key copy room = record { key = key; new = λ none. (copy, room) }
ready_by c k (Err e) key copy room = tt

-- a ready key without a ticket has a copy, and there is room for its result
module _ (rs : List ResultRow) (es : List (CheckKey × ℕ)) (n : ℕ) (h : AreLawfulResults rs es n) (room : Bool) (c : ChecksNow) (list : map seen rs ≡ c.list) (ready : room ≡ c.ready)
    (k : CheckKey) (r : ReadyResult) (is : IsReadyCheck c k r) (new : lookup (same_key r.key) es ≡ None) where
  unkept : list_any (has_key k) c.list ≡ false
  unkept = sym (λ i. list_any (has_key (is.key i)) (list i)) ∙ none_kept rs es n h r.key new

  pub copied : r.copy ≡ Some r.key
  copied = (is.new unkept).0 ∙ ap (λ (q : CheckKey). Some q) (sym is.key)

  pub roomy : room ≡ true
  roomy = ready ∙ (is.new unkept).1
