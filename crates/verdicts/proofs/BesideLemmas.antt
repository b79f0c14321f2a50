-- Facts that no statement uses were added to the others.
use Rattle.std.proofs.Common.{◌≡◌, ◌≢◌, ◌≤◌, ◌<◌, ◌+◌, ℕ, zero, suc, Bool, true, false, not, cond, ◌&&◌, ◌||◌, nat_eq, List, [], ◌∷◌, ◌++◌, length, take, get_or, Option, Some, Result, Ok, Err, OnOk, refl, sym, ap, subst, ◌∙◌, inl, inr, arith, eq-eqb, eqb-true}
use Rattle.std.specs.Prelude.{is_some}
use Rattle.std.specs.List.{flat_map}
use Rattle.std.proofs.lemmas.Bool.{and_from, and_parts, or_cases, or_left, or_right, true≢false}
use Rattle.std.proofs.lemmas.List.{take_more}
use Rattle.std.proofs.lemmas.List.Folds.{list_any-append}
use Rattle.std.proofs.lemmas.List.Sums.{sum_by-cons}
use Rattle.name_index.specs.declared.table.NameId.{NameId}
use Rattle.name_index.specs.Table.{Names}
use Rattle.cpe_rows.specs.declared.entry.Entry.{Entry}
use Rattle.cpe_rows.specs.declared.statement.Mode.{Mode}
use Rattle.cpe_rows.specs.declared.statement.Mode.TheVariants.{Plain, Follow}
use Rattle.facts.specs.fact_laws.Shown.{one_if_some, times_in_list}
use Rattle.facts.specs.fact_rows.Facts.{ends_or_none, Fact, fact_at, FactTable, has_end_of_fact, is_fact, leads_by, has_fact_room, leads_of, new_fact, OthersStay, users_of}
use Rattle.facts.specs.fact_rows.Calls.{SameFacts}
use Rattle.facts.specs.ticket_list.Tickets.{is_empty}
use Rattle.facts.specs.Facts.{AreUsedBut, FactsNow, is_used, LeadsTo, table_of}
use Rattle.facts.specs.Room.{KeepsFacts, OnlyMode, RoomForUsers}
use Rattle.facts.proofs.UserLemmas.{used_fact}
use Rattle.facts.specs.fact_laws.Asked.{same_mode}
use Rattle.verdicts.specs.Addition.{AreAdded, AreReady, FreshBeside, HasAskedRoom}
use Rattle.verdicts.proofs.LastLemmas.{bit, ends_counted}

-- ---- lists of numbers

pub ends_append : (xs ys : List NameId) (q : ℕ) → has_end_of_fact (xs ++ ys) q ≡ (has_end_of_fact xs q || has_end_of_fact ys q)
ends_append xs ys q = list_any-append (λ (x : NameId). nat_eq x.0 q) xs ys

pub take_ends : (k : ℕ) (xs : List NameId) (q : ℕ) → has_end_of_fact (take k xs) q ≡ true → has_end_of_fact xs q ≡ true
take_ends zero xs q h = absurd (true≢false (sym h))
take_ends (suc k) [] q h = absurd (true≢false (sym h))
take_ends (suc k) (x ∷ xs) q h = elim (or_cases (nat_eq x.0 q) (has_end_of_fact (take k xs) q) h) [
  | inl e ↦ or_left (nat_eq x.0 q) (has_end_of_fact xs q) e
  | inr later ↦ or_right (nat_eq x.0 q) (has_end_of_fact xs q) (take_ends k xs q later)
]

pub ends_more : (xs : List NameId) (i : ℕ) (d : NameId) (q : ℕ) → i < length xs → has_end_of_fact (take (i + 1) xs) q ≡ (nat_eq (get_or xs i d).0 q || has_end_of_fact (take i xs) q)
ends_more xs i d q lt =
    ap (λ (ys : List NameId). has_end_of_fact ys q) (take_more xs i d lt) ∙ ends_append (take i xs) (get_or xs i d ∷ []) q ∙ turned (has_end_of_fact (take i xs) q) (nat_eq (get_or xs i d).0 q)
  where
    turned : (a b : Bool) → (a || (b || false)) ≡ (b || a)
    turned true true = refl
    turned true false = refl
    turned false true = refl
    turned false false = refl

times_cons : (q : ℕ) (y : NameId) (ys : List NameId) → times_in_list q (y ∷ ys) ≡ cond (nat_eq q y.0) 1 0 + times_in_list q ys
times_cons q y ys = sum_by-cons (λ (x : NameId). cond (nat_eq q x.0) 1 0) y ys

-- a number that is there once at most is not among those before it
pub once_before : (xs : List NameId) (i : ℕ) (d : NameId) → i < length xs → ((q : ℕ) → times_in_list q xs ≤ 1) → has_end_of_fact (take i xs) (get_or xs i d).0 ≡ false
once_before xs i d lt once = by (has_end_of_fact (take i xs) q) refl
  where
    q : ℕ
    q = (get_or xs i d).0

    counted : (ys : List NameId) → has_end_of_fact ys q ≡ true → 1 ≤ times_in_list q ys
    counted ys h = some (times_in_list q ys) (ends_counted q ys ∙ ap bit h)
      where
        some : (n : ℕ) → one_if_some n ≡ 1 → 1 ≤ n
        some zero e = absurd (omega (arith, e))
        some (suc n) e = omega arith

    here : (ys : List NameId) (k : ℕ) → k < length ys → (get_or ys k d).0 ≡ q → times_in_list q (take k ys) + 1 ≤ times_in_list q ys
    here [] k below is = absurd (omega (arith, below))
    here (y ∷ ys) zero below is = omega (arith, counted (y ∷ ys) (or_left (nat_eq y.0 q) (has_end_of_fact ys q) (eq-eqb y.0 q is)))
    here (y ∷ ys) (suc k) below is = omega (arith, times_cons q y (take k ys), times_cons q y ys, here ys k (omega (arith, below)) is)

    by : (b : Bool) → has_end_of_fact (take i xs) q ≡ b → has_end_of_fact (take i xs) q ≡ false
    by false e = e
    by true e = absurd (omega (arith, once q, here xs i lt refl, counted (take i xs) e))

-- ---- facts in use

pub used_wider : (f : FactsNow) (mode : Mode) (xs ys : List NameId) → ((q : ℕ) → has_end_of_fact xs q ≡ true → has_end_of_fact ys q ≡ true) → AreUsedBut f mode xs → AreUsedBut f mode ys
used_wider f mode xs ys wider used m q is = elim (or_cases (is_used (table_of f m) q) (same_mode mode m && has_end_of_fact xs q) (used m q is)) [
  | inl u ↦ or_left (is_used (table_of f m) q) (same_mode mode m && has_end_of_fact ys q) u
  | inr h ↦
      let both = and_parts (same_mode mode m) (has_end_of_fact xs q) h in
      or_right (is_used (table_of f m) q) (same_mode mode m && has_end_of_fact ys q) (and_from (same_mode mode m) (has_end_of_fact ys q) both.0 (wider q both.1))
]

-- ---- one fact after the other

pub beside_none : (f : FactsNow) (table : Names) (mode : Mode) → FreshBeside f f table mode []
beside_none f table mode = record { facts = λ rows tickets s. s; users = λ q. refl; used = λ before u. u; changed = refl }

pub beside_wider : (old new : FactsNow) (table : Names) (mode : Mode) (xs ys : List NameId) → ((q : ℕ) → has_end_of_fact xs q ≡ true → has_end_of_fact ys q ≡ true) → FreshBeside old new table mode xs → FreshBeside old new table mode ys
beside_wider old new table mode xs ys wider b = record {
  facts = b.facts;
  users = b.users;
  used = λ before u. used_wider new mode (xs ++ before) (ys ++ before) (wider_both before) (b.used before u);
  changed = b.changed;
}
  where
    wider_both : (before : List NameId) (q : ℕ) → has_end_of_fact (xs ++ before) q ≡ true → has_end_of_fact (ys ++ before) q ≡ true
    wider_both before q h = ends_append ys before q ∙ elim (or_cases (has_end_of_fact xs q) (has_end_of_fact before q) (sym (ends_append xs before q) ∙ h)) [
      | inl e ↦ or_left (has_end_of_fact ys q) (has_end_of_fact before q) (wider q e)
      | inr e ↦ or_right (has_end_of_fact ys q) (has_end_of_fact before q) e
    ]

pub beside_both : (first mid last : FactsNow) (table : Names) (mode : Mode) (xs ys : List NameId) → FreshBeside first mid table mode xs → FreshBeside mid last table mode ys → FreshBeside first last table mode (ys ++ xs)
beside_both first mid last table mode xs ys a b = record {
  facts = λ rows tickets s. b.facts rows tickets (a.facts rows tickets s);
  users = λ q. b.users q ∙ a.users q;
  used = λ before u. used_wider last mode (ys ++ (xs ++ before)) ((ys ++ xs) ++ before) (again before) (b.used (xs ++ before) (a.used before u));
  changed = b.changed ∙ a.changed;
}
  where
    again : (before : List NameId) (q : ℕ) → has_end_of_fact (ys ++ (xs ++ before)) q ≡ true → has_end_of_fact ((ys ++ xs) ++ before) q ≡ true
    again before q h =
        ends_append (ys ++ xs) before q
        ∙ ap (λ (b : Bool). b || has_end_of_fact before q) (ends_append ys xs q)
        ∙ turned (has_end_of_fact ys q) (has_end_of_fact xs q) (has_end_of_fact before q)
        ∙ sym (ends_append ys (xs ++ before) q ∙ ap (λ (b : Bool). has_end_of_fact ys q || b) (ends_append xs before q))
        ∙ h
      where
        turned : (a b c : Bool) → ((a || b) || c) ≡ (a || (b || c))
        turned true b c = refl
        turned false b c = refl

-- the first numbers and the next one
pub next_ends : (xs : List NameId) (i : ℕ) (d : NameId) → i < length xs → (q : ℕ) → has_end_of_fact ((get_or xs i d ∷ []) ++ take i xs) q ≡ true → has_end_of_fact (take (i + 1) xs) q ≡ true
next_ends xs i d lt q h = ends_more xs i d q lt ∙ h

module _ (table : Names) (entries : List Entry) (mode : Mode) where
  pub added_none : (f : FactsNow) → AreAdded f table entries mode []
  added_none f = record { there = λ q h. absurd (true≢false (sym h)); leads_there = λ q h. absurd (true≢false (sym h)) }

  pub added_more : (mid last : FactsNow) (xs : List NameId) (i : ℕ) (d : NameId) → i < length xs → has_end_of_fact (take i xs) (get_or xs i d).0 ≡ false → OthersStay (get_or xs i d).0 (table_of mid mode) (table_of last mode)
      → AreAdded mid table entries mode (take i xs) → AreAdded last table entries mode (get_or xs i d ∷ []) → AreAdded last table entries mode (take (i + 1) xs)
  added_more mid last xs i d lt apart others a b = record {
    there = λ q h. elim (or_cases (nat_eq x.0 q) (has_end_of_fact (take i xs) q) (sym (ends_more xs i d q lt) ∙ h)) [
      | inl e ↦ b.there q (or_left (nat_eq x.0 q) false e)
      | inr e ↦ ap is_some (others q (other q e)) ∙ a.there q e
    ];
    leads_there = λ q h. elim (or_cases (nat_eq x.0 q) (has_end_of_fact (take i xs) q) (sym (ends_more xs i d q lt) ∙ h)) [
      | inl e ↦ b.leads_there q (or_left (nat_eq x.0 q) false e)
      | inr e ↦ subst (λ (o : Option Fact). LeadsTo table entries mode q (leads_by mode q (ends_or_none o))) (sym (others q (other q e))) (a.leads_there q e)
    ];
  }
    where
      x : NameId
      x = get_or xs i d

      other : (q : ℕ) → has_end_of_fact (take i xs) q ≡ true → q ≢ x.0
      other q e is = true≢false (sym e ∙ ap (has_end_of_fact (take i xs)) is ∙ apart)

-- the facts that are none of the first ones are unchanged
pub others_more : (first mid last : FactTable) (xs : List NameId) (i : ℕ) (d : NameId) → i < length xs → OthersStay (get_or xs i d).0 mid last → ((q : ℕ) → has_end_of_fact (take i xs) q ≡ false → fact_at mid q ≡ fact_at first q)
    → (q : ℕ) → has_end_of_fact (take (i + 1) xs) q ≡ false → fact_at last q ≡ fact_at first q
others_more first mid last xs i d lt others before q h =
    let both = neither (nat_eq (get_or xs i d).0 q) (has_end_of_fact (take i xs) q) (sym (ends_more xs i d q lt) ∙ h) in
    others q (λ is. true≢false (sym (eq-eqb (get_or xs i d).0 q (sym is)) ∙ both.0)) ∙ before q both.1
  where
    neither : (a b : Bool) → (a || b) ≡ false → (a ≡ false) × (b ≡ false)
    neither true b e = absurd (true≢false e)
    neither false b e = (refl, e)

-- ---- one fact

pub one_added : {Done Fault : Type 0} (table : Names) (entries : List Entry) (mode : Mode) (new : FactsNow) (fact : NameId) (its_ends : List NameId) (r : Result Done Fault)
    → OnOk r (fact_at (table_of new mode) fact.0 ≡ Some (new_fact its_ends)) → LeadsTo table entries mode fact.0 (leads_by mode fact.0 its_ends) → OnOk r (AreAdded new table entries mode (fact ∷ []))
one_added table entries mode new fact its_ends (Err e) here leads = tt
one_added table entries mode new fact its_ends (Ok x) here leads = record {
  there = λ q h. subst (λ (n : ℕ). is_fact (table_of new mode) n ≡ true) (is q h) (ap is_some here);
  leads_there = λ q h. subst (λ (n : ℕ). LeadsTo table entries mode n (leads_of mode (table_of new mode) n)) (is q h) (subst (λ (ns : List NameId). LeadsTo table entries mode fact.0 (leads_by mode fact.0 ns)) (sym (ap ends_or_none here)) leads);
}
  where
    is : (q : ℕ) → (nat_eq fact.0 q || false) ≡ true → fact.0 ≡ q
    is q h = eqb-true fact.0 q (alone (nat_eq fact.0 q) h)
      where
        alone : (b : Bool) → (b || false) ≡ true → b ≡ true
        alone true e = refl
        alone false e = e

-- ---- room

facts_kept : (f g : FactsNow) (mode : Mode) → SameFacts (table_of f mode) (table_of g mode) → OnlyMode f g mode → (m : Mode) (q : ℕ) → (is_fact (table_of g m) q ≡ is_fact (table_of f m) q) × (users_of (table_of g m) q ≡ users_of (table_of f m) q)
facts_kept f g Plain same only Plain q = (same.there q, same.users q)
facts_kept f g Plain same only Follow q = (ap (λ (t : FactTable). is_fact t q) (only.other Follow (λ e. absurd cc)), ap (λ (t : FactTable). users_of t q) (only.other Follow (λ e. absurd cc)))
facts_kept f g Follow same only Plain q = (ap (λ (t : FactTable). is_fact t q) (only.other Plain (λ e. absurd cc)), ap (λ (t : FactTable). users_of t q) (only.other Plain (λ e. absurd cc)))
facts_kept f g Follow same only Follow q = (same.there q, same.users q)

used_kept : (f g : FactsNow) (mode : Mode) (xs : List NameId) → ((m : Mode) (q : ℕ) → (is_fact (table_of g m) q ≡ is_fact (table_of f m) q) × (users_of (table_of g m) q ≡ users_of (table_of f m) q)) → AreUsedBut f mode xs → AreUsedBut g mode xs
used_kept f g mode xs same used m q is =
    ap (λ (us : List ℕ). not (is_empty us) || (same_mode mode m && has_end_of_fact xs q)) (same m q).1 ∙ used m q (sym (same m q).0 ∙ is)

pub beside_users : {Done Fault : Type 0} (old mid new : FactsNow) (table : Names) (mode : Mode) (ids fresh : List NameId) (r : Result Done Fault) → FreshBeside old mid table mode fresh → RoomForUsers mid new mode ids r → FreshBeside old new table mode fresh
beside_users old mid new table mode ids fresh r b room = record {
  facts = λ rows tickets s. room.facts table rows tickets (b.facts rows tickets s);
  users = λ q. room.table.same.users q ∙ b.users q;
  used = λ before u. used_kept mid new mode (fresh ++ before) (facts_kept mid new mode room.table.same room.only) (b.used before u);
  changed = room.table.changed ∙ b.changed;
}

pub beside_room : (old mid new : FactsNow) (table : Names) (mode : Mode) (fresh : List NameId) → FreshBeside old mid table mode fresh → KeepsFacts mid new → ((m : Mode) → table_of new m ≡ table_of mid m) → FreshBeside old new table mode fresh
beside_room old mid new table mode fresh b keeps same = record {
  facts = λ rows tickets s. keeps table rows tickets (b.facts rows tickets s);
  users = λ q. ap (λ (t : FactTable). users_of t q) (same mode) ∙ b.users q;
  used = λ before u. used_kept mid new mode (fresh ++ before) (λ m q. (ap (λ (t : FactTable). is_fact t q) (same m), ap (λ (t : FactTable). users_of t q) (same m))) (b.used before u);
  changed = ap (λ (t : FactTable). t.changed) (same mode) ∙ b.changed;
}

pub is_there : (old mid : FactsNow) (table : Names) (entries : List Entry) (mode : Mode) (ids fresh : List NameId) → FreshBeside old mid table mode fresh → AreAdded mid table entries mode fresh → ((q : ℕ) → has_end_of_fact ids q ≡ true → has_end_of_fact fresh q ≡ false → is_used (table_of old mode) q ≡ true)
    → (q : ℕ) → has_end_of_fact ids q ≡ true → is_fact (table_of mid mode) q ≡ true
is_there old mid table entries mode ids fresh b a whole q at = by (has_end_of_fact fresh q) refl
  where
    by : (c : Bool) → has_end_of_fact fresh q ≡ c → is_fact (table_of mid mode) q ≡ true
    by true e = a.there q e
    by false e = used_fact (table_of mid mode) q (ap (λ (us : List ℕ). not (is_empty us)) (b.users q) ∙ whole q at e)

pub made_ready : (mid room new : FactsNow) (table : Names) (entries : List Entry) (mode : Mode) (ids fresh asked : List NameId) → SameFacts (table_of mid mode) (table_of room mode) → ((q : ℕ) → has_end_of_fact ids q ≡ true → has_fact_room (table_of room mode) q ≡ true)
    → AreAdded mid table entries mode fresh → asked ≡ flat_map (λ (x : NameId). leads_of mode (table_of mid mode) x.0) fresh → table_of new mode ≡ table_of room mode → HasAskedRoom new table mode asked → AreReady new table entries mode ids fresh asked
made_ready mid room new table entries mode ids fresh asked kept users a is same roomy = record {
  leads_there = λ q at. subst (LeadsTo table entries mode q) (leads q) (a.leads_there q at);
  asked_there = is ∙ (λ i. flat_map (λ (x : NameId). leads x.0 i) fresh);
  room_users = λ q at. ap (λ (t : FactTable). has_fact_room t q) same ∙ users q at;
  room = roomy;
}
  where
    leads : (q : ℕ) → leads_of mode (table_of mid mode) q ≡ leads_of mode (table_of new mode) q
    leads q = ap (leads_by mode q) (sym (kept.ends q)) ∙ ap (λ (t : FactTable). leads_of mode t q) (sym same)
