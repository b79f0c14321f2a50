-- Facts after a statement was added.
use Rattle.std.proofs.Common.{◌≡◌, ℕ, ◌+◌, ◌<◌, ◌≤◌, Bool, true, false, not, cond, ◌&&◌, ◌||◌, nat_eq, List, [], ◌∷◌, ◌++◌, length, Option, refl, sym, ap, subst, ◌∙◌, inl, inr, eq-eqb, eqb-true, arith}
use Rattle.std.specs.List.{AllByRecursion, list_any, flat_map, sum_by}
use Rattle.std.proofs.lemmas.Bool.{both_ways, cases_Bool, true≢false}
use Rattle.std.proofs.lemmas.List.{append-nil}
use Rattle.cpe_rows.specs.cpe_name.Eleven.{Values}
use Rattle.name_index.specs.Elements.{SameElements}
use Rattle.name_index.specs.declared.products.Side.TheVariants as side
use Rattle.name_index.specs.declared.table.NameId.{NameId}
use Rattle.name_index.specs.Table.{IsNameTable, IsLive, Names, kept_at}
use Rattle.fact_boards.specs.level_board.Board.{AreAnswers, ProbesAreMarks, Board, FitsBoard, is_probe_marked, KeepsLevels}
use Rattle.cpe_rows.specs.After.{after}
use Rattle.cpe_rows.specs.FactNames.{fact_names}
use Rattle.cpe_rows.specs.Names.{is_same}
use Rattle.cpe_rows.specs.Rows.{Rows}
use Rattle.cpe_rows.specs.declared.edit.Edit.TheVariants as edit
use Rattle.cpe_rows.specs.declared.statement.Mode.{Mode}
use Rattle.cpe_rows.specs.declared.statement.Mode.TheVariants.{Plain, Follow}
use Rattle.cpe_rows.specs.declared.statement.Statement.{Statement}
use Rattle.fact_laws.specs.Shown.{different, names_at, near_names}
use Rattle.fact_laws.proofs.Shown.{live_is, other_names, other_number, same_names}
use Rattle.fact_laws.specs.Asked.{fresh_facts, leads, references_of, refers_to, same_mode, target_names}
use Rattle.fact_laws.proofs.Counted.{fewer_fresh, same_test}
use Rattle.fact_laws.proofs.Names.{sum_flat}
use Rattle.fact_rows.proofs.RefreshLemmas.{differs_not}
use Rattle.facts.specs.Looks.{statement_looks}
use Rattle.fact_boards.specs.Kept.{AreFactNames, board_of_mode, looks_by, ShowsRows}
use Rattle.fact_rows.specs.Facts.{truth_differs, Fact, fact_at, FactTable, has_end_of_fact, leads_by, leads_of, truth_of_fact, truth_or_unknown, users_of, users_or_none}
use Rattle.fact_rows.specs.Calls.{Refreshed}
use Rattle.fact_rows.specs.ticket_list.Tickets.{ends_with, is_empty, with_last}
use Rattle.fact_rows.specs.ticket_list.Rising.{IsRising}
use Rattle.facts.specs.Facts.{AreChanges, FactsBut, FactsNow, HasFacts, is_touched, is_used, LeadsTo, table_of}
use Rattle.facts.specs.Calls.{UsersAdded}
use Rattle.facts.specs.Users.{AreBelow, AreTickets, users_in}
use Rattle.facts.proofs.MoveLemmas.{linked_still, moved, not_marked, refreshed}

-- ---- tickets

pub users_more : (mode : Mode) (n : Values) (tickets : List ℕ) (t : ℕ) (statements : List Statement) (s : Statement) → length tickets ≡ length statements
    → users_in mode n (tickets ++ t ∷ []) (statements ++ s ∷ []) ≡ users_in mode n tickets statements ++ cond (refers_to mode n s) (t ∷ []) []
users_more mode n [] t [] s e = refl
users_more mode n [] t (y ∷ statements) s e = absurd (omega (arith, e))
users_more mode n (x ∷ tickets) t [] s e = absurd (omega (arith, e))
users_more mode n (x ∷ tickets) t (y ∷ statements) s e = by (refers_to mode n y) (users_more mode n tickets t statements s (omega (arith, e)))
  where
    by : (b : Bool) → users_in mode n (tickets ++ t ∷ []) (statements ++ s ∷ []) ≡ users_in mode n tickets statements ++ cond (refers_to mode n s) (t ∷ []) []
        → cond b (x ∷ users_in mode n (tickets ++ t ∷ []) (statements ++ s ∷ [])) (users_in mode n (tickets ++ t ∷ []) (statements ++ s ∷ []))
        ≡ cond b (x ∷ users_in mode n tickets statements) (users_in mode n tickets statements) ++ cond (refers_to mode n s) (t ∷ []) []
    by true later = ap (λ (us : List ℕ). x ∷ us) later
    by false later = later

users_below : (mode : Mode) (n : Values) (t : ℕ) (tickets : List ℕ) (statements : List Statement) → AreBelow t tickets → AreBelow t (users_in mode n tickets statements)
users_below mode n t [] statements all = tt
users_below mode n t (x ∷ tickets) [] all = tt
users_below mode n t (x ∷ tickets) (s ∷ statements) all = by (refers_to mode n s) (users_below mode n t tickets statements all.1)
  where
    by : (b : Bool) → AreBelow t (users_in mode n tickets statements) → AreBelow t (cond b (x ∷ users_in mode n tickets statements) (users_in mode n tickets statements))
    by true later = (all.0, later)
    by false later = later

not_last : (t : ℕ) (xs : List ℕ) → AreBelow t xs → ends_with t xs ≡ false
not_last t [] all = refl
not_last t (x ∷ []) all = other_number x t (λ e. absurd (omega (arith, e, all.0)))
not_last t (x ∷ (y ∷ ys)) all = not_last t (y ∷ ys) all.1

new_last : (t : ℕ) (xs : List ℕ) → AreBelow t xs → with_last t xs ≡ xs ++ t ∷ []
new_last t xs all = ap (λ (b : Bool). cond b xs (xs ++ t ∷ [])) (not_last t xs all)

all_more : (x t : ℕ) (xs : List ℕ) → AllByRecursion (λ (y : ℕ). x < y) xs → x < t → AllByRecursion (λ (y : ℕ). x < y) (xs ++ t ∷ [])
all_more x t [] all lt = (lt, tt)
all_more x t (y ∷ xs) all lt = (all.0, all_more x t xs all.1 lt)

rising_more : (t : ℕ) (xs : List ℕ) → IsRising xs → AreBelow t xs → IsRising (xs ++ t ∷ [])
rising_more t [] rising all = (tt, tt)
rising_more t (x ∷ xs) rising all = (all_more x t xs rising.0 all.0, rising_more t xs rising.1 all.1)

one_longer : {A : Type 0} (xs : List A) (x : A) → length (xs ++ x ∷ []) ≡ length xs + 1
one_longer [] x = refl
one_longer (y ∷ xs) x = omega (arith, one_longer xs x)

pub tickets_more : (t : ℕ) (tickets : List ℕ) (s : Statement) (statements : List Statement) → AreTickets tickets statements → AreBelow t tickets → AreTickets (tickets ++ t ∷ []) (statements ++ s ∷ [])
tickets_more t tickets s statements a all = record { each = omega (arith, one_longer tickets t, one_longer statements s, a.each); rising = rising_more t tickets a.rising all }

-- ---- numbers and names

module _ (names : Names) (are : IsNameTable names) where
  -- two live numbers are equal exactly if their names are
  number_tests : (a b : ℕ) → IsLive names a → IsLive names b → nat_eq a b ≡ is_same (kept_at names b).name (kept_at names a).name
  number_tests a b la lb = elim (cases_Bool (nat_eq a b)) [
    | inl t ↦ t ∙ sym (same_test (kept_at names b).name (kept_at names a).name ∙ same_names (kept_at names b).name (kept_at names a).name (ap (λ (n : ℕ). (kept_at names n).name) (sym (eqb-true a b t))))
    | inr f ↦ f ∙ sym (same_test (kept_at names b).name (kept_at names a).name ∙ other_names (kept_at names b).name (kept_at names a).name
        (λ same. both_ways (nat_eq a b) f (eq-eqb a b (are.different a b (kept_at names a) (kept_at names b) (live_is names a la) (live_is names b lb) (sym same)))))
  ]

  pub end_named : (q : ℕ) → IsLive names q → (ids : List NameId) → AreFactNames names ids → has_end_of_fact ids q ≡ list_any (is_same (kept_at names q).name) (names_at names ids)
  end_named q live [] all = refl
  end_named q live (x ∷ ids) all = λ i. number_tests x.0 q all.0 live i || end_named q live ids all.1 i

  -- a statement refers to the names of its numbers
  pub refers_here : (mode : Mode) (s : Statement) (ids : List NameId) (q : ℕ) → IsLive names q → AreFactNames names ids → s.mode ≡ mode → names_at names ids ≡ fact_names s.test → refers_to mode (kept_at names q).name s ≡ has_end_of_fact ids q
  refers_here mode s ids q live all moded named =
      (λ i. (ap (same_mode mode) moded ∙ same_itself mode) i && ap (list_any (is_same (kept_at names q).name)) (sym named) i) ∙ sym (end_named q live ids all)
    where
      same_itself : (m : Mode) → same_mode m m ≡ true
      same_itself Plain = refl
      same_itself Follow = refl

pub refers_not : (mode : Mode) (n : Values) (s : Statement) → same_mode mode s.mode ≡ false → refers_to mode n s ≡ false
refers_not mode n s apart = ap (λ (b : Bool). b && list_any (is_same n) (fact_names s.test)) apart

-- ---- no mark

pub none_touched : (mode : Mode) (board : Board) (t : FactTable) (q : ℕ) → ProbesAreMarks board → board.marks ≡ [] → is_touched mode board t q ≡ false
none_touched mode board t q whole none = go (leads_of mode t q)
  where
    go : (xs : List NameId) → list_any (λ (x : NameId). is_probe_marked board x.0) xs ≡ false
    go [] = refl
    go (x ∷ xs) = ap (λ (b : Bool). b || list_any (λ (y : NameId). is_probe_marked board y.0) xs) (not_marked board x.0 whole (ap (λ (ms : List NameId). has_end_of_fact ms x.0) none)) ∙ go xs

-- ---- the facts of the statement's mode

module _ (names : Names) (are : IsNameTable names) (mode : Mode) (before board : Board) (answers_before : AreAnswers before) (answers : AreAnswers board) (levels : KeepsLevels before board) (marks : ProbesAreMarks board) (none : board.marks ≡ [])
    (rows : Rows) (s : Statement) (tickets : List ℕ) (ticket : ℕ) (numbered : AreTickets tickets rows.statements) (below : AreBelow ticket tickets) where
  abbrev next : Rows
  next = after rows (edit.PutStatement s)

  abbrev more : List ℕ
  more = tickets ++ ticket ∷ []

  module _ (old mid new : FactTable) (ids fresh : List NameId) (f : FactsBut names before old rows tickets mode (λ q. false)) (shows : ShowsRows names board next mode) (fits : FitsBoard board names)
      (moded : s.mode ≡ mode) (live : AreFactNames names ids) (named : names_at names ids ≡ fact_names s.test)
      (whole : (q : ℕ) → has_end_of_fact ids q ≡ true → has_end_of_fact fresh q ≡ false → is_used old q ≡ true)
      (leads_there : (q : ℕ) → has_end_of_fact fresh q ≡ true → LeadsTo names rows.entries mode q (leads_of mode old q))
      (u : UsersAdded old mid (has_end_of_fact ids) ticket) (r : Refreshed mid new (has_end_of_fact fresh) mode board) where
    was : (q : ℕ) → is_used mid q ≡ true → has_end_of_fact fresh q ≡ false → is_used old q ≡ true
    was q used free = by (has_end_of_fact ids q) refl
      where
        by : (b : Bool) → has_end_of_fact ids q ≡ b → is_used old q ≡ true
        by true e = whole q e free
        by false e = sym (ap (λ (o : Option Fact). not (is_empty (users_or_none o))) (u.others q e)) ∙ used

    same_leads : (q : ℕ) → leads_of mode mid q ≡ leads_of mode old q
    same_leads q = ap (leads_by mode q) (u.ends q)

    users_now : (q : ℕ) → IsLive names q → users_of mid q ≡ users_in mode (kept_at names q).name more next.statements
    users_now q lq = by (has_end_of_fact ids q) refl ∙ sym (users_more mode (kept_at names q).name tickets ticket rows.statements s numbered.each)
      where
        here : (b : Bool) → has_end_of_fact ids q ≡ b → users_in mode (kept_at names q).name tickets rows.statements ++ cond b (ticket ∷ []) [] ≡ users_in mode (kept_at names q).name tickets rows.statements ++ cond (refers_to mode (kept_at names q).name s) (ticket ∷ []) []
        here b e = ap (λ (x : Bool). users_in mode (kept_at names q).name tickets rows.statements ++ cond x (ticket ∷ []) []) (sym (refers_here names are mode s ids q lq live moded named ∙ e))

        by : (b : Bool) → has_end_of_fact ids q ≡ b → users_of mid q ≡ users_in mode (kept_at names q).name tickets rows.statements ++ cond (refers_to mode (kept_at names q).name s) (ticket ∷ []) []
        by true e =
            u.here q e
            ∙ ap (with_last ticket) (f.users q lq)
            ∙ new_last ticket (users_in mode (kept_at names q).name tickets rows.statements) (users_below mode (kept_at names q).name ticket tickets rows.statements below)
            ∙ here true e
        by false e = ap users_or_none (u.others q e) ∙ f.users q lq ∙ sym (append-nil (users_in mode (kept_at names q).name tickets rows.statements)) ∙ here false e

    leads_now : (q : ℕ) → is_used mid q ≡ true → LeadsTo names rows.entries mode q (leads_of mode mid q)
    leads_now q used = subst (LeadsTo names rows.entries mode q) (sym (same_leads q)) (by (has_end_of_fact fresh q) refl)
      where
        by : (b : Bool) → has_end_of_fact fresh q ≡ b → LeadsTo names rows.entries mode q (leads_of mode old q)
        by true e = leads_there q e
        by false e = f.leads_there q (was q used e)

    ready : FactsBut names board mid next more mode (λ q. true)
    ready = record {
      shows = shows;
      fits = fits;
      live = λ q h. f.live q (sym (u.there q) ∙ h);
      users = users_now;
      leads_there = leads_now;
      linked = linked_still old mid u.ends u.facts f.linked;
      truths = λ q used free. absurd (true≢false free);
    }

    pub put_facts : FactsBut names board new next more mode (λ q. false)
    put_facts =
        refreshed names are mode board answers next more mid new (has_end_of_fact fresh) (has_end_of_fact fresh) (λ q. false) r
        (moved names are mode before board answers_before answers levels rows next tickets more old mid (has_end_of_fact fresh) (λ q. true) f ready
        (λ q used free. record { used = was q used free; leads = same_leads q; truth = u.truths q; free = none_touched mode board mid q marks none }))
        (λ q used free apart. apart)

  -- ---- the facts of the other mode
  pub other_facts : (t : FactTable) → FactsBut names before t rows tickets mode (λ q. false) → ShowsRows names board next mode → FitsBoard board names → same_mode mode s.mode ≡ false → FactsBut names board t next more mode (λ q. false)
  other_facts t f shows fits apart =
      moved names are mode before board answers_before answers levels rows next tickets more t t (λ q. false) (λ q. true) f
      (record {
        shows = shows;
        fits = fits;
        live = f.live;
        users = λ q lq. f.users q lq
            ∙ sym (append-nil (users_in mode (kept_at names q).name tickets rows.statements))
            ∙ ap (λ (x : Bool). users_in mode (kept_at names q).name tickets rows.statements ++ cond x (ticket ∷ []) []) (sym (refers_not mode (kept_at names q).name s apart))
            ∙ sym (users_more mode (kept_at names q).name tickets ticket rows.statements s numbered.each);
        leads_there = f.leads_there;
        linked = f.linked;
        truths = λ q used free. absurd (true≢false free);
      })
      (λ q used free. record { used = used; leads = refl; truth = refl; free = none_touched mode board t q marks none })

-- ---- changes

pub none_changed : (t cleared : FactTable) → ((q : ℕ) → fact_at cleared q ≡ fact_at t q) → cleared.changed ≡ [] → AreChanges t cleared
none_changed t cleared stay none q =
    ap (λ (cs : List NameId). has_end_of_fact cs q) none ∙ sym (ap (λ (o : Option Fact). truth_differs (truth_or_unknown o) (truth_of_fact cleared q)) (sym (stay q)) ∙ differs_not (truth_of_fact cleared q))

pub both_changed : (old new : FactsNow) → AreChanges old.plain new.plain → AreChanges old.follow new.follow → (m : Mode) → AreChanges (table_of old m) (table_of new m)
both_changed old new plain follow Plain = plain
both_changed old new plain follow Follow = follow

-- the facts whose truth is replaced are the changed ones
pub used_changed : (mid new : FactTable) (cleared : FactTable) (ids fresh : List NameId) (ticket : ℕ) (mode : Mode) (board : Board) → UsersAdded cleared mid (has_end_of_fact ids) ticket → mid.changed ≡ cleared.changed → Refreshed mid new (has_end_of_fact fresh) mode board
    → (q : ℕ) → has_end_of_fact new.changed q ≡ (has_end_of_fact cleared.changed q || truth_differs (truth_of_fact cleared q) (truth_of_fact new q))
used_changed mid new cleared ids fresh ticket mode board u same r q =
    r.changed q ∙ (λ i. has_end_of_fact (same i) q || truth_differs (u.truths q i) (truth_of_fact new q))

-- the looks
pub looks_within : (names : Names) (rows : Rows) (s : Statement) (mode : Mode) (asked : List NameId) → s.mode ≡ mode → SameElements (names_at names asked) (flat_map (leads rows.entries mode) (fresh_facts mode rows.statements s)) → looks_by side.Source (target_names rows mode) (names_at names asked) ≤ statement_looks rows s
looks_within names rows s mode asked moded same = subst (λ (m : Mode). looks_by side.Source (target_names rows m) (names_at names asked) ≤ statement_looks rows s) moded (here (subst (λ (m : Mode). SameElements (names_at names asked) (flat_map (leads rows.entries m) (fresh_facts m rows.statements s))) (sym moded) same))
  where
    w : Values → ℕ
    w n = 1 + near_names side.Source n.product (different (target_names rows s.mode))

    g : Values → List Values
    g = leads rows.entries s.mode

    here : SameElements (names_at names asked) (flat_map (leads rows.entries s.mode) (fresh_facts s.mode rows.statements s)) → looks_by side.Source (target_names rows s.mode) (names_at names asked) ≤ statement_looks rows s
    here alike =
        omega (
          arith,
          alike w,
          sum_flat w g (fresh_facts s.mode rows.statements s),
          sum_flat w g (references_of s.mode s),
          fewer_fresh s.mode rows.statements s (λ n. sum_by w (g n)),
        )

pub shows_of : (names : Names) (f : FactsNow) (rows : Rows) (tickets : List ℕ) (mode : Mode) → HasFacts names f rows tickets → ShowsRows names (board_of_mode f.boards mode) rows mode
shows_of names f rows tickets Plain s = s.plain.shows
shows_of names f rows tickets Follow s = s.follow.shows
