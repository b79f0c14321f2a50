-- Verdicts after a table in which a name was held or released.
use Rattle.std.proofs.Common.{◌≡◌, ◌≤◌, ℕ, Bool, true, false, cond, ◌&&◌, ◌||◌, not, nat_eq, List, [], ◌∷◌, ◌++◌, Option, Some, None, IsSome, refl, sym, ap, subst, ◌∙◌, inl, inr, eq-eqb, arith}
use Rattle.std.specs.Prelude.{is_some}
use Rattle.std.specs.List.{AllByRecursion, flat_map, list_any}
use Rattle.std.proofs.lemmas.Bool.{cases_eq, or_cases, or_left, or_right, true≢false}
use Rattle.std.proofs.lemmas.List.Folds.{list_any-append}
use Rattle.std.proofs.lemmas.List.Sums.{sum_by-append}
use Rattle.std.proofs.lemmas.Option.{none-some}
use Rattle.cpe_rows.specs.cpe_name.Eleven.{Values}
use Rattle.cpe_rows.specs.cpe_name.Equal.{same_name}
use Rattle.name_index.specs.declared.table.NameId.{NameId}
use Rattle.name_index.specs.Table.{IsNameTable, find_kept, HoldsOnce, HoldsName, IsLive, Kept, kept_at, kept_or, Names, Releases}
use Rattle.facts.specs.level_board.Board.{Board, FitsBoard, probe_times}
use Rattle.cpe_rows.specs.FactNames.{fact_names}
use Rattle.cpe_rows.specs.Names.{is_same}
use Rattle.cpe_rows.specs.Rows.{Rows}
use Rattle.cpe_rows.specs.Verdict.{fact_truth}
use Rattle.cpe_rows.specs.declared.statement.Mode.{Mode}
use Rattle.cpe_rows.specs.declared.statement.Mode.TheVariants.{Plain, Follow}
use Rattle.cpe_rows.specs.declared.statement.Statement.{Statement}
use Rattle.facts.specs.fact_laws.Asked.{entry_names, is_referred, leads, names_of_rows, refers_to, same_mode}
use Rattle.facts.specs.fact_laws.Shown.{names_at, times_named}
use Rattle.facts.proofs.fact_laws.Counted.{same_test}
use Rattle.facts.proofs.fact_laws.Shown.{live_is, other_names}
use Rattle.facts.proofs.fact_laws.Different.{some_named}
use Rattle.facts.proofs.fact_laws.Tables.{keeps, was_live}
use Rattle.fact_boards.specs.Kept.{AreKnown, AreFactNames, board_of_mode, FitBoards, ShowRows, ShowsRows}
use Rattle.facts.specs.fact_rows.Facts.{Fact, fact_at, FactTable, has_end_of_fact, is_fact, leads_of, users_of, users_or_none}
use Rattle.facts.specs.Facts.{FactsNow, FactsOf, HasFacts, is_used, LeadsTo, table_of}
use Rattle.facts.specs.Users.{users_in}
use Rattle.facts.specs.ticket_list.Tickets.{is_empty}
use Rattle.facts.proofs.MoveLemmas.{on}
use Rattle.facts.proofs.UserLemmas.{used_fact, users_refer}
use Rattle.statement_rows.specs.State.{StatementRow, statements_of}
use Rattle.verdicts.specs.Verdicts.{HasVerdicts, IsNumbered, tickets_in, VerdictsNow}
use Rattle.verdicts.proofs.UserLemmas.{refers_by}

-- ---- no statement refers to a name without a number

not_named : (old : Names) (n : Values) → ((q : ℕ) → IsLive old q → (kept_at old q).name ≡ n → ⊥) → (ids : List NameId) → AreFactNames old ids → list_any (is_same n) (names_at old ids) ≡ false
not_named old n none [] all = refl
not_named old n none (x ∷ ids) all =
    let m = (kept_at old x.0).name in
    ap (λ (b : Bool). b || list_any (is_same n) (names_at old ids)) (same_test n m ∙ other_names n m (λ e. none x.0 all.0 (sym e))) ∙ not_named old n none ids all.1

refers_none : (old : Names) (n : Values) → ((q : ℕ) → IsLive old q → (kept_at old q).name ≡ n → ⊥) → (mode : Mode) (j : StatementRow) → IsNumbered old j → refers_to mode n j.statement ≡ false
refers_none old n none mode j numbered =
    ap (λ (b : Bool). same_mode mode j.statement.mode && b) (ap (list_any (is_same n)) (sym numbered.named) ∙ not_named old n none j.ids numbered.live) ∙ never (same_mode mode j.statement.mode)
  where
    never : (b : Bool) → (b && false) ≡ false
    never true = refl
    never false = refl

pub users_none : (old : Names) (n : Values) → ((q : ℕ) → IsLive old q → (kept_at old q).name ≡ n → ⊥) → (mode : Mode) (js : List StatementRow) → AllByRecursion (IsNumbered old) js → users_in mode n (tickets_in js) (statements_of js) ≡ []
users_none old n none mode [] all = refl
users_none old n none mode (j ∷ js) all =
    let us = users_in mode n (tickets_in js) (statements_of js) in
    ap (λ (b : Bool). cond b (j.ticket ∷ us) us) (refers_none old n none mode j all.0) ∙ users_none old n none mode js all.1

-- ---- the same facts over another table

numbers_same : (old new : Names) → ((q : ℕ) → IsLive old q → IsLive new q → (kept_at new q).name ≡ (kept_at old q).name) → (numbers : List NameId) → AreFactNames old numbers → AreFactNames new numbers → names_at new numbers ≡ names_at old numbers
numbers_same old new same [] all still = refl
numbers_same old new same (x ∷ numbers) all still = λ i. same x.0 all.0 still.0 i ∷ numbers_same old new same numbers all.1 still.1 i

module _ (old new : Names) (board : Board) (t : FactTable) (rows : Rows) (tickets : List ℕ) (mode : Mode) (s : FactsOf old board t rows tickets mode) (used : (q : ℕ) → is_fact t q ≡ true → is_used t q ≡ true)
    (same : (q : ℕ) → IsLive old q → IsLive new q → (kept_at new q).name ≡ (kept_at old q).name) (live : (q : ℕ) → is_used t q ≡ true → IsLive new q)
    (leads_live : (q : ℕ) → is_used t q ≡ true → AreFactNames new (leads_of mode t q)) (users : (q : ℕ) → IsLive new q → users_of t q ≡ users_in mode (kept_at new q).name tickets rows.statements) where
  name_same : (q : ℕ) → is_used t q ≡ true → (kept_at new q).name ≡ (kept_at old q).name
  name_same q u = same q (s.live q (used_fact t q u)) (live q u)

  leads_same : (q : ℕ) (u : is_used t q ≡ true) → LeadsTo new rows.entries mode q (leads_of mode t q)
  leads_same q u =
      let l = s.leads_there q u in
      record { live = leads_live q u; names = numbers_same old new same (leads_of mode t q) l.live (leads_live q u) ∙ l.names ∙ ap (leads rows.entries mode) (sym (name_same q u)) }

  pub over_table : ShowsRows new board rows mode → FitsBoard board new → FactsOf new board t rows tickets mode
  over_table shows fits = record {
    shows = shows;
    fits = fits;
    live = λ q is. live q (used q is);
    users = users;
    leads_there = leads_same;
    linked = s.linked;
    truths = λ q u free. s.truths q u free ∙ ap (fact_truth rows mode) (sym (name_same q u));
  }

-- ---- a name was held

live_some : (o : Option Kept) → (o ≡ None → ⊥) → IsSome o
live_some None h = absurd (h refl)
live_some (Some k) h = refl

not_none : (o : Option Kept) → IsSome o → o ≡ None → ⊥
not_none None some e = true≢false (sym some)
not_none (Some k) some e = none-some k (sym e)

pub mode_of : (names : Names) (f : FactsNow) (rows : Rows) (tickets : List ℕ) → HasFacts names f rows tickets → (mode : Mode) → FactsOf names (board_of_mode f.boards mode) (table_of f mode) rows tickets mode
mode_of names f rows tickets s Plain = s.plain
mode_of names f rows tickets s Follow = s.follow

module _ (old new : Names) (id : ℕ) (name : Values) (h : HoldsName old new id name) where
  held_live : (q : ℕ) → IsLive old q → IsLive new q
  held_live q live =
      let k = keeps old new id name h q (kept_at old q) (live_is old q live) in
      live_some (find_kept new q) (λ none. none-some k.0 (sym none ∙ k.1))

  held_same : (q : ℕ) → IsLive old q → IsLive new q → (kept_at new q).name ≡ (kept_at old q).name
  held_same q live still =
      let k = keeps old new id name h q (kept_at old q) (live_is old q live) in
      ap (λ (o : Option Kept). (kept_or o).name) k.1 ∙ k.2

  held_all : (numbers : List NameId) → AreFactNames old numbers → AreFactNames new numbers
  held_all [] all = tt
  held_all (x ∷ numbers) all = (held_live x.0 all.0, held_all numbers all.1)

  -- a number that gets the name had none, and no other has it
  held_new : (q : ℕ) → IsLive new q → find_kept old q ≡ None → (x : ℕ) → IsLive old x → (kept_at old x).name ≡ (kept_at new q).name → ⊥
  held_new q live none x was e = elim (cases_eq q id) [
    | inl is ↦
        let now : (kept_at new q).name ≡ name = ap (λ (k : ℕ). (kept_at new k).name) is ∙ got (find_kept old id) (ap (find_kept old) (sym is) ∙ none) h.held in
        let at : x ≡ id = h.same x (kept_at old x, live_is old x was, e ∙ now) in
        not_none (find_kept old x) was (ap (find_kept old) (at ∙ sym is) ∙ none)
    | inr ne ↦ not_none (find_kept new q) live (h.others q ne ∙ none)
  ]
    where
      got : (o : Option Kept) → o ≡ None → HoldsOnce o name (find_kept new id) → (kept_at new id).name ≡ name
      got None e holds = ap (λ (o : Option Kept). (kept_or o).name) holds.1
      got (Some k) e holds = absurd (none-some k (sym e))

  module _ (v : VerdictsNow) (rows : Rows) (k : HasVerdicts old v rows) where
    abbrev tickets : List ℕ
    tickets = tickets_in v.statements.rows

    facts_at : (mode : Mode) → FactsOf old (board_of_mode v.facts.boards mode) (table_of v.facts mode) rows tickets mode
    facts_at = mode_of old v.facts rows tickets k.facts

    users_new : (mode : Mode) (q : ℕ) → IsLive new q → users_of (table_of v.facts mode) q ≡ users_in mode (kept_at new q).name tickets rows.statements
    users_new mode q live = by (find_kept old q) refl
      where
        no_fact : (o : Option Fact) → fact_at (table_of v.facts mode) q ≡ o → find_kept old q ≡ None → users_or_none o ≡ []
        no_fact None e none = refl
        no_fact (Some f) e none = absurd (not_none (find_kept old q) ((facts_at mode).live q (ap is_some e)) none)

        by : (o : Option Kept) → find_kept old q ≡ o → users_of (table_of v.facts mode) q ≡ users_in mode (kept_at new q).name tickets rows.statements
        by (Some x) e =
            let was : IsLive old q = live_some (find_kept old q) (λ none. none-some x (sym none ∙ e)) in
            (facts_at mode).users q was ∙ ap (λ (n : Values). users_in mode n tickets rows.statements) (sym (held_same q was live))
        by None e =
            no_fact (fact_at (table_of v.facts mode) q) refl e
            ∙ sym (users_none old (kept_at new q).name (held_new q live e) mode v.statements.rows k.numbered)
            ∙ ap (users_in mode (kept_at new q).name tickets) k.statements

    held_mode : (mode : Mode) → ShowsRows new (board_of_mode v.facts.boards mode) rows mode → FitsBoard (board_of_mode v.facts.boards mode) new → FactsOf new (board_of_mode v.facts.boards mode) (table_of v.facts mode) rows tickets mode
    held_mode mode =
        over_table old new (board_of_mode v.facts.boards mode) (table_of v.facts mode) rows tickets mode (facts_at mode) (k.needed.facts mode) held_same
        (λ q used. held_live q ((facts_at mode).live q (used_fact (table_of v.facts mode) q used)))
        (λ q used. held_all (leads_of mode (table_of v.facts mode) q) ((facts_at mode).leads_there q used).live) (users_new mode)

    held_numbered : (js : List StatementRow) → AllByRecursion (IsNumbered old) js → AllByRecursion (IsNumbered new) js
    held_numbered [] all = tt
    held_numbered (j ∷ js) all = (record { live = held_all j.ids all.0.live; named = numbers_same old new held_same j.ids all.0.live (held_all j.ids all.0.live) ∙ all.0.named }, held_numbered js all.1)

    pub held_verdicts : ShowRows new v.facts.boards rows → FitBoards v.facts.boards new → HasVerdicts new v rows
    held_verdicts shows fits = record {
      statements = k.statements;
      checks = k.checks;
      numbered = held_numbered v.statements.rows k.numbered;
      facts = record { plain = held_mode Plain shows.plain fits.plain; follow = held_mode Follow shows.follow fits.follow; settled = k.facts.settled; numbered = k.facts.numbered };
      needed = k.needed;
      sound = k.sound;
      judged = k.judged;
    }

-- ---- a name was released

both_right : (a b : Bool) → (a && b) ≡ true → b ≡ true
both_right true b e = e
both_right false b e = absurd (true≢false (sym e))

-- the name of a fact reference of one of the statements is among the names of the rows
referred_named : (mode : Mode) (n : Values) (ss : List Statement) → is_referred mode ss n ≡ true → list_any (same_name n) (flat_map (λ (s : Statement). fact_names s.test) ss) ≡ true
referred_named mode n [] h = absurd (true≢false (sym h))
referred_named mode n (s ∷ ss) h =
    let rest = flat_map (λ (x : Statement). fact_names x.test) ss in
    list_any-append (same_name n) (fact_names s.test) rest ∙ elim (or_cases (refers_to mode n s) (is_referred mode ss n) h) [
      | inl r ↦ or_left (list_any (same_name n) (fact_names s.test)) (list_any (same_name n) rest) ((λ i. list_any (λ (m : Values). sym (same_test n m) i) (fact_names s.test)) ∙ both_right (same_mode mode s.mode) (list_any (is_same n) (fact_names s.test)) r)
      | inr later ↦ or_right (list_any (same_name n) (fact_names s.test)) (list_any (same_name n) rest) (referred_named mode n ss later)
    ]

kept_named : (rows : Rows) (mode : Mode) (n : Values) → is_referred mode rows.statements n ≡ true → 1 ≤ times_named n (names_of_rows rows)
kept_named rows mode n h =
    let facts = flat_map (λ (s : Statement). fact_names s.test) rows.statements in
    omega (arith, some_named n facts (referred_named mode n rows.statements h), sum_by-append (λ (m : Values). cond (same_name n m) 1 0) (entry_names rows.entries ++ rows.items) facts)

-- each statement of these rows refers for all of them
all_referred : (js : List StatementRow) → AllByRecursion (λ (j : StatementRow). (mode : Mode) (n : Values) → refers_to mode n j.statement ≡ true → is_referred mode (statements_of js) n ≡ true) js
all_referred [] = tt
all_referred (j ∷ js) = (λ mode n r. or_left (refers_to mode n j.statement) (is_referred mode (statements_of js) n) r, more js (all_referred js))
  where
    more : (ks : List StatementRow) → AllByRecursion (λ (k : StatementRow). (mode : Mode) (n : Values) → refers_to mode n k.statement ≡ true → is_referred mode (statements_of js) n ≡ true) ks
        → AllByRecursion (λ (k : StatementRow). (mode : Mode) (n : Values) → refers_to mode n k.statement ≡ true → is_referred mode (statements_of (j ∷ js)) n ≡ true) ks
    more [] all = tt
    more (k ∷ ks) all = (λ mode n r. or_right (refers_to mode n j.statement) (is_referred mode (statements_of js) n) (all.0 mode n r), more ks all.1)

module _ (old new : Names) (id : ℕ) (are : IsNameTable old) (r : Releases old new id) (v : VerdictsNow) (rows : Rows) (k : HasVerdicts old v rows) (known : AreKnown new rows) (shows : ShowRows new v.facts.boards rows) where
  abbrev tickets_now : List ℕ
  tickets_now = tickets_in v.statements.rows

  facts_then : (mode : Mode) → FactsOf old (board_of_mode v.facts.boards mode) (table_of v.facts mode) rows tickets_now mode
  facts_then = mode_of old v.facts rows tickets_now k.facts

  released_live : (q : ℕ) → IsLive old q → 1 ≤ times_named (kept_at old q).name (names_of_rows rows) → IsLive new q
  released_live q live h =
      let kept = known (kept_at old q).name h in
      let j = was_live old new id r kept.0 kept.1.0 kept.1.1 in
      let at : kept.0 ≡ q = sym (are.different q kept.0 (kept_at old q) j.0 (live_is old q live) j.1 (sym (j.2 ∙ kept.1.2))) in
      subst (IsLive new) at (live_some (find_kept new kept.0) (λ none. none-some kept.1.0 (sym none ∙ kept.1.1)))

  released_same : (q : ℕ) → IsLive old q → IsLive new q → (kept_at new q).name ≡ (kept_at old q).name
  released_same q was live =
      let j = was_live old new id r q (kept_at new q) (live_is new q live) in
      sym j.2 ∙ ap (λ (o : Option Kept). (kept_or o).name) (sym j.1)

  live_in_use : (mode : Mode) (q : ℕ) → is_used (table_of v.facts mode) q ≡ true → IsLive new q
  live_in_use mode q used =
      let s = facts_then mode in
      let live = s.live q (used_fact (table_of v.facts mode) q used) in
      let n = (kept_at old q).name in
      released_live q live (kept_named rows mode n (users_refer mode n tickets_now rows.statements (subst (λ (us : List ℕ). not (is_empty us) ≡ true) (s.users q live) used)))

  asked_live : (mode : Mode) (numbers : List NameId) → AllByRecursion (λ (x : NameId). 1 ≤ probe_times (board_of_mode v.facts.boards mode) x.0) numbers → AreFactNames new numbers
  asked_live mode [] all = tt
  asked_live mode (x ∷ numbers) all = (live_some (find_kept new x.0) (λ none. nowhere mode none all.0), asked_live mode numbers all.1)
    where
      nowhere : (m : Mode) → find_kept new x.0 ≡ None → 1 ≤ probe_times (board_of_mode v.facts.boards m) x.0 → ⊥
      nowhere Plain none one = omega (arith, one, shows.plain.asked.nowhere x.0 none)
      nowhere Follow none one = omega (arith, one, shows.follow.asked.nowhere x.0 none)

  ends_in_use : (mode : Mode) (q : ℕ) → is_used (table_of v.facts mode) q ≡ true → AreFactNames new (leads_of mode (table_of v.facts mode) q)
  ends_in_use mode q used =
      asked_live mode (leads_of mode (table_of v.facts mode) q)
      (on old are mode (board_of_mode v.facts.boards mode) (k.sound.answers mode) rows tickets_now (table_of v.facts mode) (λ p. false) (facts_then mode) q used)

  users_then : (mode : Mode) (q : ℕ) → IsLive new q → users_of (table_of v.facts mode) q ≡ users_in mode (kept_at new q).name tickets_now rows.statements
  users_then mode q live =
      let j = was_live old new id r q (kept_at new q) (live_is new q live) in
      let was : IsLive old q = live_some (find_kept old q) (λ none. none-some j.0 (sym none ∙ j.1)) in
      (facts_then mode).users q was ∙ ap (λ (n : Values). users_in mode n tickets_now rows.statements) (sym (released_same q was live))

  released_mode : (mode : Mode) → ShowsRows new (board_of_mode v.facts.boards mode) rows mode → FitsBoard (board_of_mode v.facts.boards mode) new → FactsOf new (board_of_mode v.facts.boards mode) (table_of v.facts mode) rows tickets_now mode
  released_mode mode = over_table old new (board_of_mode v.facts.boards mode) (table_of v.facts mode) rows tickets_now mode (facts_then mode) (k.needed.facts mode) released_same (live_in_use mode) (ends_in_use mode) (users_then mode)

  ids_live : (j : StatementRow) → IsNumbered old j → ((mode : Mode) (n : Values) → refers_to mode n j.statement ≡ true → is_referred mode (statements_of v.statements.rows) n ≡ true) → (ids : List NameId) → AreFactNames old ids → ((q : ℕ) → has_end_of_fact ids q ≡ true → has_end_of_fact j.ids q ≡ true) → AreFactNames new ids
  ids_live j numbered refers [] all within = tt
  ids_live j numbered refers (x ∷ ids) all within =
      let n = (kept_at old x.0).name in
      let has = within x.0 (or_left (nat_eq x.0 x.0) (has_end_of_fact ids x.0) (eq-eqb x.0 x.0 refl)) in
      let referred = subst (λ (ss : List Statement). is_referred j.statement.mode ss n ≡ true) k.statements (refers j.statement.mode n (refers_by old j.statement.mode j.statement j.ids x.0 refl numbered.named has)) in
      (released_live x.0 all.0 (kept_named rows j.statement.mode n referred), ids_live j numbered refers ids all.1 (λ q h. within q (or_right (nat_eq x.0 q) (has_end_of_fact ids q) h)))

  released_numbered : (js : List StatementRow) → AllByRecursion (λ (j : StatementRow). (mode : Mode) (n : Values) → refers_to mode n j.statement ≡ true → is_referred mode (statements_of v.statements.rows) n ≡ true) js → AllByRecursion (IsNumbered old) js → AllByRecursion (IsNumbered new) js
  released_numbered [] refers all = tt
  released_numbered (j ∷ js) refers all =
      let still = ids_live j all.0 refers.0 j.ids all.0.live (λ q h. h) in
      (record { live = still; named = numbers_same old new released_same j.ids all.0.live still ∙ all.0.named }, released_numbered js refers.1 all.1)

  pub released_verdicts : FitBoards v.facts.boards new → HasVerdicts new v rows
  released_verdicts fits = record {
    statements = k.statements;
    checks = k.checks;
    numbered = released_numbered v.statements.rows (all_referred v.statements.rows) k.numbered;
    facts = record { plain = released_mode Plain shows.plain fits.plain; follow = released_mode Follow shows.follow fits.follow; settled = k.facts.settled; numbered = k.facts.numbered };
    needed = k.needed;
    sound = k.sound;
    judged = k.judged;
  }
