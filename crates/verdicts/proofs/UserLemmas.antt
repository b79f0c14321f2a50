-- The ticket of a statement is among the users of each fact to which it refers.
use Rattle.std.proofs.Common.{◌≡◌, ℕ, Bool, true, false, not, cond, ◌&&◌, nat_eq, List, [], ◌∷◌, ◌++◌, refl, sym, ap, subst, ◌∙◌, inl, inr, eq-eqb, eqb-true}
use Rattle.std.specs.List.{AllByRecursion, flat_map, list_any}
use Rattle.std.proofs.lemmas.Bool.{or_cases, or_left, or_right, true≢false}
use Rattle.std.proofs.lemmas.List.Folds.{list_any-append}
use Rattle.cpe_rows.specs.cpe_name.Eleven.{Values}
use Rattle.name_index.specs.declared.table.NameId.{NameId}
use Rattle.name_index.specs.Table.{IsLive, Names, kept_at}
use Rattle.cpe_rows.specs.Rows.{Rows}
use Rattle.cpe_rows.specs.declared.statement.Mode.{Mode}
use Rattle.cpe_rows.specs.declared.statement.Mode.TheVariants.{Plain, Follow}
use Rattle.cpe_rows.specs.declared.statement.Statement.{Statement}
use Rattle.cpe_rows.specs.FactNames.{fact_names}
use Rattle.cpe_rows.specs.Names.{is_same}
use Rattle.facts.specs.fact_laws.Asked.{refers_to, same_mode}
use Rattle.facts.specs.fact_laws.Shown.{names_at}
use Rattle.facts.proofs.fact_laws.Counted.{same_test}
use Rattle.facts.proofs.fact_laws.Shown.{same_names}
use Rattle.fact_boards.specs.Kept.{AreFactNames}
use Rattle.facts.specs.fact_rows.Facts.{has_end_of_fact, users_of}
use Rattle.facts.specs.ticket_list.Tickets.{is_empty}
use Rattle.facts.specs.Facts.{FactsNow, HasFacts, is_used, table_of}
use Rattle.facts.specs.Users.{users_in}
use Rattle.statement_rows.specs.State.{StatementRow, statements_of}
use Rattle.statement_rows.specs.Tickets.{among}
use Rattle.verdicts.specs.Verdicts.{IsNumbered, tickets_in, users_of_changed}

-- each statement of these rows is a user of the names to which it refers
abbrev pub IsListed : List StatementRow → StatementRow → Type 0
IsListed all j = (mode : Mode) (n : Values) → refers_to mode n j.statement ≡ true → among (users_in mode n (tickets_in all) (statements_of all)) j.ticket ≡ true

users_more : (b : Bool) (t u : ℕ) (us : List ℕ) → among us t ≡ true → among (cond b (u ∷ us) us) t ≡ true
users_more true t u us h = or_right (nat_eq u t) (among us t) h
users_more false t u us h = h

listed_more : (j : StatementRow) (all js : List StatementRow) → AllByRecursion (IsListed all) js → AllByRecursion (IsListed (j ∷ all)) js
listed_more j all [] l = tt
listed_more j all (k ∷ js) l = (λ mode n r. users_more (refers_to mode n j.statement) k.ticket j.ticket (users_in mode n (tickets_in all) (statements_of all)) (l.0 mode n r), listed_more j all js l.1)

pub all_listed : (js : List StatementRow) → AllByRecursion (IsListed js) js
all_listed [] = tt
all_listed (j ∷ js) = (
  λ mode n r.
      let us = users_in mode n (tickets_in js) (statements_of js) in
      ap (λ (b : Bool). among (cond b (j.ticket ∷ us) us) j.ticket) r ∙ or_left (nat_eq j.ticket j.ticket) (among us j.ticket) (eq-eqb j.ticket j.ticket refl),
  listed_more j js js (all_listed js),
)

same_itself : (m : Mode) → same_mode m m ≡ true
same_itself Plain = refl
same_itself Follow = refl

name_among : (names : Names) (ids : List NameId) (q : ℕ) → has_end_of_fact ids q ≡ true → list_any (is_same (kept_at names q).name) (names_at names ids) ≡ true
name_among names [] q h = absurd (true≢false (sym h))
name_among names (x ∷ ids) q h = elim (or_cases (nat_eq x.0 q) (has_end_of_fact ids q) h) [
  | inl e ↦
      let n = (kept_at names q).name in
      or_left (is_same n (kept_at names x.0).name) (list_any (is_same n) (names_at names ids)) (ap (λ (k : ℕ). is_same n (kept_at names k).name) (eqb-true x.0 q e) ∙ same_test n n ∙ same_names n n refl)
  | inr later ↦ or_right (is_same (kept_at names q).name (kept_at names x.0).name) (list_any (is_same (kept_at names q).name) (names_at names ids)) (name_among names ids q later)
]

-- a statement refers to a name if the name's number is one of the numbers of its facts
pub refers_by : (names : Names) (mode : Mode) (s : Statement) (ids : List NameId) (q : ℕ) → s.mode ≡ mode → names_at names ids ≡ fact_names s.test → has_end_of_fact ids q ≡ true → refers_to mode (kept_at names q).name s ≡ true
refers_by names mode s ids q moded named has = λ i. (ap (same_mode mode) moded ∙ same_itself mode) i && (ap (list_any (is_same (kept_at names q).name)) (sym named) ∙ name_among names ids q has) i

-- one of the numbers is live if all are
pub live_of : (names : Names) (ids : List NameId) (q : ℕ) → AreFactNames names ids → has_end_of_fact ids q ≡ true → IsLive names q
live_of names [] q all h = absurd (true≢false (sym h))
live_of names (x ∷ ids) q all h = elim (or_cases (nat_eq x.0 q) (has_end_of_fact ids q) h) [
  | inl e ↦ subst (IsLive names) (eqb-true x.0 q e) all.0
  | inr later ↦ live_of names ids q all.1 later
]

-- the users of facts are those that the statements give
pub facts_users : (names : Names) (f : FactsNow) (rows : Rows) (tickets : List ℕ) → HasFacts names f rows tickets → (mode : Mode) (q : ℕ) → IsLive names q → users_of (table_of f mode) q ≡ users_in mode (kept_at names q).name tickets rows.statements
facts_users names f rows tickets s Plain q live = s.plain.users q live
facts_users names f rows tickets s Follow q live = s.follow.users q live

-- so the ticket of a row is among the users of each of its facts
module _ (names : Names) (f : FactsNow) (rows : Rows) (all : List StatementRow) (facts : HasFacts names f rows (tickets_in all)) (statements : statements_of all ≡ rows.statements) where
  pub is_user : (j : StatementRow) → IsListed all j → IsNumbered names j → (q : ℕ) → has_end_of_fact j.ids q ≡ true → among (users_of (table_of f j.statement.mode) q) j.ticket ≡ true
  is_user j listed numbered q has =
      let mode = j.statement.mode in
      let live = live_of names j.ids q numbered.live has in
      let refers = refers_by names mode j.statement j.ids q refl numbered.named has in
      let users = facts_users names f rows (tickets_in all) facts mode q live ∙ ap (users_in mode (kept_at names q).name (tickets_in all)) (sym statements) in
      ap (λ (us : List ℕ). among us j.ticket) users ∙ listed mode (kept_at names q).name refers

  some_user : (us : List ℕ) (t : ℕ) → among us t ≡ true → not (is_empty us) ≡ true
  some_user [] t h = absurd (true≢false (sym h))
  some_user (u ∷ us) t h = refl

  pub in_use : (j : StatementRow) → IsListed all j → IsNumbered names j → (q : ℕ) → has_end_of_fact j.ids q ≡ true → is_used (table_of f j.statement.mode) q ≡ true
  in_use j listed numbered q has = some_user (users_of (table_of f j.statement.mode) q) j.ticket (is_user j listed numbered q has)

-- ---- the users of changed facts

in_flat : (g : ℕ → List ℕ) (ids : List NameId) (q t : ℕ) → has_end_of_fact ids q ≡ true → among (g q) t ≡ true → among (flat_map (λ (id : NameId). g id.0) ids) t ≡ true
in_flat g [] q t h is = absurd (true≢false (sym h))
in_flat g (x ∷ ids) q t h is =
    list_any-append (λ u. nat_eq u t) (g x.0) (flat_map (λ (id : NameId). g id.0) ids) ∙ elim (or_cases (nat_eq x.0 q) (has_end_of_fact ids q) h) [
      | inl e ↦ or_left (among (g x.0) t) (among (flat_map (λ (id : NameId). g id.0) ids) t) (subst (λ (n : ℕ). among (g n) t ≡ true) (sym (eqb-true x.0 q e)) is)
      | inr later ↦ or_right (among (g x.0) t) (among (flat_map (λ (id : NameId). g id.0) ids) t) (in_flat g ids q t later is)
    ]

pub in_changed : (f : FactsNow) (mode : Mode) (q t : ℕ) → has_end_of_fact (table_of f mode).changed q ≡ true → among (users_of (table_of f mode) q) t ≡ true → among (users_of_changed f Plain ++ users_of_changed f Follow) t ≡ true
in_changed f Plain q t h is =
    list_any-append (λ u. nat_eq u t) (users_of_changed f Plain) (users_of_changed f Follow) ∙ or_left (among (users_of_changed f Plain) t) (among (users_of_changed f Follow) t) (in_flat (users_of f.plain) f.plain.changed q t h is)
in_changed f Follow q t h is =
    list_any-append (λ u. nat_eq u t) (users_of_changed f Plain) (users_of_changed f Follow) ∙ or_right (among (users_of_changed f Plain) t) (among (users_of_changed f Follow) t) (in_flat (users_of f.follow) f.follow.changed q t h is)
