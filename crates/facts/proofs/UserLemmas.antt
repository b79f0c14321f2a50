-- The users of a fact, by tickets and by names.
use Rattle.std.proofs.Common.{◌≡◌, ℕ, Bool, true, false, not, cond, ◌||◌, List, [], ◌∷◌, Option, Some, None, refl, sym}
use Rattle.std.specs.Prelude.{is_some}
use Rattle.std.proofs.lemmas.Bool.{true≢false}
use Rattle.cpe_rows.specs.cpe_name.Eleven.{Values}
use Rattle.cpe_rows.specs.declared.statement.Mode.{Mode}
use Rattle.cpe_rows.specs.declared.statement.Statement.{Statement}
use Rattle.fact_laws.specs.Asked.{is_referred, refers_to}
use Rattle.fact_rows.specs.Facts.{Fact, fact_at, FactTable, is_fact, users_or_none}
use Rattle.fact_rows.specs.ticket_list.Tickets.{is_empty}
use Rattle.facts.specs.Facts.{is_used}
use Rattle.facts.specs.Users.{users_in}

-- a number in use is that of a fact
pub used_fact : (t : FactTable) (q : ℕ) → is_used t q ≡ true → is_fact t q ≡ true
used_fact t q used = by (fact_at t q) used
  where
    by : (o : Option Fact) → not (is_empty (users_or_none o)) ≡ true → is_some o ≡ true
    by None h = absurd (true≢false (sym h))
    by (Some f) h = refl

-- some statement refers to the name of a fact in use
pub users_refer : (mode : Mode) (n : Values) (tickets : List ℕ) (statements : List Statement) → not (is_empty (users_in mode n tickets statements)) ≡ true → is_referred mode statements n ≡ true
users_refer mode n [] statements h = absurd (true≢false (sym h))
users_refer mode n (t ∷ tickets) [] h = absurd (true≢false (sym h))
users_refer mode n (t ∷ tickets) (s ∷ statements) h = by (refers_to mode n s) h (users_refer mode n tickets statements)
  where
    by : (b : Bool) → not (is_empty (cond b (t ∷ users_in mode n tickets statements) (users_in mode n tickets statements))) ≡ true
        → (not (is_empty (users_in mode n tickets statements)) ≡ true → is_referred mode statements n ≡ true) → (b || is_referred mode statements n) ≡ true
    by true h later = refl
    by false h later = later h
