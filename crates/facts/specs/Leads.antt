-- Facts get other ends, one after the other.
use Rattle.std.specs.Prelude.{◌≡◌, ◌||◌, ℕ, Bool, true, false, nat_eq, List}
use Rattle.std.specs.List.{AllByRecursion, list_any}
use Rattle.name_index.specs.Table.{Names, IsLive, kept_at}
use Rattle.fact_boards.specs.level_board.Board.{Board, FitsBoard}
use Rattle.cpe_rows.specs.Rows.{Rows}
use Rattle.cpe_rows.specs.Verdict.{fact_truth}
use Rattle.cpe_rows.specs.declared.entry.Entry.{Entry}
use Rattle.cpe_rows.specs.declared.statement.Mode.TheVariants.{Follow}
use Rattle.cpe_rows.specs.declared.truth.Truth.{Truth}
use Rattle.fact_boards.specs.Kept.{ShowsRows}
use Rattle.fact_rows.specs.Facts.{AreLinkedFacts, truth_differs, facts_with_end, FactTable, has_end_of_fact, is_fact, IsUnder, leads_of, truth_of_fact, users_of}
use Rattle.facts.specs.Facts.{is_used, LeadsTo}
use Rattle.facts.specs.Users.{users_in}
use Rattle.facts.specs.declared.lead.Led.{Led}

-- A fact in use will have these ends, to which it is linked already.
pub record IsLed (table : Names) (t : FactTable) (left : List Entry) (led : Led) : Type 0 where
  pub used : is_used t led.fact.0 ≡ true
  pub leads_there : LeadsTo table left Follow led.fact.0 led.ends.items
  pub under : IsUnder (facts_with_end t) led.fact.0 led.ends.items

-- The same facts have the same users.
pub record SameUsers (old new : FactTable) : Type 0 where
  pub there : (q : ℕ) → is_fact new q ≡ is_fact old q
  pub users : (q : ℕ) → users_of new q ≡ users_of old q

-- The facts that were added to the changed ones are exactly those whose truth was replaced; each of these is in use, and has this truth.
pub record ChangesTo (old new : FactTable) (truth : ℕ → Truth) : Type 0 where
  pub listed : (q : ℕ) → has_end_of_fact new.changed q ≡ (has_end_of_fact old.changed q || truth_differs (truth_of_fact old q) (truth_of_fact new q))
  pub right : (q : ℕ) → truth_differs (truth_of_fact old q) (truth_of_fact new q) ≡ true → is_used new q ≡ true × (truth_of_fact new q ≡ truth q)

-- one of these facts has the number
abbrev pub is_led : List Led → ℕ → Bool
is_led rest id = list_any (λ (x : Led). nat_eq x.fact.0 id) rest

-- All facts but the rest have the ends that these rows give them, and those of them that don't pass have the truth of their names.
pub record AreLedBut (names : Names) (board : Board) (t : FactTable) (next : Rows) (tickets : List ℕ) (passes : ℕ → Bool) (rest : List Led) : Type 0 where
  pub shows : ShowsRows names board next Follow
  pub fits : FitsBoard board names
  pub live : (id : ℕ) → is_fact t id ≡ true → IsLive names id
  pub users : (id : ℕ) → IsLive names id → users_of t id ≡ users_in Follow (kept_at names id).name tickets next.statements
  pub led : AllByRecursion (IsLed names t next.entries) rest
  pub leads_there : (id : ℕ) → is_used t id ≡ true → is_led rest id ≡ false → LeadsTo names next.entries Follow id (leads_of Follow t id)
  pub linked : AreLinkedFacts t
  pub truths : (id : ℕ) → is_used t id ≡ true → is_led rest id ≡ false → passes id ≡ false → truth_of_fact t id ≡ fact_truth next Follow (kept_at names id).name
