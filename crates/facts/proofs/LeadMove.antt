-- Facts after a deprecation changed.
use Rattle.std.proofs.Common.{Option, ◌∷◌, ◌≡◌, ℕ, ◌≤◌, Bool, true, false, not, List, [], refl, sym, ap, subst, ◌∙◌}
use Rattle.std.specs.List.{AllByRecursion, list_any}
use Rattle.std.proofs.lemmas.Bool.{true≢false}
use Rattle.cpe_rows.specs.cpe_name.Eleven.{Values}
use Rattle.name_index.specs.declared.table.NameId.{NameId}
use Rattle.name_index.specs.Table.{IsNameTable, Names, kept_at}
use Rattle.fact_boards.specs.level_board.Board.{AreAnswers, Board, FitsBoard, is_probe_marked, KeepsLevels, probe_times}
use Rattle.cpe_rows.specs.Chains.{ends, leads_to}
use Rattle.cpe_rows.specs.Rows.{Rows}
use Rattle.cpe_rows.specs.Verdict.{fact_truth}
use Rattle.cpe_rows.specs.declared.entry.Entry.{Entry}
use Rattle.cpe_rows.specs.declared.statement.Mode.TheVariants.{Plain, Follow}
use Rattle.fact_boards.specs.Kept.{ShowsRows}
use Rattle.fact_rows.specs.Facts.{Fact, fact_at, facts_with_end, FactTable, has_end_of_fact, leads_of, truth_of_fact, users_or_none}
use Rattle.fact_rows.specs.ticket_list.Tickets.{is_empty}
use Rattle.fact_rows.specs.Truths.{truth_at_ends}
use Rattle.fact_rows.proofs.TruthLemmas.{truths_stay}
use Rattle.facts.specs.Facts.{FactsBut, is_touched, is_used, LeadsTo}
use Rattle.facts.specs.Leads.{AreLedBut, is_led, IsLed}
use Rattle.facts.specs.Users.{users_in}
use Rattle.facts.specs.declared.lead.Led.{Led}
use Rattle.facts.proofs.LeadLemmas.{same_numbers}
use Rattle.facts.proofs.MoveLemmas.{moved, on, right}
use Rattle.facts.proofs.UserLemmas.{used_fact}

-- a plain fact leads to itself, whatever the entries are
pub plain_over : (names : Names) → IsNameTable names → (before board : Board) → AreAnswers before → AreAnswers board → KeepsLevels before board → (rows next : Rows) (tickets : List ℕ) (t : FactTable) → FactsBut names before t rows tickets Plain (λ q. false)
    → next.statements ≡ rows.statements → ShowsRows names board next Plain → FitsBoard board names → FactsBut names board t next tickets Plain (is_touched Plain board t)
plain_over names are before board answers_before answers levels rows next tickets t s statements shows fits =
    moved names are Plain before board answers_before answers levels rows next tickets tickets t t (is_touched Plain board t) (λ q. true) s
    (record {
      shows = shows;
      fits = fits;
      live = s.live;
      users = λ q lq. s.users q lq ∙ ap (users_in Plain (kept_at names q).name tickets) (sym statements);
      leads_there = λ q used. let l = s.leads_there q used in record { live = l.live; names = l.names };
      linked = s.linked;
      truths = λ q used free. absurd (true≢false free);
    })
    (λ q used free. record { used = used; leads = refl; truth = refl; free = free })

pub led_cleared : (names : Names) (entries : List Entry) (t cleared : FactTable) → ((q : ℕ) → fact_at cleared q ≡ fact_at t q) → ((e : ℕ) → facts_with_end cleared e ≡ facts_with_end t e) → (xs : List Led) → AllByRecursion (IsLed names t entries) xs → AllByRecursion (IsLed names cleared entries) xs
led_cleared names entries t cleared stay links [] all = tt
led_cleared names entries t cleared stay links (x ∷ xs) all = (
  record {
    used = ap (λ (o : Option Fact). not (is_empty (users_or_none o))) (stay x.fact.0) ∙ all.0.used;
    leads_there = all.0.leads_there;
    under = λ e h. ap (λ (fs : List NameId). has_end_of_fact fs x.fact.0) (links e) ∙ all.0.under e h;
  },
  led_cleared names entries t cleared stay links xs all.1,
)

module _ (names : Names) (are : IsNameTable names) (before board : Board) (answers_before : AreAnswers before) (answers : AreAnswers board) (levels : KeepsLevels before board) (rows next : Rows) (tickets : List ℕ) (n : Values) (t new : FactTable) (led : List Led)
    (s : FactsBut names before t rows tickets Follow (λ q. false)) (statements : next.statements ≡ rows.statements) (shows : ShowsRows names board next Follow) (fits : FitsBoard board names)
    (same_ends : (x : Values) → leads_to rows.entries x n ≡ false → ends next.entries x ≡ ends rows.entries x) (all : AllByRecursion (IsLed names t next.entries) led)
    (whole : (q : ℕ) → is_used t q ≡ true → leads_to rows.entries (kept_at names q).name n ≡ true → is_led led q ≡ true)
    (does : (passes : ℕ → Bool) → AreLedBut names board t next tickets passes led → AreLedBut names board new next tickets passes []) where
  apart : (q : ℕ) → is_used t q ≡ true → is_led led q ≡ false → leads_to rows.entries (kept_at names q).name n ≡ false
  apart q used free = by (leads_to rows.entries (kept_at names q).name n) refl
    where
      by : (b : Bool) → leads_to rows.entries (kept_at names q).name n ≡ b → leads_to rows.entries (kept_at names q).name n ≡ false
      by true e = absurd (true≢false (sym (whole q used e) ∙ free))
      by false e = e

  leads_still : (q : ℕ) → is_used t q ≡ true → is_led led q ≡ false → LeadsTo names next.entries Follow q (leads_of Follow t q)
  leads_still q used free = let l = s.leads_there q used in record { live = l.live; names = l.names ∙ sym (same_ends (kept_at names q).name (apart q used free)) }

  begins : (passes : ℕ → Bool) → ((q : ℕ) → is_used t q ≡ true → is_led led q ≡ false → passes q ≡ false → truth_of_fact t q ≡ fact_truth next Follow (kept_at names q).name) → AreLedBut names board t next tickets passes led
  begins passes truths = record {
    shows = shows;
    fits = fits;
    live = s.live;
    users = λ q lq. s.users q lq ∙ ap (users_in Follow (kept_at names q).name tickets) (sym statements);
    led = all;
    leads_there = leads_still;
    linked = s.linked;
    truths = truths;
  }

  -- before any of these facts has its new ends
  pub led_first : AreLedBut names board t next tickets (λ q. true) led
  led_first = begins (λ q. true) (λ q used free passes. absurd (true≢false passes))

  ended : AreLedBut names board new next tickets (λ q. true) []
  ended = does (λ q. true) led_first

  as_facts : (passes : ℕ → Bool) → AreLedBut names board new next tickets passes [] → FactsBut names board new next tickets Follow passes
  as_facts passes a = record {
    shows = a.shows;
    fits = a.fits;
    live = a.live;
    users = a.users;
    leads_there = λ q used. a.leads_there q used refl;
    linked = a.linked;
    truths = λ q used. a.truths q used refl;
  }

  -- the users of a fact are unchanged, by names
  used_now : (q : ℕ) → is_used t q ≡ true → is_used new q ≡ true
  used_now q used =
      let f = as_facts (λ p. true) ended in
      let lq = s.live q (used_fact t q used) in
      ap (λ (us : List ℕ). not (is_empty us)) (f.users q lq ∙ ap (users_in Follow (kept_at names q).name tickets) statements ∙ sym (s.users q lq)) ∙ used

  same_leads : (q : ℕ) → is_used t q ≡ true → is_led led q ≡ false → leads_of Follow t q ≡ leads_of Follow new q
  same_leads q used free =
      let was = leads_still q used free in
      let is = ended.leads_there q (used_now q used) refl in
      same_numbers names are (leads_of Follow t q) (leads_of Follow new q) was.live is.live (was.names ∙ sym is.names)

  unled_there : (q : ℕ) → is_used t q ≡ true → is_led led q ≡ false → is_touched Follow board new q ≡ false → truth_of_fact t q ≡ fact_truth next Follow (kept_at names q).name
  unled_there q used free untouched =
      let f = as_facts (λ p. true) ended in
      let n_used = used_now q used in
      let e = same_leads q used free in
      let asked = subst (AllByRecursion (λ (x : NameId). 1 ≤ probe_times board x.0)) (sym e) (on names are Follow board answers next tickets new (λ p. true) f q n_used) in
      s.truths q used refl
      ∙ sym (right names are Follow before answers_before rows tickets t (λ p. false) s q used)
      ∙ sym (truths_stay before board (leads_of Follow t q) levels (on names are Follow before answers_before rows tickets t (λ p. false) s q used) asked (ap (list_any (λ (x : NameId). is_probe_marked board x.0)) e ∙ untouched))
      ∙ ap (truth_at_ends board) e
      ∙ right names are Follow board answers next tickets new (λ p. true) f q n_used

  pub led_facts : FactsBut names board new next tickets Follow (is_touched Follow board new)
  led_facts = as_facts (is_touched Follow board new) (does (is_touched Follow board new) (begins (is_touched Follow board new) unled_there))

pub cleared_whole : (names : Names) (rows : Rows) (t cleared : FactTable) (led : List Led) (n : Values) → ((q : ℕ) → fact_at cleared q ≡ fact_at t q) → ((q : ℕ) → is_used t q ≡ true → leads_to rows.entries (kept_at names q).name n ≡ true → is_led led q ≡ true)
    → (q : ℕ) → is_used cleared q ≡ true → leads_to rows.entries (kept_at names q).name n ≡ true → is_led led q ≡ true
cleared_whole names rows t cleared led n stay whole q used = whole q (sym (ap (λ (o : Option Fact). not (is_empty (users_or_none o))) (stay q)) ∙ used)
