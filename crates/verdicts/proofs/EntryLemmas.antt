-- Verdicts after an entry was added, and verdicts of rows that are entries alone.
use Rattle.std.proofs.Common.{◌≡◌, ℕ, true, not, List, [], ◌∷◌, length, refl, sym, ap, ◌∙◌}
use Rattle.std.proofs.lemmas.Bool.{true≢false}
use Rattle.cpe_rows.specs.cpe_name.Eleven.{Values}
use Rattle.name_index.specs.Table.{Names, kept_at}
use Rattle.facts.specs.level_board.Board.{Board}
use Rattle.cpe_rows.specs.Chains.{ends}
use Rattle.cpe_rows.specs.Rows.{Rows}
use Rattle.cpe_rows.specs.Verdict.{fact_truth}
use Rattle.cpe_rows.specs.declared.entry.Entry.{Entry}
use Rattle.cpe_rows.specs.declared.statement.Mode.{Mode}
use Rattle.cpe_rows.specs.declared.statement.Mode.TheVariants.{Plain, Follow}
use Rattle.facts.specs.fact_laws.Asked.{leads}
use Rattle.fact_boards.specs.Kept.{ShowRows, ShowsRows}
use Rattle.facts.specs.fact_rows.Facts.{FactTable}
use Rattle.facts.specs.ticket_list.Tickets.{is_empty}
use Rattle.facts.specs.Facts.{FactsOf, is_used}
use Rattle.facts.specs.Users.{users_in}
use Rattle.facts.proofs.UserLemmas.{used_fact}
use Rattle.verdicts.specs.Verdicts.{HasVerdicts, only_entries, tickets_in, VerdictsNow}

-- ---- an entry was added

leads_kept : (rows next : Rows) → ((n : Values) → ends next.entries n ≡ ends rows.entries n) → (mode : Mode) (n : Values) → leads rows.entries mode n ≡ leads next.entries mode n
leads_kept rows next same Plain n = refl
leads_kept rows next same Follow n = sym (same n)

entry_mode : (names : Names) (board : Board) (t : FactTable) (rows next : Rows) (tickets : List ℕ) (mode : Mode) → FactsOf names board t rows tickets mode → next.statements ≡ rows.statements → ((n : Values) → ends next.entries n ≡ ends rows.entries n)
    → ((n : Values) → fact_truth next mode n ≡ fact_truth rows mode n) → ShowsRows names board next mode → FactsOf names board t next tickets mode
entry_mode names board t rows next tickets mode s statements same truths shows = record {
  shows = shows;
  fits = s.fits;
  live = s.live;
  users = λ q live. s.users q live ∙ ap (users_in mode (kept_at names q).name tickets) (sym statements);
  leads_there = λ q used. let l = s.leads_there q used in record { live = l.live; names = l.names ∙ leads_kept rows next same mode (kept_at names q).name };
  linked = s.linked;
  truths = λ q used free. s.truths q used free ∙ sym (truths (kept_at names q).name);
}

pub entry_verdicts : (names : Names) (v : VerdictsNow) (rows next : Rows) → HasVerdicts names v rows → next.statements ≡ rows.statements → next.checks ≡ rows.checks → ((n : Values) → ends next.entries n ≡ ends rows.entries n)
    → ((mode : Mode) (n : Values) → fact_truth next mode n ≡ fact_truth rows mode n) → ShowRows names v.facts.boards next → HasVerdicts names v next
entry_verdicts names v rows next h statements checks same truths shows = record {
  statements = h.statements ∙ sym statements;
  checks = h.checks ∙ sym checks;
  numbered = h.numbered;
  facts = record {
    plain = entry_mode names v.facts.boards.plain v.facts.plain rows next (tickets_in v.statements.rows) Plain h.facts.plain statements same (truths Plain) shows.plain;
    follow = entry_mode names v.facts.boards.follow v.facts.follow rows next (tickets_in v.statements.rows) Follow h.facts.follow statements same (truths Follow) shows.follow;
    settled = h.facts.settled;
    numbered = record { each = h.facts.numbered.each ∙ sym (ap length statements); rising = h.facts.numbered.rising };
  };
  needed = h.needed;
  sound = h.sound;
  judged = h.judged;
}

-- ---- entries alone

none_used : (names : Names) (board : Board) (t : FactTable) (was : List Entry) (tickets : List ℕ) (mode : Mode) → FactsOf names board t (only_entries was) tickets mode → (q : ℕ) → is_used t q ≡ true → ⊥
none_used names board t was tickets mode s q used =
    true≢false (sym used ∙ ap (λ (us : List ℕ). not (is_empty us)) (s.users q (s.live q (used_fact t q used)) ∙ nobody tickets))
  where
    nobody : (ts : List ℕ) → users_in mode (kept_at names q).name ts [] ≡ []
    nobody [] = refl
    nobody (x ∷ ts) = refl

alone_mode : (names : Names) (board : Board) (t : FactTable) (was now : List Entry) (tickets : List ℕ) (mode : Mode) → FactsOf names board t (only_entries was) tickets mode → ShowsRows names board (only_entries now) mode → FactsOf names board t (only_entries now) tickets mode
alone_mode names board t was now tickets mode s shows = record {
  shows = shows;
  fits = s.fits;
  live = s.live;
  users = s.users;
  leads_there = λ q used. absurd (none_used names board t was tickets mode s q used);
  linked = s.linked;
  truths = λ q used free. absurd (none_used names board t was tickets mode s q used);
}

pub alone_verdicts : (names : Names) (v : VerdictsNow) (was now : List Entry) → HasVerdicts names v (only_entries was) → HasVerdicts names v (only_entries now)
alone_verdicts names v was now h = record {
  statements = h.statements;
  checks = h.checks;
  numbered = h.numbered;
  facts = record {
    plain = alone_mode names v.facts.boards.plain v.facts.plain was now (tickets_in v.statements.rows) Plain h.facts.plain (record { asked = h.facts.plain.shows.asked; there = h.facts.plain.shows.there });
    follow = alone_mode names v.facts.boards.follow v.facts.follow was now (tickets_in v.statements.rows) Follow h.facts.follow (record { asked = h.facts.follow.shows.asked; there = h.facts.follow.shows.there });
    settled = h.facts.settled;
    numbered = h.facts.numbered;
  };
  needed = h.needed;
  sound = h.sound;
  judged = h.judged;
}
