-- Lemmas: unmarked probes keep their truths, and changes of the table leave the boards unchanged.
use Rattle.std.proofs.Common.{◌≡◌, ℕ, ◌≤◌, false, List, [], ◌∷◌, Option, Some, None, refl, sym, ap, ◌∙◌, arith}
use Rattle.std.specs.List.{list_any, AllByRecursion}
use Rattle.cpe_rows.specs.cpe_name.Eleven.{Values}
use Rattle.cpe_rows.specs.cpe_relation.Maybe.{maybe}
use Rattle.cpe_rows.specs.cpe_relation.NameRelation.{covers}
use Rattle.name_index.specs.declared.table.NameId.{NameId}
use Rattle.name_index.specs.Table.{Names, find_kept, kept_at, HoldsName, Releases}
use Rattle.level_board.specs.Rows.{Seen, level_now}
use Rattle.level_board.specs.Board.{AreAnswers, Board, FitsBoard, KeepsLevels, is_probe_marked, level_in, probe_at, probe_times, target_times, times_seen as times_of}
use Rattle.cpe_rows.specs.Rows.{Rows}
use Rattle.cpe_rows.specs.Truth.{or_of}
use Rattle.cpe_rows.specs.Verdict.{fact_truth, truth}
use Rattle.cpe_rows.specs.declared.truth.Truth.{Truth}
use Rattle.cpe_rows.specs.declared.statement.Mode.{Mode}
use Rattle.cpe_rows.specs.declared.statement.Mode.TheVariants.{Plain, Follow}
use Rattle.fact_laws.specs.Shown.{name_at, names_at, Shows}
use Rattle.fact_laws.proofs.Shown.{shown_passes, passing_shown}
use Rattle.fact_laws.proofs.Tables.{held_shows, released_shows}
use Rattle.fact_laws.specs.Asked.{leads, target_names}
use Rattle.fact_laws.proofs.Facts.{fact_is}
use Rattle.fact_boards.specs.Lists.{truth_of_names}
use Rattle.fact_boards.proofs.Truths.{first_truth, level_shown, level_truth}
use Rattle.fact_boards.specs.Kept.{AreNowhere, AreSound, board_of_mode, Boards, FitBoards, KeepLevels, ShowRows, ShowsRows}

pub fact_kept : (rows : Rows) (mode : Mode) (names : Names) (fact : Values) (numbers : List NameId) → names_at names numbers ≡ leads rows.entries mode fact → fact_truth rows mode fact ≡ truth_of_names (names_at names numbers) (target_names rows mode)
fact_kept rows mode names fact numbers e = fact_is rows mode fact ∙ ap (λ (ns : List Values). truth_of_names ns (target_names rows mode)) (sym e)

pub answer_kept : (boards : Boards) (mode : Mode) (numbers : List NameId) (answer : Truth)
    → ((names : Names) (list : List Values) → FitsBoard (board_of_mode boards mode) names → Shows names (target_times (board_of_mode boards mode)) list → answer ≡ truth_of_names (names_at names numbers) list)
    → (names : Names) (rows : Rows) (fact : Values) → FitBoards boards names → ShowRows names boards rows → names_at names numbers ≡ leads rows.entries mode fact → answer ≡ fact_truth rows mode fact
answer_kept boards Plain numbers answer by names rows fact fits shows is = by names (target_names rows Plain) fits.plain shows.plain.there ∙ sym (fact_kept rows Plain names fact numbers is)
answer_kept boards Follow numbers answer by names rows fact fits shows is = by names (target_names rows Follow) fits.follow shows.follow.there ∙ sym (fact_kept rows Follow names fact numbers is)

-- ---- one name

-- a probe on the board has a row
pub seen_there : (board : Board) (p : ℕ) → 1 ≤ probe_times board p → (s : Seen) × (probe_at board p ≡ Some s)
seen_there board p some = by (probe_at board p) refl
  where
    by : (o : Option Seen) → probe_at board p ≡ o → (s : Seen) × (probe_at board p ≡ Some s)
    by None e = absurd (omega (arith, some, ap times_of e))
    by (Some s) e = (s, e)

-- the truth that a probe on the board gives to a fact
abbrev reported : Names → ℕ → List Values → Truth
reported names p list = truth (list_any (covers (kept_at names p).name) list) (list_any (maybe (kept_at names p).name) list)

answer_is : (board : Board) (names : Names) (list : List Values) (p : ℕ) (s : Seen) → AreAnswers board → FitsBoard board names → Shows names (target_times board) list → probe_at board p ≡ Some s
    → level_truth (level_now s) ≡ reported names p list
answer_is board names list p s answers fits shows e =
    level_shown board names list p (λ passes id. shown_passes names (target_times board) list passes id shows) (λ passes. passing_shown names (target_times board) list passes shows) (level_now s) (answers names p s fits e)

module _ (names : Names) (old new : Board) (before after : List Values)
    (fits_old : FitsBoard old names) (fits_new : FitsBoard new names) (shows_old : Shows names (target_times old) before) (shows_new : Shows names (target_times new) after)
    (answers_old : AreAnswers old) (answers_new : AreAnswers new) (keeps : KeepsLevels old new) where
  name_stays : (p : ℕ) → 1 ≤ probe_times old p → 1 ≤ probe_times new p → is_probe_marked new p ≡ false → reported names p after ≡ reported names p before
  name_stays p some more apart =
      let s = seen_there old p some in
      let t = seen_there new p more in
      sym (answer_is new names after p t.0 answers_new fits_new shows_new t.1)
      ∙ ap level_truth (sym (ap level_in t.1) ∙ keeps.levels p (omega (arith, some)) (omega (arith, more)) apart ∙ ap level_in s.1)
      ∙ answer_is old names before p s.0 answers_old fits_old shows_old s.1

  names_stay : (numbers : List NameId) → AllByRecursion (λ (x : NameId). 1 ≤ probe_times old x.0) numbers → AllByRecursion (λ (x : NameId). 1 ≤ probe_times new x.0) numbers → AllByRecursion (λ (x : NameId). is_probe_marked new x.0 ≡ false) numbers
      → truth_of_names (names_at names numbers) after ≡ truth_of_names (names_at names numbers) before
  names_stay [] some more apart = refl
  names_stay (x ∷ numbers) some more apart =
      first_truth (name_at names x) (names_at names numbers) after
      ∙ (λ i. or_of (name_stays x.0 some.0 more.0 apart.0 i) (names_stay numbers some.1 more.1 apart.1 i))
      ∙ sym (first_truth (name_at names x) (names_at names numbers) before)

fact_stays : (rows next : Rows) (mode : Mode) (names : Names) (old new : Board) (fact : Values) (numbers : List NameId)
    → FitsBoard old names → FitsBoard new names → ShowsRows names old rows mode → ShowsRows names new next mode → AreAnswers old → AreAnswers new → KeepsLevels old new
    → names_at names numbers ≡ leads rows.entries mode fact → names_at names numbers ≡ leads next.entries mode fact
    → AllByRecursion (λ (x : NameId). 1 ≤ probe_times old x.0) numbers → AllByRecursion (λ (x : NameId). 1 ≤ probe_times new x.0) numbers → AllByRecursion (λ (x : NameId). is_probe_marked new x.0 ≡ false) numbers
    → fact_truth next mode fact ≡ fact_truth rows mode fact
fact_stays rows next mode names old new fact numbers fits_old fits_new is_old is_new answers_old answers_new keeps e f some more apart =
    fact_kept next mode names fact numbers f
    ∙ names_stay names old new (target_names rows mode) (target_names next mode) fits_old fits_new is_old.there is_new.there answers_old answers_new keeps numbers some more apart
    ∙ sym (fact_kept rows mode names fact numbers e)

pub facts_stay : (rows next : Rows) (mode : Mode) (names : Names) (old new : Boards) (fact : Values) (numbers : List NameId)
    → FitBoards old names → FitBoards new names → ShowRows names old rows → ShowRows names new next → AreSound old → AreSound new → KeepLevels old new
    → names_at names numbers ≡ leads rows.entries mode fact → names_at names numbers ≡ leads next.entries mode fact
    → AllByRecursion (λ (x : NameId). 1 ≤ probe_times (board_of_mode old mode) x.0) numbers → AllByRecursion (λ (x : NameId). 1 ≤ probe_times (board_of_mode new mode) x.0) numbers
    → AllByRecursion (λ (x : NameId). is_probe_marked (board_of_mode new mode) x.0 ≡ false) numbers → fact_truth next mode fact ≡ fact_truth rows mode fact
facts_stay rows next Plain names old new fact numbers fits_old fits_new is_old is_new sound_old sound_new levels =
    fact_stays rows next Plain names old.plain new.plain fact numbers fits_old.plain fits_new.plain is_old.plain is_new.plain (sound_old.answers Plain) (sound_new.answers Plain) levels.plain
facts_stay rows next Follow names old new fact numbers fits_old fits_new is_old is_new sound_old sound_new levels =
    fact_stays rows next Follow names old.follow new.follow fact numbers fits_old.follow fits_new.follow is_old.follow is_new.follow (sound_old.answers Follow) (sound_new.answers Follow) levels.follow

-- ---- tables

held_asked : (old new : Names) (id : ℕ) (name : Values) (board : Board) (rows : Rows) (mode : Mode) → HoldsName old new id name → ShowsRows old board rows mode → ShowsRows new board rows mode
held_asked old new id name board rows mode h s = record { asked = held_shows old new id name h (probe_times board) _ s.asked; there = held_shows old new id name h (target_times board) _ s.there }

pub held_boards : (old new : Names) (id : ℕ) (name : Values) (boards : Boards) (rows : Rows) → HoldsName old new id name → ShowRows old boards rows → ShowRows new boards rows
held_boards old new id name boards rows h s = record { plain = held_asked old new id name boards.plain rows Plain h s.plain; follow = held_asked old new id name boards.follow rows Follow h s.follow }

pub released_boards : (old new : Names) (id : ℕ) (boards : Boards) (rows : Rows) → Releases old new id → (find_kept new id ≡ None → AreNowhere boards id) → ShowRows old boards rows → ShowRows new boards rows
released_boards old new id boards rows r none s = record {
  plain = record {
    asked = released_shows old new id r (probe_times boards.plain) _ (λ e. (none e).asked) s.plain.asked;
    there = released_shows old new id r (target_times boards.plain) _ (λ e. (none e).there) s.plain.there;
  };
  follow = record {
    asked = released_shows old new id r (probe_times boards.follow) _ (λ e. (none e).asked_follow) s.follow.asked;
    there = released_shows old new id r (target_times boards.follow) _ (λ e. (none e).there_follow) s.follow.there;
  };
}
