-- Lemmas: releases of names that leave the boards unchanged.
use Rattle.std.proofs.Common.{◌≡◌, ℕ, zero, suc, ◌≤◌, Bool, true, List, Option, Some, None, refl, sym, ap, subst, ◌∙◌, arith}
use Rattle.std.specs.List.{list_any}
use Rattle.std.proofs.lemmas.Option.{none-some}
use Rattle.cpe_rows.specs.cpe_name.Eleven.{Values}
use Rattle.cpe_rows.specs.cpe_name.Equal.{same_name, same_name-Decides}
use Rattle.name_index.specs.Table.{IsNameTable, Names, Kept, find_kept, Releases}
use Rattle.level_board.specs.Board.{probe_times, target_times}
use Rattle.cpe_rows.specs.Rows.{Rows}
use Rattle.cpe_rows.specs.declared.statement.Mode.TheVariants.{Plain, Follow}
use Rattle.fact_laws.specs.Shown.{Shows, times_named}
use Rattle.fact_laws.proofs.Shown.{any_named, first_passing, same_names}
use Rattle.fact_laws.proofs.Tables.{was_live}
use Rattle.fact_laws.specs.Asked.{asked, names_of_rows, target_names}
use Rattle.fact_laws.proofs.Kept.{asked_kept, there_kept}
use Rattle.fact_boards.proofs.Fitting.{released_fit}
use Rattle.fact_boards.specs.Kept.{AreKnown, AreNowhere, AreSound, Boards, FitBoards, ShowRows}
use Rattle.fact_boards.proofs.Answers.{released_boards}

-- if a list has a name, some name of the list is equal to it
present : (n : Values) (list : List Values) → 1 ≤ times_named n list → list_any (same_name n) list ≡ true
present n list h = any_named (same_name n) n list (same_names n n refl) h

rows_before : (n : Values) (list : List Values) → list_any (same_name n) list ≡ true → 1 ≤ times_named n list
rows_before n list h =
    let found = first_passing (same_name n) list h in
    subst (λ (m : Values). 1 ≤ times_named m list) (sym ((same_name-Decides n found.0).0 found.1)) found.2

module _ (old new : Names) (id : ℕ) (boards : Boards) (rows : Rows) (are : IsNameTable old) (r : Releases old new id) (known : AreKnown new rows) where
  -- a number that isn't live any more has multiplicity 0
  nowhere : (times : ℕ → ℕ) (list : List Values) → ((p : Values → Bool) → list_any p list ≡ true → list_any p (names_of_rows rows) ≡ true) → Shows old times list → find_kept new id ≡ None → times id ≡ 0
  nowhere times list within s gone = by (find_kept old id) refl
    where
      by : (o : Option Kept) → find_kept old id ≡ o → times id ≡ 0
      by None e = s.nowhere id e
      by (Some k) e = none (times id) refl
        where
          none : (n : ℕ) → times id ≡ n → times id ≡ 0
          none zero is = is
          none (suc n) is =
              let kept = known k.name (rows_before k.name (names_of_rows rows) (within (same_name k.name) (present k.name list (omega (arith, is, s.counts id k e))))) in
              let before = was_live old new id r kept.0 kept.1.0 kept.1.1 in
              let same : id ≡ kept.0 = are.different id kept.0 k before.0 e before.1 (sym (before.2 ∙ kept.1.2)) in
              absurd (none-some kept.1.0 (sym gone ∙ ap (find_kept new) same ∙ kept.1.1))

  pub are_nowhere : ShowRows old boards rows → find_kept new id ≡ None → AreNowhere boards id
  are_nowhere s gone = record {
    asked = nowhere (probe_times boards.plain) (asked rows Plain) (asked_kept rows Plain) s.plain.asked gone;
    there = nowhere (target_times boards.plain) (target_names rows Plain) (there_kept rows Plain) s.plain.there gone;
    asked_follow = nowhere (probe_times boards.follow) (asked rows Follow) (asked_kept rows Follow) s.follow.asked gone;
    there_follow = nowhere (target_times boards.follow) (target_names rows Follow) (there_kept rows Follow) s.follow.there gone;
  }

  pub still_asked : ShowRows old boards rows → ShowRows new boards rows
  still_asked s = released_boards old new id boards rows r (are_nowhere s) s

  pub still_fit : AreSound boards → ShowRows old boards rows → FitBoards boards old → FitBoards boards new
  still_fit sound s f = record {
    plain = released_fit old new id boards.plain (sound.on Plain) r (λ e. (are_nowhere s e).asked) (λ e. (are_nowhere s e).there) f.plain;
    follow = released_fit old new id boards.follow (sound.on Follow) r (λ e. (are_nowhere s e).asked_follow) (λ e. (are_nowhere s e).there_follow) f.follow;
  }
