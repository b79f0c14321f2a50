-- What calls change of a table of facts.
use Rattle.std.specs.Prelude.{◌≡◌, ℕ, ◌||◌, Bool, true, false, nat_eq, is_some, List, Some, None, Result, OnOk, OnErr}
use Rattle.std.specs.Option.{option_map}
use Rattle.std.proofs.Common.{Vec, Global}
use Rattle.name_index.specs.declared.table.NameId.{NameId}
use Rattle.cpe_rows.specs.declared.statement.Mode.{Mode}
use Rattle.level_board.specs.Board.{Board}
use Rattle.fact_rows.specs.declared.row.FactRow.{FactRow}
use Rattle.fact_rows.specs.Truths.{truth_at_ends}
use Rattle.fact_rows.specs.Facts.{AreLinkedFacts, FactTable, IsUnder, IsUnderNone, KeepsLinks, NoneIsEmpty, OthersStay, SameElsewhere, SameOthers, truth_differs, ends_of_fact, ends_or_none, fact_at, fact_row_in, facts_of_end, facts_with_end, new_fact, has_end_of_fact, has_fact_room, is_fact, leads_by, leads_of, truth_of_fact, truth_or_unknown, without_truth, users_of, with_ends, with_end}

-- A fact was added, or memory ran out.
pub record FactAdded {Done Fault : Type 0} (old new : FactTable) (fact : ℕ) (its_ends : List NameId) (result : Result Done Fault) : Type 0 where
  -- it has these ends, no users, and room for one
  pub here : OnOk result (fact_at new fact ≡ Some (new_fact its_ends))
  -- if memory ran out it is no fact, and only ends that listed it before list it
  pub none : OnErr result (fact_at new fact ≡ None)
  pub left : OnErr result ((e : ℕ) → has_end_of_fact (facts_with_end old e) fact ≡ false → has_end_of_fact (facts_with_end new e) fact ≡ false)
  -- all others are unchanged
  pub others : OthersStay fact old new
  -- and are linked to the same ends
  pub links : SameOthers fact (facts_with_end old) (facts_with_end new)
  -- each fact is linked to its ends, if that was so before
  pub linked : AreLinkedFacts old → AreLinkedFacts new
  pub changed : new.changed ≡ old.changed

-- A fact was added to the facts of these ends, or memory ran out.
pub record FactLinked {Done Fault : Type 0} (old new : FactTable) (fact : ℕ) (its_ends : List NameId) (result : Result Done Fault) : Type 0 where
  -- each of them lists it
  pub under : OnOk result (IsUnder (facts_with_end new) fact its_ends)
  -- no end loses a fact
  pub links : KeepsLinks (facts_with_end old) (facts_with_end new)
  pub others : SameOthers fact (facts_with_end old) (facts_with_end new)
  pub elsewhere : SameElsewhere its_ends (facts_with_end old) (facts_with_end new)
  -- the facts are unchanged
  pub stay : (q : ℕ) → fact_at new q ≡ fact_at old q
  pub linked : AreLinkedFacts old → AreLinkedFacts new
  pub changed : new.changed ≡ old.changed

-- A fact was removed from the facts of those of these ends that are none of its own.
pub record FactUnlinked (old new : FactTable) (fact : ℕ) (ends : List NameId) : Type 0 where
  pub gone : (e : ℕ) → has_end_of_fact ends e ≡ true → has_end_of_fact (ends_of_fact old fact) e ≡ false → has_end_of_fact (facts_with_end new e) fact ≡ false
  -- its own ends list the same facts
  pub links : (e : ℕ) → has_end_of_fact (ends_of_fact old fact) e ≡ true → facts_with_end new e ≡ facts_with_end old e
  pub others : SameOthers fact (facts_with_end old) (facts_with_end new)
  pub stay : (q : ℕ) → fact_at new q ≡ fact_at old q
  pub linked : AreLinkedFacts old → AreLinkedFacts new
  pub changed : new.changed ≡ old.changed

-- A fact has these ends, if it is one.
pub record EndsSet (old new : FactTable) (fact : ℕ) (its_ends : List NameId) : Type 0 where
  pub here : fact_at new fact ≡ option_map (with_ends its_ends) (fact_at old fact)
  pub stay : OthersStay fact old new
  -- the fact is removed from the lists of its old ends that are not among its new ends; the lists of its new ends are
  -- unchanged
  pub gone : (e : ℕ) → has_end_of_fact (ends_of_fact old fact) e ≡ true → has_end_of_fact its_ends e ≡ false → has_end_of_fact (facts_with_end new e) fact ≡ false
  pub links : (e : ℕ) → has_end_of_fact its_ends e ≡ true → facts_with_end new e ≡ facts_with_end old e
  pub others : SameOthers fact (facts_with_end old) (facts_with_end new)
  -- each end of a fact lists it, if these ends list it already
  pub linked : AreLinkedFacts old → IsUnder (facts_with_end old) fact its_ends → AreLinkedFacts new
  pub changed : new.changed ≡ old.changed

-- A fact was removed, and its links.
pub record FactRemoved (old new : FactTable) (fact : ℕ) : Type 0 where
  pub here : fact_at new fact ≡ None
  pub stay : OthersStay fact old new
  pub gone : IsUnderNone (facts_with_end new) fact (ends_of_fact old fact)
  pub elsewhere : SameElsewhere (ends_of_fact old fact) (facts_with_end old) (facts_with_end new)
  pub others : SameOthers fact (facts_with_end old) (facts_with_end new)
  pub linked : AreLinkedFacts old → AreLinkedFacts new
  pub changed : new.changed ≡ old.changed

-- The same facts have the same ends, users and links.
pub record SameFacts (old new : FactTable) : Type 0 where
  pub there : (q : ℕ) → is_fact new q ≡ is_fact old q
  pub ends : (q : ℕ) → ends_of_fact new q ≡ ends_of_fact old q
  pub users : (q : ℕ) → users_of new q ≡ users_of old q
  pub facts : (e : ℕ) → facts_with_end new e ≡ facts_with_end old e

-- A fact has these users, and nothing else changed.
pub record UsersTo (old new : FactTable) (fact : ℕ) (its_users : List ℕ) : Type 0 where
  pub here : users_of new fact ≡ its_users
  pub others : OthersStay fact old new
  pub there : (q : ℕ) → is_fact new q ≡ is_fact old q
  pub ends : (q : ℕ) → ends_of_fact new q ≡ ends_of_fact old q
  pub truths : (q : ℕ) → truth_of_fact new q ≡ truth_of_fact old q
  pub facts : (e : ℕ) → facts_with_end new e ≡ facts_with_end old e
  pub changed : new.changed ≡ old.changed

-- The truths of some facts were computed again by the levels of a board.
pub record Refreshed (old new : FactTable) (which : ℕ → Bool) (mode : Mode) (board : Board) : Type 0 where
  pub same : SameFacts old new
  pub room : (q : ℕ) → has_fact_room new q ≡ has_fact_room old q
  -- each of these has the truth of the names to which it leads
  pub here : (q : ℕ) → which q ≡ true → is_fact new q ≡ true → truth_of_fact new q ≡ truth_at_ends board (leads_of mode new q)
  -- the truths of the others are unchanged
  pub others : (q : ℕ) → which q ≡ false → truth_of_fact new q ≡ truth_of_fact old q
  -- the changed facts are those that were listed before, and those whose truth was replaced
  pub changed : (q : ℕ) → has_end_of_fact new.changed q ≡ (has_end_of_fact old.changed q || truth_differs (truth_of_fact old q) (truth_of_fact new q))

-- ---- the same for rows alone

pub record RowsRefreshed (old new : List (ℕ × FactRow)) (before after : List NameId) (which : ℕ → Bool) (mode : Mode) (board : Board) : Type 0 where
  pub same : (q : ℕ) → option_map without_truth (fact_row_in new q) ≡ option_map without_truth (fact_row_in old q)
  pub here : (q : ℕ) → which q ≡ true → is_some (fact_row_in new q) ≡ true → truth_or_unknown (fact_row_in new q) ≡ truth_at_ends board (leads_by mode q (ends_or_none (fact_row_in new q)))
  pub others : (q : ℕ) → which q ≡ false → truth_or_unknown (fact_row_in new q) ≡ truth_or_unknown (fact_row_in old q)
  pub changed : (q : ℕ) → has_end_of_fact after q ≡ (has_end_of_fact before q || truth_differs (truth_or_unknown (fact_row_in old q)) (truth_or_unknown (fact_row_in new q)))

-- A fact was added to those of an end, or memory ran out.
pub record LinkAdded {Done Fault : Type 0} (old new : List (ℕ × Vec NameId Global)) (its_end : ℕ) (fact : NameId) (result : Result Done Fault) : Type 0 where
  -- it is the last one, unless it was among them
  pub here : OnOk result (facts_of_end new its_end ≡ with_end fact (facts_of_end old its_end))
  -- the facts of other ends are unchanged
  pub others : (other : ℕ) → nat_eq its_end other ≡ false → facts_of_end new other ≡ facts_of_end old other
  -- and if memory ran out so are those of this one
  pub err : OnErr result (facts_of_end new its_end ≡ facts_of_end old its_end)
  -- no list is empty
  pub tight : NoneIsEmpty old → NoneIsEmpty new
