-- What a change of a deprecation changes of the facts.
use Rattle.std.specs.Prelude.{◌≡◌, ◌≤◌, ℕ, List, length, Some, true}
use Rattle.std.specs.List.{AllByRecursion}
use Rattle.cpe_rows.specs.cpe_name.Eleven.{Values}
use Rattle.name_index.specs.Elements.{SameElements}
use Rattle.name_index.specs.declared.table.NameId.{NameId}
use Rattle.name_index.specs.Table.{Names, kept_at}
use Rattle.name_index.specs.step_count.Within.{StepsWithin}
use Rattle.cpe_rows.specs.After.{after}
use Rattle.cpe_rows.specs.Chains.{leads_to}
use Rattle.cpe_rows.specs.Lawful.{IsLawful}
use Rattle.cpe_rows.specs.Rows.{Rows}
use Rattle.cpe_rows.specs.declared.edit.Edit.{Edit}
use Rattle.cpe_rows.specs.declared.entry.Entry.{Entry}
use Rattle.cpe_rows.specs.declared.statement.Mode.{Mode}
use Rattle.cpe_rows.specs.declared.statement.Mode.TheVariants.{Follow}
use Rattle.cpe_rows.specs.Touching.{deprecation_changed}
use Rattle.fact_laws.specs.Shown.{names_at}
use Rattle.fact_laws.specs.Asked.{statement_facts}
use Rattle.fact_boards.specs.Kept.{AreFactNames, ends_of_led}
use Rattle.fact_boards.specs.Lists.{IsWide}
use Rattle.facts.specs.declared.lead.Led.{Led}
use Rattle.facts.specs.Facts.{AreChanges, AreUsed, FactsNow, HasFacts, is_used, table_of}
use Rattle.facts.specs.Leads.{is_led, IsLed}
use Rattle.facts.specs.Looks.{lead_looks}

-- These are the ends, before and after a change of the deprecation of an entry, of the items and of the facts that lead to the
-- entry, and these facts with their new ends. After the change the entries are `left`.
pub record IsLead (f : FactsNow) (table : Names) (rows : Rows) (left : List Entry) (n : Values) (items_from items_to facts_from facts_to : List NameId) (led : List Led) : Type 0 where
  pub items_before : SameElements (names_at table items_from) (ends_of_led rows.entries rows.entries n rows.items)
  pub items_after : SameElements (names_at table items_to) (ends_of_led rows.entries left n rows.items)
  pub facts_before : SameElements (names_at table facts_from) (ends_of_led rows.entries rows.entries n (statement_facts Follow rows.statements))
  pub facts_after : SameElements (names_at table facts_to) (ends_of_led rows.entries left n (statement_facts Follow rows.statements))
  pub led_there : AllByRecursion (IsLed table f.follow left) led
  pub whole : (id : ℕ) → is_used f.follow id ≡ true → leads_to rows.entries (kept_at table id).name n ≡ true → is_led led id ≡ true

-- There is room for this many new ends of items, and of facts.
pub record HasRoomForEnds (f : FactsNow) (table : Names) (of_items of_facts : ℕ) : Type 0 where
  pub wide : IsWide f.boards.follow table
  pub room_items : of_items ≤ f.boards.follow.target_room
  pub room_facts : of_facts ≤ f.boards.follow.probe_room
  pub few_items : of_items ≤ 268435456
  pub few_facts : of_facts ≤ 268435456

-- The ends are names, and there is room for the new ones.
pub record AreReadyEnds (f : FactsNow) (table : Names) (items_from items_to facts_from facts_to : List NameId) : Type 0 where
  pub live_items_from : AreFactNames table items_from
  pub live_items_to : AreFactNames table items_to
  pub live_facts_from : AreFactNames table facts_from
  pub live_facts_to : AreFactNames table facts_to
  pub room : HasRoomForEnds f table (length items_to) (length facts_to)

-- The ends may change.
pub record MayChangeEnds (f : FactsNow) (table : Names) (items_from items_to facts_from facts_to : List NameId) (led : List Led) : Type 0 where
  pub ready : AreReadyEnds f table items_from items_to facts_from facts_to
  -- the facts are those of lawful rows, of which an edit changes the deprecation of an entry
  pub rows_before : (rows : Rows) × (tickets : List ℕ) × (e : Edit) × (n : Values) × (deprecation_changed e ≡ Some n) × IsLawful rows × HasFacts table f rows tickets × IsLead f table rows (after rows e).entries n items_from items_to facts_from facts_to led

-- The ends changed.
pub record EndsChanged (old new : FactsNow) (table : Names) (items_from items_to facts_from facts_to : List NameId) (led : List Led) (before now : ℕ) : Type 0 where
  pub facts : (rows : Rows) (tickets : List ℕ) (e : Edit) (n : Values) → deprecation_changed e ≡ Some n → HasFacts table old rows tickets
      → IsLead old table rows (after rows e).entries n items_from items_to facts_from facts_to led → HasFacts table new (after rows e) tickets
  -- the changed facts are exactly those whose truth was replaced
  pub changed : (rows : Rows) (tickets : List ℕ) (e : Edit) (n : Values) → deprecation_changed e ≡ Some n → HasFacts table old rows tickets
      → IsLead old table rows (after rows e).entries n items_from items_to facts_from facts_to led → (m : Mode) → AreChanges (table_of old m) (table_of new m)
  -- each fact is still in use
  pub used : AreUsed old → AreUsed new
  pub steps : (rows : Rows) (tickets : List ℕ) (e : Edit) (n : Values) → deprecation_changed e ≡ Some n → HasFacts table old rows tickets
      → IsLead old table rows (after rows e).entries n items_from items_to facts_from facts_to led → StepsWithin before now (lead_looks rows (after rows e) n)
