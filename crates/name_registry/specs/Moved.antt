-- The changes of a registry.
use Rattle.std.specs.Prelude.{◌≡◌, ◌∷◌, ◌++◌, [], List, Option, Result, IfOk, IfErr, OnOk, OnErr}
use Rattle.cpe_rows.specs.cpe_name.Eleven.{Values}
use Rattle.cpe_rows.specs.Lawful.{IsDictionary}
use Rattle.cpe_rows.specs.declared.entry.Deprecation.{Deprecation}
use Rattle.cpe_rows.specs.declared.entry.Entry.{Entry}
use Rattle.name_index.specs.declared.table.NameId.{NameId}
use Rattle.name_index.specs.Table.{HoldsName, IsLive}
use Rattle.cpe_dictionary.specs.deprecation_graph.declared.fill_fault.FillFault.{FillFault}
use Rattle.cpe_dictionary.specs.deprecation_graph.declared.fill_fault.FillFault.TheVariants as fault
use Rattle.cpe_dictionary.specs.Given.{each_deprecated}
use Rattle.name_registry.specs.Given.{KeepsHolds}
use Rattle.name_registry.specs.Registered.{AreHeld, name_in, Registered}

-- A name has one hold more, which the caller has, and its number is returned; or memory ran out.
pub record NameHeld {Fault : Type 0} (old new : Registered) (name : Values) (result : Result NameId Fault) : Type 0 where
  -- the number is live
  pub live : IfOk result (λ id. IsLive new.table id.0)
  -- the number has this name
  pub named : IfOk result (λ id. name_in new.table id ≡ name)
  -- the name has one hold more
  pub held : IfOk result (λ id. HoldsName old.table new.table id.0 name)
  -- the entries are unchanged
  pub entries : new.entries ≡ old.entries
  -- the items are unchanged
  pub items : new.items ≡ old.items
  -- the name is added to the names that the caller holds
  pub others : (besides : List Values) → AreHeld old besides → OnOk result (AreHeld new (name ∷ besides))
  -- if memory ran out, the registry is unchanged
  pub err : OnErr result (new ≡ old)

-- Table, entries and items are unchanged.
pub record SameRegistry (old new : Registered) : Type 0 where
  pub table : new.table ≡ old.table
  pub entries : new.entries ≡ old.entries
  pub items : new.items ≡ old.items

-- An entry was added, whose name has this number.
pub record EntryAdded (old new : Registered) (id : NameId) (entry : Entry) : Type 0 where
  pub table : new.table ≡ old.table
  pub items : new.items ≡ old.items
  -- the entry is appended
  pub entries : new.entries ≡ old.entries ++ entry ∷ []
  -- the entry takes over a hold of its name
  pub others : (besides : List Values) → AreHeld old (name_in old.table id ∷ besides) → AreHeld new besides

-- An entry was changed. `changed` are the entries after it.
pub record EntryChanged (old new : Registered) (changed : List Entry) : Type 0 where
  pub table : new.table ≡ old.table
  pub items : new.items ≡ old.items
  pub entries : new.entries ≡ changed
  -- the names that the caller holds are unchanged
  pub others : KeepsHolds old new

-- Each entry has the deprecation at its place, or none; or the entries would be no lawful dictionary, or memory ran
-- out.
pub record AllDeprecated {Done : Type 0} (old new : Registered) (deprecations : List (Option Deprecation)) (result : Result Done FillFault) : Type 0 where
  -- the table is unchanged
  pub table : new.table ≡ old.table
  -- the items are unchanged
  pub items : new.items ≡ old.items
  -- each entry has the deprecation at its place, or none
  pub ok : OnOk result (new.entries ≡ each_deprecated old.entries deprecations)
  -- the names that the caller holds are unchanged
  pub others : KeepsHolds old new
  -- if the fault is Unlawful, the entries would be no lawful dictionary
  pub unlawful : IfErr result (λ f. f ≡ fault.Unlawful → IsDictionary (each_deprecated old.entries deprecations) → ⊥)
  -- after a fault, the registry is unchanged
  pub err : OnErr result (new ≡ old)

-- An item was added, whose name has this number.
pub record ItemRegistered (old new : Registered) (id : NameId) : Type 0 where
  pub table : new.table ≡ old.table
  pub entries : new.entries ≡ old.entries
  -- the item is appended
  pub items : new.items ≡ old.items ++ name_in old.table id ∷ []
  -- the item takes over a hold of its name
  pub others : (besides : List Values) → AreHeld old (name_in old.table id ∷ besides) → AreHeld new besides
