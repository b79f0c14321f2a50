-- A planned change of the deprecation of an entry: what leads there, and what the change needs.
use Rattle.std.specs.Prelude.{◌≡◌, ℕ, List, [], Some, filter, position}
use Rattle.cpe_rows.specs.cpe_name.Eleven.{Values}
use Rattle.name_index.specs.declared.table.NameId.{NameId}
use Rattle.name_index.specs.Table.{IsLive, Names, kept_at}
use Rattle.cpe_rows.specs.Chains.{leads_to}
use Rattle.cpe_rows.specs.Rows.{is_named, Rows}
use Rattle.cpe_rows.specs.declared.entry.Entry.{Entry}
use Rattle.cpe_rows.specs.declared.statement.Mode.TheVariants.{Follow}
use Rattle.cpe_dictionary.specs.Plans.{IsAllowed, ends_by}
use Rattle.cpe_dictionary.specs.declared.plans.Plan.{Plan}
use Rattle.name_registry.specs.Registered.{name_in, Registered}
use Rattle.facts.specs.fact_laws.Shown.{names_at}
use Rattle.facts.specs.fact_laws.Asked.{statement_facts}
use Rattle.fact_boards.specs.Kept.{AreFactNames}
use Rattle.facts.specs.fact_rows.Facts.{fact_at, facts_with_end, FactTable, IsUnder, KeepsLinks}
use Rattle.facts.specs.Facts.{FactsNow}
use Rattle.facts.specs.LeadCalls.{AreReadyEnds, IsLead}
use Rattle.facts.specs.Room.{KeepsFacts}
use Rattle.facts.specs.declared.lead.Led.{Led}
use Rattle.verdicts.specs.Rows.{AreOfRows}
use Rattle.verdicts.specs.Verdicts.{VerdictsNow}
use Rattle.verdicts.specs.declared.lead.Lead.{Lead}

-- The lists of the lead are the ends of what leads to the entry of this name, before and after a change that leaves these entries.
abbrev pub HasLead : VerdictsNow → Names → Rows → List Entry → Values → Lead → Type 0
HasLead v table rows left n lead = IsLead v.facts table rows left n lead.items_from.items lead.items_to.items lead.facts_from.items lead.facts_to.items lead.facts.items

-- Also, all of them are names, and there is room for the new ones.
pub record IsReadyLead (v : VerdictsNow) (table : Names) (rows : Rows) (left : List Entry) (n : Values) (lead : Lead) : Type 0 where
  pub lists : HasLead v table rows left n lead
  pub ready : AreReadyEnds v.facts table lead.items_from.items lead.items_to.items lead.facts_from.items lead.facts_to.items

-- A lead may be made ready for the planned change.
pub record MayReadyLead (registry : Registered) (v : VerdictsNow) (id : NameId) (plan : Plan) : Type 0 where
  -- the number is that of a name
  pub live : IsLive registry.table id.0
  -- the plan changes the entry of this name
  pub number : position (is_named (name_in registry.table id)) registry.entries ≡ Some plan.number
  pub allowed : IsAllowed registry.entries plan.number plan.next
  -- registry and verdicts are those of lawful rows
  pub rows_before : (rows : Rows) × AreOfRows registry v rows

-- No item and no followed fact leads to the entry of a name.
pub record IsUnled (rows : Rows) (n : Values) : Type 0 where
  pub items : filter (λ x. leads_to rows.entries x n) rows.items ≡ []
  pub facts : filter (λ x. leads_to rows.entries x n) (statement_facts Follow rows.statements) ≡ []

-- The fact will have these ends after the planned change, and it is linked to them already.
pub record IsLinkedAhead (table : Names) (entries : List Entry) (plan : Plan) (t : FactTable) (led : Led) : Type 0 where
  pub live : AreFactNames table led.ends.items
  pub names : names_at table led.ends.items ≡ ends_by entries (Some plan) (kept_at table led.fact.0).name
  pub under : IsUnder (facts_with_end t) led.fact.0 led.ends.items

-- Facts of mode follow were linked to more ends, and nothing else changed.
pub record MoreLinks (old new : FactsNow) : Type 0 where
  pub facts : KeepsFacts old new
  pub stay : (q : ℕ) → fact_at new.follow q ≡ fact_at old.follow q
  pub links : KeepsLinks (facts_with_end old.follow) (facts_with_end new.follow)
  pub boards : new.boards ≡ old.boards
  pub plain : new.plain ≡ old.plain
