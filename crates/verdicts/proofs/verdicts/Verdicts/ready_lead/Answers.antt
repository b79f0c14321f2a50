use Rattle.std.proofs.Common.{◌≡◌, Bool, true, List, Some, ap, filter, length, subst, sym, ◌∙◌}
use Rattle.std.specs.List.{AllByRecursion, flat_map, list_any}
use Rattle.cpe_rows.specs.cpe_name.Eleven.{Values}
use Rattle.cpe_rows.specs.Chains.{ends}
use Rattle.cpe_rows.specs.Names.{is_same}
use Rattle.cpe_rows.specs.Rows.{Rows}
use Rattle.cpe_rows.specs.declared.entry.Entry.{Entry}
use Rattle.cpe_dictionary.specs.Plans.{ends_by, IsAllowed}
use Rattle.name_registry.specs.Registered.{name_in}
use Rattle.name_index.specs.declared.table.NameId.{NameId}
use Rattle.name_index.specs.Table.{IsNameTable, Names}
use Rattle.facts.specs.fact_laws.Shown.{names_at}
use Rattle.fact_boards.specs.Kept.{AreFactNames}
use Rattle.facts.specs.fact_rows.Facts.{ends_of_fact, fact_at, FactTable}
use Rattle.facts.specs.Facts.{HasFacts, is_used}
use Rattle.facts.specs.LeadCalls.{HasRoomForEnds}
use Rattle.facts.specs.declared.lead.Led.{Led}
use Rattle.verdicts.specs.Leads.{IsLinkedAhead}
use Rattle.verdicts.specs.Verdicts.{HasVerdicts, tickets_in, VerdictsNow}
use Rattle.verdicts.proofs.JudgeLemmas.{roomier}
use Rattle.verdicts.proofs.LeadLemmas.{linked_verdicts, ready_lead}
use Rattle.verdicts.proofs.NumberLemmas.{all_passing, live_filtered}
use Rattle.verdicts.proofs.PlannedLemmas.{ends_named}
use Rattle.verdicts.proofs.verdicts.Verdicts.ready_lead.Goals as goal

pub link_all-requires-clause-live : goal.link_all-requires-clause-live
link_all-requires-clause-live c =
    let used : NameId → Bool = λ x. is_used c.self.inside.facts.follow x.0 in
    let is = c.deref-6.ensures.value ∙ c.in_ok-used.ensures ∙ ap (filter used) c.deref-4.ensures.value in
    subst (AreFactNames c.args.registry.now.table) (sym is) (live_filtered c.args.registry.now.table used c.in_ok-sources.sources.items c.in_ok-sources.ensures.live)

pub reserve_ends-requires : goal.reserve_ends-requires
reserve_ends-requires c =
    let registry = c.args.registry.now in
    let rows : Rows = c.requires.rows_before.0 in
    let are = c.requires.rows_before.1 in
    let tickets = tickets_in c.self.inside.statements.rows in
    let h = subst (λ (w : VerdictsNow). HasVerdicts registry.table w rows) (sym c.self.view_is) are.verdicts in
    (rows, tickets, are.lawful, subst (λ (t : Names). HasFacts t c.link_all.new.facts rows tickets) (sym c.table-table.ensures) (c.link_all.ensures.more.facts registry.table rows tickets h.facts))

pub returns-in_err-facts-clause-verdicts : goal.returns-in_err-facts-clause-verdicts
returns-in_err-facts-clause-verdicts c names rows rows_before =
    let v : VerdictsNow = record { facts = c.self.inside.facts; statements = c.self.inside.statements } in
    let h = subst (λ (w : VerdictsNow). HasVerdicts names w rows) (sym c.self.view_is) rows_before in
    linked_verdicts names v c.link_all.new.facts rows c.link_all.ensures.more h

pub returns-in_err-facts_to-clause-verdicts : goal.returns-in_err-facts_to-clause-verdicts
returns-in_err-facts_to-clause-verdicts c names rows rows_before =
    let v : VerdictsNow = record { facts = c.self.inside.facts; statements = c.self.inside.statements } in
    let h = subst (λ (w : VerdictsNow). HasVerdicts names w rows) (sym c.self.view_is) rows_before in
    linked_verdicts names v c.link_all.new.facts rows c.link_all.ensures.more h

pub returns-in_err-reserve_ends-clause-verdicts : goal.returns-in_err-reserve_ends-clause-verdicts
returns-in_err-reserve_ends-clause-verdicts c names rows rows_before =
    let v : VerdictsNow = record { facts = c.self.inside.facts; statements = c.self.inside.statements } in
    let mid : VerdictsNow = record { facts = c.link_all.new.facts; statements = c.self.inside.statements } in
    let h = subst (λ (w : VerdictsNow). HasVerdicts names w rows) (sym c.self.view_is) rows_before in
    let reserved = c.reserve_ends.ensures in
    roomier names mid c.reserve_ends.new.facts rows reserved.facts reserved.plain reserved.follow reserved.sound (linked_verdicts names v c.link_all.new.facts rows c.link_all.ensures.more h)

pub returns-clause-verdicts : goal.returns-clause-verdicts
returns-clause-verdicts c names rows rows_before =
    let v : VerdictsNow = record { facts = c.self.inside.facts; statements = c.self.inside.statements } in
    let mid : VerdictsNow = record { facts = c.link_all.new.facts; statements = c.self.inside.statements } in
    let h = subst (λ (w : VerdictsNow). HasVerdicts names w rows) (sym c.self.view_is) rows_before in
    let reserved = c.reserve_ends.ensures in
    roomier names mid c.reserve_ends.new.facts rows reserved.facts reserved.plain reserved.follow reserved.sound (linked_verdicts names v c.link_all.new.facts rows c.link_all.ensures.more h)

pub returns-clause-lead : goal.returns-clause-lead
returns-clause-lead c rows left are leaves =
    let table = c.args.registry.now.table in
    let registry = c.args.registry.now in
    let plan = c.args.plan.now in
    let v : VerdictsNow = record { facts = c.self.inside.facts; statements = c.self.inside.statements } in
    let new : VerdictsNow = record { facts = c.reserve_ends.new.facts; statements = c.self.inside.statements } in
    let tickets = tickets_in v.statements.rows in
    let h = subst (λ (w : VerdictsNow). HasVerdicts table w rows) (sym c.self.view_is) are.verdicts in
    let sources = c.in_ok-sources.sources.items in
    let found = c.in_ok-items.items.items in
    let used = c.in_ok-used.used.items in
    let in_use : NameId → Bool = λ x. is_used v.facts.follow x.0 in
    let used_is : used ≡ filter in_use sources = c.in_ok-used.ensures ∙ ap (filter in_use) c.deref-4.ensures.value in
    let named = ends_named table v.facts rows tickets h.facts used (subst (AllByRecursion (λ (x : NameId). in_use x ≡ true)) (sym used_is) (all_passing in_use sources)) in
    let ends_are = c.in_ok-facts_from.ensures ∙ ap (flat_map (λ (x : NameId). ends_of_fact v.facts.follow x.0)) c.deref-5.ensures.value in
    let same_follow = c.reserve_ends.ensures.follow in
    let leading : (m : Values) → ends_by registry.entries (Some plan) m ≡ ends left m =
    λ m. ap (λ (es : List Entry). ends_by es (Some plan) m) (sym are.entries) ∙ c.plans_lead.ensures rows.entries left plan m are.lawful.dictionary.names_differ (subst (λ (es : List Entry). IsAllowed es plan.number plan.next) (sym are.entries) c.requires.allowed) leaves in
    ready_lead table (subst IsNameTable c.table-table.ensures c.lawful.ensures) v.facts new rows tickets left registry.entries registry.items plan (name_in table c.args.id) _ sources found used
    are.lawful h.facts are.entries are.items
    c.in_ok-sources.ensures.names c.in_ok-sources.ensures.live
    (c.in_ok-items.ensures.names ∙ ap (λ (ns : List NameId). filter (λ x. list_any (is_same x) registry.items) (names_at table ns)) c.deref.ensures.value)
    used_is
    (c.in_ok-items_from.ensures.names ∙ ap (λ (ns : List NameId). flat_map (ends registry.entries) (names_at table ns)) c.deref-2.ensures.value)
    (c.in_ok-items_to.ensures.names ∙ ap (λ (ns : List NameId). flat_map (ends_by registry.entries (Some plan)) (names_at table ns)) c.deref-3.ensures.value)
    (ap (names_at table) ends_are ∙ named.0)
    (c.in_ok-facts_to.ensures ∙ ap (flat_map (λ (x : Led). x.ends.items)) c.deref-7.ensures.value)
    (c.in_ok-facts.ensures.facts ∙ c.deref-6.ensures.value)
    (subst (λ (t : FactTable). AllByRecursion (IsLinkedAhead table registry.entries plan t) c.in_ok-facts.facts.items) (sym same_follow) c.in_ok-facts.ensures.planned)
    (λ q. ap (λ (t : FactTable). fact_at t q) same_follow ∙ c.link_all.ensures.more.stay q)
    leading
    (subst (λ (ns : List NameId). HasRoomForEnds new.facts table (length c.in_ok-items_to.items_to.items) (length ns)) c.deref-9.ensures.value
    (subst (λ (ns : List NameId). HasRoomForEnds new.facts table (length ns) (length c.deref-9.result.now)) c.deref-8.ensures.value
    (subst (λ (t : Names). HasRoomForEnds new.facts t (length c.deref-8.result.now) (length c.deref-9.result.now)) c.table-table.ensures c.in_ok-reserve_ends.ensures.room)))
    c.in_ok-items_from.ensures.live c.in_ok-items_to.ensures.live (subst (AreFactNames table) (sym ends_are) named.1)
