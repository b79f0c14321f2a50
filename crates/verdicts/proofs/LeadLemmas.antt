-- What a planned change of a deprecation changes, once it is ready.
use Rattle.std.proofs.Common.{◌≡◌, ◌≤◌, ℕ, true, not, List, [], filter, length, map, Option, Some, Result, refl, sym, ap, subst, ◌∙◌}
use Rattle.std.specs.Prelude.{is_some}
use Rattle.std.specs.List.{AllByRecursion, flat_map, list_any, sum_by}
use Rattle.cpe_rows.specs.cpe_name.Eleven.{Values}
use Rattle.name_index.specs.Elements.{SameElements}
use Rattle.name_index.specs.declared.table.NameId.{NameId}
use Rattle.name_index.specs.Table.{IsNameTable, Names, kept_at}
use Rattle.cpe_rows.specs.Chains.{ends, leads_to}
use Rattle.cpe_rows.specs.Lawful.{IsLawful}
use Rattle.cpe_rows.specs.Names.{is_same}
use Rattle.cpe_rows.specs.Rows.{Rows}
use Rattle.cpe_rows.specs.declared.entry.Entry.{Entry}
use Rattle.cpe_rows.specs.declared.statement.Mode.{Mode}
use Rattle.cpe_rows.specs.declared.statement.Mode.TheVariants.{Plain, Follow}
use Rattle.cpe_dictionary.specs.Plans.{ends_by}
use Rattle.cpe_dictionary.specs.declared.plans.Plan.{Plan}
use Rattle.facts.specs.fact_laws.Shown.{names_at, times_named}
use Rattle.facts.specs.fact_laws.Asked.{statement_facts, source_names}
use Rattle.facts.proofs.fact_laws.Counted.{counted_once}
use Rattle.facts.proofs.fact_laws.Sources.{apart_once}
use Rattle.fact_boards.specs.Kept.{AreFactNames, AreSound}
use Rattle.facts.specs.fact_rows.Facts.{Fact, fact_at, FactTable, is_fact, truth_of_fact, truth_or_unknown, users_or_none}
use Rattle.facts.specs.ticket_list.Tickets.{is_empty}
use Rattle.facts.specs.Facts.{AreUsed, FactsNow, HasFacts, is_used, table_of}
use Rattle.facts.specs.LeadCalls.{HasRoomForEnds}
use Rattle.facts.specs.Leads.{IsLed}
use Rattle.facts.specs.Room.{EndsLinked}
use Rattle.facts.specs.declared.lead.Led.{Led}
use Rattle.statement_rows.specs.Readings.{FactTruths}
use Rattle.statement_rows.specs.State.{AreJudged}
use Rattle.verdicts.specs.Leads.{IsLinkedAhead, IsReadyLead, IsUnled, MoreLinks}
use Rattle.verdicts.specs.Verdicts.{HasVerdicts, tickets_in, VerdictsNow}
use Rattle.verdicts.specs.declared.lead.Lead.{Lead}
use Rattle.verdicts.proofs.NumberLemmas.{all_weaker, live_filtered}
use Rattle.verdicts.proofs.PlannedLemmas.{ends_of_sources, in_facts, planned_led, planned_live, planned_names, sources_led, used_live, used_names, used_referred, used_same, whole_led}
use Rattle.verdicts.proofs.UnledLemmas.{leads_not}

-- ---- facts with more links

pub no_links : (f : FactsNow) → MoreLinks f f
no_links f = record { facts = λ names rows tickets h. h; stay = λ q. refl; links = λ e q h. h; boards = refl; plain = refl }

pub linked_more : {Done Fault : Type 0} (old new : FactsNow) (fact : ℕ) (its_ends : List NameId) (result : Result Done Fault) → EndsLinked old new fact its_ends result → MoreLinks old new
linked_more old new fact its_ends result l = record { facts = l.facts; stay = l.table.stay; links = l.table.links; boards = l.boards; plain = l.plain }

pub links_again : (a b c : FactsNow) → MoreLinks a b → MoreLinks b c → MoreLinks a c
links_again a b c u v = record {
  facts = λ names rows tickets h. v.facts names rows tickets (u.facts names rows tickets h);
  stay = λ q. v.stay q ∙ u.stay q;
  links = λ e q h. v.links e q (u.links e q h);
  boards = v.boards ∙ u.boards;
  plain = v.plain ∙ u.plain;
}

-- what is linked stays so
pub planned_still : (names : Names) (entries : List Entry) (plan : Plan) (old new : FactsNow) → MoreLinks old new → (all : List Led) → AllByRecursion (IsLinkedAhead names entries plan old.follow) all → AllByRecursion (IsLinkedAhead names entries plan new.follow) all
planned_still names entries plan old new more =
    all_weaker (IsLinkedAhead names entries plan old.follow) (IsLinkedAhead names entries plan new.follow) (λ x p. record { live = p.live; names = p.names; under = λ e h. more.links e x.fact.0 (p.under e h) })

module _ (names : Names) (v : VerdictsNow) (new : FactsNow) (rows : Rows) (more : MoreLinks v.facts new) where
  truth_same : (mode : Mode) (q : ℕ) → truth_of_fact (table_of new mode) q ≡ truth_of_fact (table_of v.facts mode) q
  truth_same Plain q = ap (λ (t : FactTable). truth_of_fact t q) more.plain
  truth_same Follow q = ap truth_or_unknown (more.stay q)

  used_still : AreUsed v.facts → AreUsed new
  used_still used Plain = subst (λ (t : FactTable). (q : ℕ) → is_fact t q ≡ true → is_used t q ≡ true) (sym more.plain) (used Plain)
  used_still used Follow = λ q. subst (λ (o : Option Fact). is_some o ≡ true → not (is_empty (users_or_none o)) ≡ true) (sym (more.stay q)) (used Follow q)

  pub linked_verdicts : HasVerdicts names v rows → HasVerdicts names (record { facts = new; statements = v.statements }) rows
  linked_verdicts h = record {
    statements = h.statements;
    checks = h.checks;
    numbered = h.numbered;
    facts = more.facts names rows (tickets_in v.statements.rows) h.facts;
    needed = record { facts = used_still h.needed.facts; askers = h.needed.askers };
    sound = subst AreSound (sym more.boards) h.sound;
    judged = subst (λ (truth : FactTruths). AreJudged v.statements truth) (λ i mode q. sym (truth_same mode q) i) h.judged;
  }

-- ---- the lead

module _ (names : Names) (are : IsNameTable names) (f : FactsNow) (v : VerdictsNow) (rows : Rows) (tickets : List ℕ) (left entries : List Entry) (items : List Values) (plan : Plan) (n : Values) (lead : Lead) (sources found used : List NameId)
    (lawful : IsLawful rows) (s : HasFacts names f rows tickets) (same_entries : rows.entries ≡ entries) (same_items : rows.items ≡ items)
    (are_sources : names_at names sources ≡ source_names entries n) (live : AreFactNames names sources) (are_found : names_at names found ≡ filter (λ x. list_any (is_same x) items) (names_at names sources)) (are_used : used ≡ filter (λ (x : NameId). is_used f.follow x.0) sources)
    (from : names_at names lead.items_from.items ≡ flat_map (ends entries) (names_at names found)) (to : names_at names lead.items_to.items ≡ flat_map (ends_by entries (Some plan)) (names_at names found))
    (facts_from : names_at names lead.facts_from.items ≡ flat_map (ends rows.entries) (names_at names used)) (facts_to : lead.facts_to.items ≡ flat_map (λ (x : Led). x.ends.items) lead.facts.items)
    (are_facts : map (λ (x : Led). x.fact) lead.facts.items ≡ used) (planned : AllByRecursion (IsLinkedAhead names entries plan v.facts.follow) lead.facts.items) (stay : (q : ℕ) → fact_at v.facts.follow q ≡ fact_at f.follow q) (leads : (m : Values) → ends_by entries (Some plan) m ≡ ends left m)
    (room : HasRoomForEnds v.facts names (length lead.items_to.items) (length lead.facts_to.items)) (live_from : AreFactNames names lead.items_from.items) (live_to : AreFactNames names lead.items_to.items) (live_facts_from : AreFactNames names lead.facts_from.items) where
  few_items : (x : Values) → times_named x rows.items ≤ 1
  few_items x = apart_once x rows.items lawful.items_differ

  few_facts : (x : Values) → times_named x (statement_facts Follow rows.statements) ≤ 1
  few_facts x = counted_once Follow rows.statements x

  sources_are : names_at names sources ≡ source_names rows.entries n
  sources_are = are_sources ∙ ap (λ (es : List Entry). source_names es n) (sym same_entries)

  found_are : names_at names found ≡ filter (λ x. list_any (is_same x) rows.items) (names_at names sources)
  found_are = are_found ∙ ap (λ (xs : List Values). filter (λ x. list_any (is_same x) xs) (names_at names sources)) (sym same_items)

  used_are : names_at names used ≡ filter (λ x. list_any (is_same x) (statement_facts Follow rows.statements)) (names_at names sources)
  used_are = ap (names_at names) are_used ∙ used_names names f rows tickets s sources live

  same_ends : (m : Values) → ends entries m ≡ ends rows.entries m
  same_ends m = ap (λ (es : List Entry). ends es m) (sym same_entries)

  to_facts : names_at names lead.facts_to.items ≡ flat_map (ends_by entries (Some plan)) (names_at names used)
  to_facts = ap (names_at names) facts_to ∙ planned_names names entries plan v.facts.follow lead.facts.items planned ∙ ap (λ (ns : List NameId). flat_map (ends_by entries (Some plan)) (names_at names ns)) are_facts

  used_led : SameElements (names_at names (map (λ (x : Led). x.fact) lead.facts.items)) (filter (λ x. leads_to rows.entries x n) (statement_facts Follow rows.statements))
  used_led g =
      ap (sum_by g) (ap (names_at names) are_facts ∙ used_are ∙ ap (filter (λ x. list_any (is_same x) (statement_facts Follow rows.statements))) sources_are)
      ∙ sources_led rows.entries n (statement_facts Follow rows.statements) lawful.dictionary.names_differ few_facts g

  live_used : AreFactNames names (map (λ (x : Led). x.fact) lead.facts.items)
  live_used = subst (AreFactNames names) (sym (are_facts ∙ are_used)) (live_filtered names (λ (x : NameId). is_used f.follow x.0) sources live)

  pub ready_lead : IsReadyLead v names rows left n lead
  ready_lead = record {
    lists = record {
      items_before = ends_of_sources names rows.entries n (ends rows.entries) (ends entries) rows.items sources found lead.items_from.items lawful.dictionary.names_differ few_items sources_are found_are from same_ends;
      items_after = ends_of_sources names rows.entries n (ends left) (ends_by entries (Some plan)) rows.items sources found lead.items_to.items lawful.dictionary.names_differ few_items sources_are found_are to leads;
      facts_before = ends_of_sources names rows.entries n (ends rows.entries) (ends rows.entries) (statement_facts Follow rows.statements) sources used lead.facts_from.items lawful.dictionary.names_differ few_facts sources_are used_are facts_from (λ m. refl);
      facts_after = ends_of_sources names rows.entries n (ends left) (ends_by entries (Some plan)) (statement_facts Follow rows.statements) sources used lead.facts_to.items lawful.dictionary.names_differ few_facts sources_are used_are to_facts leads;
      led_there = planned_led names entries left plan f.follow v.facts.follow sources lead.facts.items planned (are_facts ∙ are_used) stay leads;
      whole = λ id in_use. whole_led names are f rows tickets s rows.entries n lead.facts.items live_used used_led id (sym (used_same f.follow v.facts.follow stay id) ∙ in_use);
    };
    ready = record {
      live_items_from = live_from;
      live_items_to = live_to;
      live_facts_from = live_facts_from;
      live_facts_to = subst (AreFactNames names) (sym facts_to) (planned_live names entries plan v.facts.follow lead.facts.items planned);
      room = room;
    };
  }

-- ---- nothing leads to the entry

both_empty : (xs ys : List Values) → xs ≡ [] → ys ≡ [] → SameElements xs ys
both_empty xs ys e f = λ weight. ap (sum_by weight) (e ∙ sym f)

module _ (names : Names) (v : VerdictsNow) (rows : Rows) (tickets : List ℕ) (left : List Entry) (n : Values) (lead : Lead) (unled : IsUnled rows n) (s : HasFacts names v.facts rows tickets)
    (no_from : lead.items_from.items ≡ []) (no_to : lead.items_to.items ≡ []) (no_facts_from : lead.facts_from.items ≡ []) (no_facts_to : lead.facts_to.items ≡ []) (no_facts : lead.facts.items ≡ [])
    (room : HasRoomForEnds v.facts names 0 0) where
  none_of_items : (now : List Entry) → flat_map (ends now) (filter (λ x. leads_to rows.entries x n) rows.items) ≡ []
  none_of_items now = ap (flat_map (ends now)) unled.items

  none_of_facts : (now : List Entry) → flat_map (ends now) (filter (λ x. leads_to rows.entries x n) (statement_facts Follow rows.statements)) ≡ []
  none_of_facts now = ap (flat_map (ends now)) unled.facts

  pub ready_none : IsReadyLead v names rows left n lead
  ready_none = record {
    lists = record {
      items_before = both_empty (names_at names lead.items_from.items) _ (ap (names_at names) no_from) (none_of_items rows.entries);
      items_after = both_empty (names_at names lead.items_to.items) _ (ap (names_at names) no_to) (none_of_items left);
      facts_before = both_empty (names_at names lead.facts_from.items) _ (ap (names_at names) no_facts_from) (none_of_facts rows.entries);
      facts_after = both_empty (names_at names lead.facts_to.items) _ (ap (names_at names) no_facts_to) (none_of_facts left);
      led_there = subst (AllByRecursion (IsLed names v.facts.follow left)) (sym no_facts) tt;
      whole = λ id used leads. absurd (leads_not rows.entries (kept_at names id).name n (statement_facts Follow rows.statements)
          (in_facts Follow rows.statements (kept_at names id).name ∙ sym (used_referred names v.facts rows tickets s id (used_live names v.facts rows tickets s id used)) ∙ used) unled.facts leads);
    };
    ready = record {
      live_items_from = subst (AreFactNames names) (sym no_from) tt;
      live_items_to = subst (AreFactNames names) (sym no_to) tt;
      live_facts_from = subst (AreFactNames names) (sym no_facts_from) tt;
      live_facts_to = subst (AreFactNames names) (sym no_facts_to) tt;
      room = subst (λ (ns : List NameId). HasRoomForEnds v.facts names (length lead.items_to.items) (length ns)) (sym no_facts_to) (subst (λ (ns : List NameId). HasRoomForEnds v.facts names (length ns) 0) (sym no_to) room);
    };
  }

-- ---- lists that are lent

pub lent_lists : (P : List NameId → List NameId → List NameId → List NameId → Type 0) (a b c d e f g h : List NameId) → e ≡ a → f ≡ b → g ≡ c → h ≡ d → P a b c d → P e f g h
lent_lists P a b c d e f g h ea fb gc hd p = subst (λ (x : List NameId). P x f g h) (sym ea) (subst (λ (x : List NameId). P a x g h) (sym fb) (subst (λ (x : List NameId). P a b x h) (sym gc) (subst (P a b c) (sym hd) p)))
