use Rattle.std.proofs.Common.{◌+◌, ◌∙◌, take, get_or, refl, ap, subst, List}
use Rattle.std.specs.Prelude.{nat_eq}
use Rattle.std.proofs.lemmas.List.Folds.{list_any_more}
use Rattle.std.proofs.lemmas.List.{take_all}
use Rattle.name_index.specs.declared.table.NameId.{NameId}
use Rattle.fact_rows.specs.Facts.{has_end_of_fact, fact_name_id}
use Rattle.facts.specs.Calls.{FactsRemoved}
use Rattle.facts.proofs.AddLemmas.{among_ends}
use Rattle.facts.proofs.LessLemmas.{removed_next, removed_none}
use Rattle.facts.proofs.users.remove_facts.Goals as goal

pub loop-fact-init : goal.loop-fact-init
loop-fact-init c = record { removed = removed_none c.args.facts.now (has_end_of_fact (take 0 c.args.last.now)) (λ q. refl); changed = refl }

pub loop-fact-preserved : goal.loop-fact-preserved
loop-fact-preserved c =
    let last = c.args.last.now in
    let i = c.loop-fact.fact-index in
    record {
      removed = removed_next c.args.facts.now c.loop-fact.facts c.remove_fact.new.self (has_end_of_fact (take i last)) (has_end_of_fact (take (i + 1) last)) (get_or last i (fact_name_id 0)).0
          (λ q. list_any_more (λ (id : NameId). nat_eq id.0 q) last i (fact_name_id 0) c.loop-fact-test.true) c.loop-fact.invariant.removed c.remove_fact.ensures.here c.remove_fact.ensures.stay c.remove_fact.ensures.linked;
      changed = c.remove_fact.ensures.changed ∙ c.loop-fact.invariant.changed;
    }

pub remove_fact-requires : goal.remove_fact-requires
remove_fact-requires c =
    let last = c.args.last.now in
    let i = c.loop-fact.fact-index in
    ap (λ (cs : List NameId). has_end_of_fact cs (get_or last i (fact_name_id 0)).0) c.loop-fact.invariant.changed ∙ c.requires (get_or last i (fact_name_id 0)).0 (among_ends last i (fact_name_id 0) c.loop-fact-test.true)

pub returns-clause-removed : goal.returns-clause-removed
returns-clause-removed c = subst (λ (ids : List NameId). FactsRemoved c.args.facts.now c.loop-fact.facts (has_end_of_fact ids)) (take_all c.loop-fact.fact-index c.args.last.now c.loop-fact-test.false) c.loop-fact.invariant.removed
