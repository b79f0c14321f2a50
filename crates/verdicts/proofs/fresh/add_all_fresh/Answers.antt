use Rattle.std.proofs.Common.{◌+◌, ◌++◌, ◌∷◌, [], drop, get_or, refl, subst, take, ◌∙◌}
use Rattle.std.proofs.lemmas.List.{take_all}
use Rattle.name_index.specs.declared.table.NameId.{NameId}
use Rattle.facts.specs.fact_rows.Facts.{fact_name_id}
use Rattle.fact_boards.proofs.Steps.{first_live, first_there}
use Rattle.facts.proofs.AddLemmas.{among_ends}
use Rattle.facts.specs.Facts.{table_of}
use Rattle.verdicts.specs.Addition.{AreAdded}
use Rattle.verdicts.proofs.BesideLemmas.{added_more, added_none, beside_both, beside_none, beside_wider, next_ends, once_before, others_more, take_ends}
use Rattle.verdicts.proofs.fresh.add_all_fresh.Goals as goal

pub loop-fact-init : goal.loop-fact-init
loop-fact-init c =
    let table = c.args.registry.now.table in
    record { rest = c.requires.live; beside = beside_none c.args.facts.now table c.args.mode; others = λ q apart. refl; added = added_none table c.args.registry.now.entries c.args.mode c.args.facts.now }

pub loop-fact-preserved : goal.loop-fact-preserved
loop-fact-preserved c =
    let table = c.args.registry.now.table in
    let entries = c.args.registry.now.entries in
    let mode = c.args.mode in
    let fresh = c.args.fresh.now in
    let i = c.loop-fact.fact-index in
    let x : NameId = get_or fresh i (fact_name_id 0) in
    let lt = c.loop-fact-test.true in
    let first = c.args.facts.now in
    let mid = c.loop-fact.facts in
    let last = c.add_fresh.new.facts in
    let inv = c.loop-fact.invariant in
    let e = c.add_fresh.ensures in
    record {
      rest = (first_live table x (drop (i + 1) fresh) (drop i fresh) (first_there fresh i (fact_name_id 0) lt) inv.rest).1;
      beside = beside_wider first last table mode ((x ∷ []) ++ take i fresh) (take (i + 1) fresh) (next_ends fresh i (fact_name_id 0) lt) (beside_both first mid last table mode (take i fresh) (x ∷ []) inv.beside e.beside);
      others = others_more (table_of first mode) (table_of mid mode) (table_of last mode) fresh i (fact_name_id 0) lt e.others inv.others;
      added = added_more table entries mode mid last fresh i (fact_name_id 0) lt (once_before fresh i (fact_name_id 0) lt c.requires.once) e.others inv.added c.in_ok-add_fresh.ensures.added;
    }

pub add_fresh-requires-clause-live : goal.add_fresh-requires-clause-live
add_fresh-requires-clause-live c =
    let table = c.args.registry.now.table in
    let fresh = c.args.fresh.now in
    let i = c.loop-fact.fact-index in
    let x : NameId = get_or fresh i (fact_name_id 0) in
    (first_live table x (drop (i + 1) fresh) (drop i fresh) (first_there fresh i (fact_name_id 0) c.loop-fact-test.true) c.loop-fact.invariant.rest).0

pub add_fresh-requires-clause-none : goal.add_fresh-requires-clause-none
add_fresh-requires-clause-none c =
    let fresh = c.args.fresh.now in
    let i = c.loop-fact.fact-index in
    let x : NameId = get_or fresh i (fact_name_id 0) in
    c.loop-fact.invariant.others x.0 (once_before fresh i (fact_name_id 0) c.loop-fact-test.true c.requires.once) ∙ c.requires.none x.0 (among_ends fresh i (fact_name_id 0) c.loop-fact-test.true)

pub returns-in_err-add_fresh-clause-beside : goal.returns-in_err-add_fresh-clause-beside
returns-in_err-add_fresh-clause-beside c =
    let table = c.args.registry.now.table in
    let mode = c.args.mode in
    let fresh = c.args.fresh.now in
    let i = c.loop-fact.fact-index in
    let x : NameId = get_or fresh i (fact_name_id 0) in
    let first = c.args.facts.now in
    let mid = c.loop-fact.facts in
    let last = c.add_fresh.new.facts in
    beside_wider first last table mode (take (i + 1) fresh) fresh (take_ends (i + 1) fresh)
    (beside_wider first last table mode ((x ∷ []) ++ take i fresh) (take (i + 1) fresh) (next_ends fresh i (fact_name_id 0) c.loop-fact-test.true) (beside_both first mid last table mode (take i fresh) (x ∷ []) c.loop-fact.invariant.beside c.add_fresh.ensures.beside))

pub returns-clause-beside : goal.returns-clause-beside
returns-clause-beside c =
    let fresh = c.args.fresh.now in
    let k = c.loop-fact.fact-index in
    beside_wider c.args.facts.now c.loop-fact.facts c.args.registry.now.table c.args.mode (take k fresh) fresh (take_ends k fresh) c.loop-fact.invariant.beside

pub returns-clause-added : goal.returns-clause-added
returns-clause-added c =
    let fresh = c.args.fresh.now in
    let k = c.loop-fact.fact-index in
    subst (AreAdded c.loop-fact.facts c.args.registry.now.table c.args.registry.now.entries c.args.mode) (take_all k fresh c.loop-fact-test.false) c.loop-fact.invariant.added
