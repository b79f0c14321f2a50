use Rattle.std.proofs.Common.{◌+◌, take, get_or, refl, subst, ◌∙◌, List}
use Rattle.std.specs.Prelude.{nat_eq}
use Rattle.std.proofs.lemmas.List.Folds.{list_any_more}
use Rattle.std.proofs.lemmas.List.{take_all}
use Rattle.name_index.specs.declared.table.NameId.{NameId}
use Rattle.fact_rows.specs.Facts.{has_end_of_fact, fact_name_id}
use Rattle.facts.specs.Calls.{UsersAdded}
use Rattle.facts.proofs.AddLemmas.{added_next, added_none, among_ends, room_next}
use Rattle.facts.proofs.users.add_users.Goals as goal

pub loop-id-init : goal.loop-id-init
loop-id-init c = record { added = added_none c.args.facts.now (has_end_of_fact (take 0 c.args.ids.now)) c.args.ticket (λ q. refl); changed = refl }

pub loop-id-preserved : goal.loop-id-preserved
loop-id-preserved c =
    let ids = c.args.ids.now in
    let i = c.loop-id.id-index in
    record {
      added = added_next c.args.facts.now c.loop-id.facts c.add_user.new.self (has_end_of_fact (take i ids)) (has_end_of_fact (take (i + 1) ids)) (get_or ids i (fact_name_id 0)).0 c.args.ticket
          (λ q. list_any_more (λ (id : NameId). nat_eq id.0 q) ids i (fact_name_id 0) c.loop-id-test.true) c.loop-id.invariant.added c.add_user.ensures;
      changed = c.add_user.ensures.changed ∙ c.loop-id.invariant.changed;
    }

pub add_user-requires : goal.add_user-requires
add_user-requires c =
    let ids = c.args.ids.now in
    let i = c.loop-id.id-index in
    room_next c.args.facts.now c.loop-id.facts (has_end_of_fact (take i ids)) (get_or ids i (fact_name_id 0)).0 c.args.ticket c.loop-id.invariant.added (c.requires (get_or ids i (fact_name_id 0)).0 (among_ends ids i (fact_name_id 0) c.loop-id-test.true))

pub returns-clause-added : goal.returns-clause-added
returns-clause-added c = subst (λ (ids : List NameId). UsersAdded c.args.facts.now c.loop-id.facts (has_end_of_fact ids) c.args.ticket) (take_all c.loop-id.id-index c.args.ids.now c.loop-id-test.false) c.loop-id.invariant.added
