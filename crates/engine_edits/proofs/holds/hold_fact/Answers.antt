use Rattle.std.proofs.Common.{◌≡◌, ◌∷◌, ◌++◌, List, [], arith, sym, ap, subst, ◌∙◌}
use Rattle.name_index.specs.declared.table.NameId.{NameId}
use Rattle.fact_laws.specs.Shown.{holds_in, names_at}
use Rattle.engine_edits.specs.Holding.{Grows}
use Rattle.engine_edits.proofs.HoldLemmas.{few_more, grows_one, names_more}
use Rattle.engine_edits.proofs.holds.hold_fact.Goals as goal
use Rattle.engine_edits.proofs.holds.hold_fact.Goals.{After-append_id}

-- the number of the held name is last
last : (c : After-append_id) → c.append_id.new.ids.items ≡ c.args.ids.now.items ++ c.in_ok-id.id ∷ []
last c = c.append_id.ensures ∙ ap (λ (xs : List NameId). xs ++ c.in_ok-id.id ∷ []) c.reserve_one.ensures.items

pub hold-requires-clause-few : goal.hold-requires-clause-few
hold-requires-clause-few c id has =
    let table = c.args.registry.now.table in
    let few = c.requires.few in
    omega (arith, c.lists_are_shown.ensures.few table (holds_in table) few.0 id few.1, few.2)

pub returns-clause-grows : goal.returns-clause-grows
returns-clause-grows c =
    let old = c.args.registry.now in
    let new = c.hold.new.self in
    let id = c.in_ok-id.id in
    let name = c.args.name.now in
    let h = c.in_ok-id.ensures in
    subst (λ (xs : List NameId). Grows old new c.args.ids.now.items xs) (sym (last (goal.at.returns-clause-grows c).After-append_id))
    (grows_one old new id name c.args.ids.now.items h.held h.named h.live h.entries h.items c.requires.live (λ l o. c.lists_are_shown.ensures.order new.table (holds_in new.table) l o)
    (λ l s. c.tables_are_lists.ensures.held old.table new.table id.0 name l h.held s) (λ v rows s. c.held_names_keep_verdicts.ensures old.table new.table id.0 name v rows h.held s))

pub returns-clause-names : goal.returns-clause-names
returns-clause-names c =
    let old = c.args.registry.now.table in
    let new = c.hold.new.self.table in
    let ids = c.args.ids.now.items in
    let h = c.in_ok-id.ensures in
    ap (names_at new) (last (goal.at.returns-clause-names c).After-append_id)
    ∙ names_more old new c.in_ok-id.id c.args.name.now ids h.held h.named c.requires.live

pub returns-clause-few : goal.returns-clause-few
returns-clause-few c =
    let old = c.args.registry.now in
    let new = c.hold.new.self in
    let h = c.in_ok-id.ensures in
    λ n few. few_more old.table new.table c.args.name.now n (λ l s. c.tables_are_lists.ensures.held old.table new.table c.in_ok-id.id.0 c.args.name.now l h.held s) few
