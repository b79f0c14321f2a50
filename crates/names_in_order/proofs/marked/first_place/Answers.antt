use Rattle.std.proofs.Common.{◌∙◌, ◌+◌, List, ℕ, Option, get_or, slice_get, take, ap, subst, sym, take_all}
use Rattle.std.proofs.lemmas.List.{take_more}
use Rattle.name_index.specs.declared.table.NameId.{NameId}
use Rattle.name_index.specs.Index.{name_id}
use Rattle.names_in_order.specs.Marked.{IsFirstPlace, earlier, found_place}
use Rattle.names_in_order.proofs.FirstLemmas.{first_more}
use Rattle.names_in_order.proofs.marked.first_place.Goals as goal

pub loop-id-preserved : goal.loop-id-preserved
loop-id-preserved c =
    let ids = c.args.ids.now in
    let i : ℕ = c.loop-id.id-index in
    let id = get_or ids i (name_id 0) in
    subst (λ (o : Option ℕ). IsFirstPlace c.args.slots.now (take (i + 1) ids) o) (sym (c.earlier-first.ensures ∙ ap (earlier c.loop-id.first) c.find_place.ensures))
    (subst (λ (xs : List NameId). IsFirstPlace c.args.slots.now xs (earlier c.loop-id.first (found_place c.args.slots.now (slice_get c.args.places.now id.0) id))) (sym (take_more ids i (name_id 0) c.loop-id-test.true))
    (first_more c.args.slots.now c.args.places.now c.requires id (take i ids) c.loop-id.first c.loop-id.invariant))

pub returns : goal.returns
returns c = subst (λ (xs : List NameId). IsFirstPlace c.args.slots.now xs c.loop-id.first) (take_all c.loop-id.id-index c.args.ids.now c.loop-id-test.false) c.loop-id.invariant
