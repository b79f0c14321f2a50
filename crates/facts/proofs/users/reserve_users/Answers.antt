use Rattle.std.proofs.Common.{◌∙◌, get_or, refl}
use Rattle.fact_rows.specs.Facts.{fact_name_id}
use Rattle.facts.proofs.AddLemmas.{among_ends}
use Rattle.facts.proofs.RoomLemmas.{room_so_far, same_facts_again, same_facts_none}
use Rattle.facts.proofs.users.reserve_users.Goals as goal

pub loop-id-init : goal.loop-id-init
loop-id-init c = record { same = same_facts_none c.args.facts.now; truths = λ q. refl; changed = refl; room = λ q h. absurd (cc) }

pub loop-id-preserved : goal.loop-id-preserved
loop-id-preserved c =
    let ids = c.args.ids.now in
    let i = c.loop-id.id-index in
    let inv = c.loop-id.invariant in
    let e = c.reserve_user.ensures in
    record {
      same = same_facts_again c.args.facts.now c.loop-id.facts c.reserve_user.new.self inv.same e.same;
      truths = λ q. e.truths q ∙ inv.truths q;
      changed = e.changed ∙ inv.changed;
      room = room_so_far ids i (fact_name_id 0) c.loop-id-test.true c.loop-id.facts c.reserve_user.new.self e.others c.in_ok-reserve_user.ensures.room inv.room;
    }

pub reserve_user-requires : goal.reserve_user-requires
reserve_user-requires c =
    let ids = c.args.ids.now in
    let i = c.loop-id.id-index in
    c.loop-id.invariant.same.there (get_or ids i (fact_name_id 0)).0 ∙ c.requires (get_or ids i (fact_name_id 0)).0 (among_ends ids i (fact_name_id 0) c.loop-id-test.true)
