use Rattle.std.proofs.Common.{◌≤◌, ℕ, List, length, ap, subst, ◌∙◌}
use Rattle.std.specs.Prelude.{Option}
use Rattle.std.proofs.lemmas.Result.{IfOk-weaker}
use Rattle.deprecation_graph.specs.Graph.{successors}
use Rattle.cpe_dictionary.specs.EntryRoom.{HasNoteRoom}
use Rattle.cpe_dictionary.specs.Room.{MayChange, stored_of}
use Rattle.cpe_dictionary.proofs.Rooms.{same_entries, same_fits, same_listed, same_stored}
use Rattle.cpe_dictionary.proofs.store.KeptDictionary.reserve_change.Goals as goal

pub returns-clause-same : goal.returns-clause-same
returns-clause-same c =
    let i = c.self.inside in
    same_stored c.args.self.now i.entries i.entries i.graph c.reserve.new.self c.self.view_is (same_listed i.entries) c.reserve.ensures.nodes

pub returns-clause-fits : goal.returns-clause-fits
returns-clause-fits c =
    let i = c.self.inside in
    let old = c.args.self.now in
    same_fits c.args.table.now old (stored_of i.entries c.reserve.new.self) (same_stored old i.entries i.entries i.graph c.reserve.new.self c.self.view_is (same_listed i.entries) c.reserve.ensures.nodes) c.requires.fits

pub returns-clause-entries : goal.returns-clause-entries
returns-clause-entries c =
    let i = c.self.inside in
    let old = c.args.self.now in
    same_entries c.args.table.now old (stored_of i.entries c.reserve.new.self) (same_stored old i.entries i.entries i.graph c.reserve.new.self c.self.view_is (same_listed i.entries) c.reserve.ensures.nodes)

pub returns-in_err-reserve-clause-same : goal.returns-in_err-reserve-clause-same
returns-in_err-reserve-clause-same c =
    let i = c.self.inside in
    same_stored c.args.self.now i.entries i.entries i.graph c.reserve.new.self c.self.view_is (same_listed i.entries) c.reserve.ensures.nodes

pub returns-in_err-reserve-clause-fits : goal.returns-in_err-reserve-clause-fits
returns-in_err-reserve-clause-fits c =
    let i = c.self.inside in
    let old = c.args.self.now in
    same_fits c.args.table.now old (stored_of i.entries c.reserve.new.self) (same_stored old i.entries i.entries i.graph c.reserve.new.self c.self.view_is (same_listed i.entries) c.reserve.ensures.nodes) c.requires.fits

pub returns-in_err-reserve-clause-entries : goal.returns-in_err-reserve-clause-entries
returns-in_err-reserve-clause-entries c =
    let i = c.self.inside in
    let old = c.args.self.now in
    same_entries c.args.table.now old (stored_of i.entries c.reserve.new.self) (same_stored old i.entries i.entries i.graph c.reserve.new.self c.self.view_is (same_listed i.entries) c.reserve.ensures.nodes)

pub returns-clause-ok : goal.returns-clause-ok
returns-clause-ok c =
    let plan = c.args.plan.now in
    let i = c.self.inside in
    IfOk-weaker c.note_room.result (HasNoteRoom i.entries.details plan.number) (MayChange (stored_of i.entries c.reserve.new.self) plan)
    (λ room note. record {
      edges = subst (λ (n : ℕ). n ≤ c.reserve.new.self.room_edges) (c.count.ensures ∙ ap (λ (o : Option (List ℕ)). length (successors o)) c.next.ensures) c.in_ok-reserve.ensures.room_edges;
      note = note;
    })
    c.note_room.ensures
