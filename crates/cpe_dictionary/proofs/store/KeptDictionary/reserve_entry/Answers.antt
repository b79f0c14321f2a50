use Rattle.std.proofs.lemmas.Result.{on_ok_weaker}
use Rattle.cpe_dictionary.specs.Room.{stored_of}
use Rattle.cpe_dictionary.proofs.Rooms.{same_entries, same_fits, same_listed, same_stored}
use Rattle.cpe_dictionary.proofs.store.KeptDictionary.reserve_entry.Goals as goal

pub returns-clause-same : goal.returns-clause-same
returns-clause-same c =
    let i = c.self.inside in
    same_stored c.args.self.now i.entries c.reserve-2.new.self i.graph c.reserve.new.self c.self.view_is c.reserve-2.ensures.same c.reserve.ensures.nodes

pub returns-clause-fits : goal.returns-clause-fits
returns-clause-fits c =
    let i = c.self.inside in
    let old = c.args.self.now in
    let new = stored_of c.reserve-2.new.self c.reserve.new.self in
    same_fits c.args.table.now old new (same_stored old i.entries c.reserve-2.new.self i.graph c.reserve.new.self c.self.view_is c.reserve-2.ensures.same c.reserve.ensures.nodes) c.requires.fits

pub returns-clause-entries : goal.returns-clause-entries
returns-clause-entries c =
    let i = c.self.inside in
    let old = c.args.self.now in
    let new = stored_of c.reserve-2.new.self c.reserve.new.self in
    same_entries c.args.table.now old new (same_stored old i.entries c.reserve-2.new.self i.graph c.reserve.new.self c.self.view_is c.reserve-2.ensures.same c.reserve.ensures.nodes)

pub returns-clause-ok : goal.returns-clause-ok
returns-clause-ok c =
    on_ok_weaker c.reserve-2.result (λ may. record { names = may.names; details = may.spare; nodes = c.in_ok-reserve.ensures.room_nodes }) c.reserve-2.ensures.ok

pub returns-in_err-reserve-clause-same : goal.returns-in_err-reserve-clause-same
returns-in_err-reserve-clause-same c =
    let i = c.self.inside in
    same_stored c.args.self.now i.entries i.entries i.graph c.reserve.new.self c.self.view_is (same_listed i.entries) c.reserve.ensures.nodes

pub returns-in_err-reserve-clause-fits : goal.returns-in_err-reserve-clause-fits
returns-in_err-reserve-clause-fits c =
    let i = c.self.inside in
    let old = c.args.self.now in
    same_fits c.args.table.now old (stored_of i.entries c.reserve.new.self) (same_stored old i.entries i.entries i.graph c.reserve.new.self c.self.view_is (same_listed i.entries) c.reserve.ensures.nodes) c.requires.fits

pub returns-in_err-reserve-clause-entries : goal.returns-in_err-reserve-clause-entries
returns-in_err-reserve-clause-entries c =
    let i = c.self.inside in
    let old = c.args.self.now in
    same_entries c.args.table.now old (stored_of i.entries c.reserve.new.self) (same_stored old i.entries i.entries i.graph c.reserve.new.self c.self.view_is (same_listed i.entries) c.reserve.ensures.nodes)
