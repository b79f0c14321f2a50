use Rattle.std.proofs.Common.{[], sym, ap, subst}
use Rattle.cpe_rows.specs.After.{after}
use Rattle.cpe_rows.specs.Rows.{Rows}
use Rattle.cpe_dictionary.specs.Plans.{IsPlan}
use Rattle.name_index.specs.Table.{IsLive, Names}
use Rattle.verdicts.specs.Leads.{IsReadyLead}
use Rattle.verdicts.specs.name_registry.Registered.{name_in}
use Rattle.engine_edits.specs.Numbered.{given, turned_entry}
use Rattle.engine_edits.specs.Parts.{AreOf, rows_in}
use Rattle.engine_edits.proofs.entries.ready_change.Goals as goal

pub returns-in-Ok : goal.returns-in-Ok
returns-in-Ok c =
    let p = c.args.parts.now in
    let q = c.reserve_change.new.parts in
    let same = c.in-Ok.ensures.same in
    let change = c.args.change in
    let n = name_in p.registry.table change.id in
    let e = turned_entry n change.turn change.date change.comment in
    let table = sym c.in-Ok.ensures.table in
    let rows = sym same.rows in
    record {
      same = same;
      edit = ap (λ (t : Names). turned_entry (name_in t change.id) change.turn change.date change.comment) c.in-Ok.ensures.table;
      all = record {
        are = subst (λ (x : Rows). AreOf q.registry q.verdicts x []) rows c.in-Ok.ensures.are;
        live = subst (λ (t : Names). IsLive t change.id.0) table c.requires.ready.beside.found;
        plan = subst (λ (t : Names). IsPlan (rows_in q).entries (name_in t change.id) (given change.turn) c.args.plan) table
            (subst (λ (x : Rows). IsPlan x.entries n (given change.turn) c.args.plan) rows c.requires.plan);
        lead = subst (λ (t : Names). IsReadyLead q.verdicts q.registry.table (rows_in q) (after (rows_in q) (turned_entry (name_in t change.id) change.turn change.date change.comment)).entries (name_in t change.id) c.in-Ok.lead) table
            (subst (λ (x : Rows). IsReadyLead q.verdicts q.registry.table x (after x e).entries n c.in-Ok.lead) rows c.in-Ok.ensures.lead);
        room = c.in-Ok.ensures.room;
      };
      left = tt;
    }

pub returns-in-Err : goal.returns-in-Err
returns-in-Err c = record { same = c.in-Err.ensures.same; edit = tt; all = tt; left = c.in-Err.ensures.are }
