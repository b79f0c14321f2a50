use Rattle.std.proofs.Common.{refl}
use Rattle.engine_edits.specs.Parts.{rows_in}
use Rattle.engine_edits.proofs.MadeLemmas.{are_ends}
use Rattle.engine_edits.proofs.ReadyLemmas.{stay_same}
use Rattle.engine_edits.proofs.items.ready_drop.Goals as goal

pub returns-in-Ok : goal.returns-in-Ok
returns-in-Ok c =
    let p = c.args.parts.now in
    let ends = c.in-Ok.ensures in
    record {
      same = stay_same p;
      edit = refl;
      all = record {
        are = c.requires.beside.are;
        live = c.requires.beside.found;
        ends = are_ends p.registry.table p.registry.table (rows_in p).entries c.args.id.0 c.in-Ok.ends.items c.in-Ok.ends.items refl refl ends.live ends.names;
      };
      left = tt;
    }

pub returns-in-Err : goal.returns-in-Err
returns-in-Err c = record { same = stay_same c.args.parts.now; edit = tt; all = tt; left = c.requires.beside.are }
