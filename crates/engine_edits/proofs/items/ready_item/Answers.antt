use Rattle.std.proofs.Common.{◌∷◌, [], sym, ap, subst}
use Rattle.cpe_rows.specs.declared.edit.Edit.TheVariants as edit
use Rattle.name_index.specs.Table.{Names}
use Rattle.verdicts.specs.name_registry.Registered.{name_in}
use Rattle.engine_edits.specs.Parts.{AreOf, rows_in}
use Rattle.engine_edits.proofs.PartsLemmas.{rows_are}
use Rattle.engine_edits.proofs.items.ready_item.Goals as goal

pub returns-in-Ok : goal.returns-in-Ok
returns-in-Ok c = record {
  same = c.reserve_item.ensures.same;
  edit = ap (λ (t : Names). edit.Item (name_in t c.args.id)) c.reserve_item.ensures.table;
  all = c.in-Ok.ensures.ready;
  left = tt;
}

pub returns-in-Err : goal.returns-in-Err
returns-in-Err c =
    let p = c.args.parts.now in
    let rows = rows_in p in
    let q = c.reserve_item.new.parts in
    let left = c.release_all.ensures q.verdicts rows [] (subst (λ (t : Names). AreOf q.registry q.verdicts rows (name_in t c.args.id ∷ [])) (sym c.in-Err.ensures.table) c.in-Err.ensures.are) in
    record {
      same = record { rows = rows_are (record q { registry = c.release_all.new.registry }) rows [] left; known = c.in-Err.ensures.same.known; weight = c.in-Err.ensures.same.weight };
      edit = tt;
      all = tt;
      left = left;
    }
