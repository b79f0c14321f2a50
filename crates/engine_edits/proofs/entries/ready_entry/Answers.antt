use Rattle.std.proofs.Common.{◌∷◌, [], refl, sym, ap, subst}
use Rattle.cpe_rows.specs.declared.edit.Edit.TheVariants as edit
use Rattle.cpe_rows.specs.Rows.{Rows}
use Rattle.cpe_dictionary.specs.Kept.{new_entry}
use Rattle.name_index.specs.Table.{IsLive, Names}
use Rattle.verdicts.specs.name_registry.Registered.{name_in}
use Rattle.engine_edits.specs.Parts.{AreOf, rows_in}
use Rattle.engine_edits.specs.declared.parts.EngineParts.{EngineParts}
use Rattle.engine_edits.proofs.PartsLemmas.{rows_are}
use Rattle.engine_edits.proofs.ReadyLemmas.{are_still, named_still, rows_stay, same_parts, same_verdicts}
use Rattle.engine_edits.proofs.entries.ready_entry.Goals as goal

pub returns-in-Ok : goal.returns-in-Ok
returns-in-Ok c =
    let p = c.args.parts.now in
    let r = c.reserve_entry.new.self in
    let q : EngineParts = record p { registry = r } in
    let same = c.in-Ok.ensures.same in
    let v = same_verdicts p.verdicts in
    let rows = rows_stay p q same v in
    let are = c.requires.beside.are in
    record {
      same = same_parts p q same v refl;
      edit = ap (λ (t : Names). edit.Entry (new_entry (name_in t c.args.id) c.args.title c.args.provenance)) same.table;
      all = record {
        are = subst (λ (x : Rows). AreOf r p.verdicts x (name_in r.table c.args.id ∷ [])) (sym rows)
            (named_still p.registry r p.verdicts (rows_in p) c.args.id same (are_still p.registry r p.verdicts p.verdicts (rows_in p) (name_in p.registry.table c.args.id ∷ []) same are.verdicts are));
        live = subst (λ (t : Names). IsLive t c.args.id.0) (sym same.table) c.requires.beside.found;
        room = c.in-Ok.ensures.room;
      };
      left = tt;
    }

pub returns-in-Err : goal.returns-in-Err
returns-in-Err c =
    let p = c.args.parts.now in
    let rows = rows_in p in
    let r = c.reserve_entry.new.self in
    let same = c.in-Err.ensures.same in
    let are = c.requires.beside.are in
    let left = c.release_all.ensures p.verdicts rows []
    (named_still p.registry r p.verdicts rows c.args.id same (are_still p.registry r p.verdicts p.verdicts rows (name_in p.registry.table c.args.id ∷ []) same are.verdicts are)) in
    record { same = record { rows = rows_are (record p { registry = c.release_all.new.registry }) rows [] left; known = refl; weight = refl }; edit = tt; all = tt; left = left }
