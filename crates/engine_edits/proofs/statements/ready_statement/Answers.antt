use Rattle.std.proofs.Common.{◌++◌, List, [], refl, sym, ap, subst}
use Rattle.cpe_rows.specs.Rows.{Rows}
use Rattle.cpe_rows.specs.declared.edit.Edit.TheVariants as edit
use Rattle.cpe_rows.specs.declared.statement.Statement.{Statement}
use Rattle.fact_laws.specs.Shown.{holds_in, names_at, Shows}
use Rattle.fact_laws.specs.Asked.{names_of_rows}
use Rattle.name_index.specs.declared.table.NameId.{NameId}
use Rattle.verdicts.specs.Addition.{HasVerdictsBeside, IsAddition}
use Rattle.engine_edits.specs.Numbered.{AreFactNumbers}
use Rattle.engine_edits.specs.Parts.{rows_in}
use Rattle.engine_edits.specs.Ready.{added}
use Rattle.engine_edits.specs.declared.parts.EngineParts.{EngineParts}
use Rattle.engine_edits.proofs.PartsLemmas.{by_verdicts, no_others, rows_are}
use Rattle.engine_edits.proofs.ReadyLemmas.{rows_stay, same_parts, same_registry}
use Rattle.engine_edits.proofs.statements.ready_statement.Goals as goal

pub returns-in-Ok : goal.returns-in-Ok
returns-in-Ok c =
    let p = c.args.parts.now in
    let rows = rows_in p in
    let table = p.registry.table in
    let w = c.ready_statement.new.self in
    let q : EngineParts = record p { verdicts = w } in
    let same = c.in-Ok.ensures.same in
    let here = same_registry p.registry in
    let are = c.requires.beside.are in
    let a = c.in-Ok.addition in
    let ids = c.args.ids.items in
    let ready = subst (λ (xs : List NameId). IsAddition w table p.registry.entries c.args.statement xs a) c.deref.ensures.value c.in-Ok.ensures.ready in
    let is = sym ready.row.numbered.0 in
    record {
      same = same_parts p q here same refl;
      edit = ap (λ (s : Statement). edit.PutStatement s) (sym is);
      all = record {
        numbered = subst (λ (s : Statement). AreFactNumbers table s ids) is c.requires.beside.found;
        held = subst (λ (x : Rows). Shows table (holds_in table) (names_at table ids ++ names_of_rows x)) (sym (rows_stay p q here same)) are.held;
        addition = subst (λ (s : Statement). IsAddition w table p.registry.entries s ids a) is ready;
        verdicts = subst (λ (x : Rows). HasVerdictsBeside table w x (added a) a) (sym (rows_stay p q here same)) (subst (λ (s : Statement). HasVerdictsBeside table w rows s a) is (c.in-Ok.ensures.verdicts rows are.verdicts));
      };
      left = tt;
    }

pub returns-in-Err : goal.returns-in-Err
returns-in-Err c =
    let p = c.args.parts.now in
    let rows = rows_in p in
    let are = c.requires.beside.are in
    let w = c.ready_statement.new.self in
    let here = by_verdicts p.registry p.verdicts w rows (names_at p.registry.table c.args.ids.items) (c.in-Err.ensures.err rows are.verdicts) are in
    let left = c.release_all.ensures w rows [] (no_others p.registry w rows c.args.ids.items c.deref-in-Err.result.now c.deref-in-Err.ensures.value here) in
    record { same = record { rows = rows_are (record p { registry = c.release_all.new.registry; verdicts = w }) rows [] left; known = c.in-Err.ensures.same.known; weight = refl }; edit = tt; all = tt; left = left }
