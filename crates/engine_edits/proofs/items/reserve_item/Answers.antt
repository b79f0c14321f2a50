use Rattle.std.proofs.Common.{◌∷◌, ◌≤◌, List, [], length, refl, sym, subst, ◌∙◌}
use Rattle.cpe_rows.specs.Chains.{ends as ends_of_name}
use Rattle.cpe_rows.specs.Rows.{Rows}
use Rattle.cpe_rows.specs.declared.statement.Mode.TheVariants.{Follow}
use Rattle.name_index.specs.declared.table.NameId.{NameId}
use Rattle.name_index.specs.Table.{IsLive, Names}
use Rattle.verdicts.specs.Items.{HasRoomForItem}
use Rattle.verdicts.specs.name_registry.Registered.{name_in}
use Rattle.verdicts.specs.facts.Facts.{LeadsTo}
use Rattle.engine_edits.specs.Parts.{AreOf, rows_in}
use Rattle.engine_edits.specs.declared.parts.EngineParts.{EngineParts}
use Rattle.engine_edits.proofs.PartsLemmas.{by_verdicts}
use Rattle.engine_edits.proofs.ReadyLemmas.{are_still, named_still, rows_stay}
use Rattle.engine_edits.proofs.MadeLemmas.{are_ends, few_ends}
use Rattle.engine_edits.proofs.items.reserve_item.Goals as goal

pub reserve_item-requires-clause-few : goal.reserve_item-requires-clause-few
reserve_item-requires-clause-few c =
    let p = c.args.parts.now in
    let rows = rows_in p in
    let old = p.registry.table in
    let n = name_in old c.args.id in
    subst (λ (xs : List NameId). length xs ≤ 256) (sym c.deref.ensures.value)
    (few_ends old c.in_ok-ends.ends.items (ends_of_name rows.entries n) c.in_ok-ends.ensures.names (c.lawful_rows_ask_few.ensures.leads rows Follow n c.requires.lawful))

pub returns-clause-ready : goal.returns-clause-ready
returns-clause-ready c =
    let p = c.args.parts.now in
    let rows = rows_in p in
    let r = c.reserve_item-2.new.self in
    let w = c.reserve_item.new.self in
    let q : EngineParts = record p { registry = r; verdicts = w } in
    let same = c.in_ok-reserve_item-2.ensures.same in
    let verdicts = c.in_ok-reserve_item.ensures.same in
    let here = rows_stay p q same verdicts in
    let ends = c.in_ok-ends.ensures in
    let id = c.args.id in
    let others = name_in p.registry.table id ∷ [] in
    let present = c.in_ok-reserve_item.ensures.verdicts p.registry.table rows c.requires.are.verdicts in
    let leads = are_ends p.registry.table r.table rows.entries id.0 c.in_ok-ends.ends.items c.in_ok-ends.ends.items same.table refl ends.live ends.names in
    record {
      are = subst (λ (x : Rows). AreOf r w x (name_in r.table id ∷ [])) (sym here) (named_still p.registry r w rows id same (are_still p.registry r p.verdicts w rows others same present c.requires.are));
      live = subst (λ (t : Names). IsLive t id.0) (sym same.table) c.requires.live;
      ends = subst (λ (x : Rows). LeadsTo r.table x.entries Follow id.0 c.in_ok-ends.ends.items) (sym here) leads;
      room = c.in_ok-reserve_item-2.ensures.room;
      boards = subst (λ (t : Names). HasRoomForItem w.facts t (length c.in_ok-ends.ends.items)) (c.table.ensures ∙ sym same.table)
          (subst (λ (xs : List NameId). HasRoomForItem w.facts c.table.result.now (length xs)) c.deref.ensures.value c.in_ok-reserve_item.ensures.room);
    }

pub returns-clause-are : goal.returns-clause-are
returns-clause-are c =
    let p = c.args.parts.now in
    let rows = rows_in p in
    are_still p.registry c.reserve_item-2.new.self p.verdicts c.reserve_item.new.self rows (name_in p.registry.table c.args.id ∷ []) c.in_ok-reserve_item-2.ensures.same
    (c.in_ok-reserve_item.ensures.verdicts p.registry.table rows c.requires.are.verdicts) c.requires.are

pub returns-in_err-reserve_item-clause-are : goal.returns-in_err-reserve_item-clause-are
returns-in_err-reserve_item-clause-are c =
    let p = c.args.parts.now in
    let rows = rows_in p in
    by_verdicts p.registry p.verdicts c.reserve_item.new.self rows (name_in p.registry.table c.args.id ∷ []) (c.in_err-reserve_item.ensures.verdicts p.registry.table rows c.requires.are.verdicts) c.requires.are

pub returns-in_err-reserve_item-2-clause-are : goal.returns-in_err-reserve_item-2-clause-are
returns-in_err-reserve_item-2-clause-are c =
    let p = c.args.parts.now in
    let rows = rows_in p in
    are_still p.registry c.reserve_item-2.new.self p.verdicts c.reserve_item.new.self rows (name_in p.registry.table c.args.id ∷ []) c.in_err-reserve_item-2.ensures.same
    (c.in_ok-reserve_item.ensures.verdicts p.registry.table rows c.requires.are.verdicts) c.requires.are
