use Rattle.std.proofs.Common.{◌≡◌, ◌∙◌, List, find, map, sym, ap, subst}
use Rattle.std.specs.Borrow.{Bor}
use Rattle.std.specs.List.{AllByRecursion, list_any}
use Rattle.cpe_rows.specs.cpe_name.Eleven.{Values}
use Rattle.cpe_rows.specs.cpe_name.Lower.{IsLower}
use Rattle.cpe_rows.specs.Names.{is_same}
use Rattle.cpe_rows.specs.declared.entry.Entry.{Entry}
use Rattle.name_index.specs.declared.table.NameId.{NameId}
use Rattle.engine_edits.specs.fact_laws.Asked.{leads}
use Rattle.engine_edits.specs.fact_laws.Shown.{names_at}
use Rattle.cpe_engine.specs.Shown.{AreShown}
use Rattle.cpe_engine.proofs.ShownLemmas.{first_shown, leads_lower}
use Rattle.cpe_engine.proofs.leading.first_shown.Goals as goal

pub all_shown-requires-clause-lower : goal.all_shown-requires-clause-lower
all_shown-requires-clause-lower c =
    let rows = c.requires.rows_before.0 in
    let are = c.requires.rows_before.1 in
    subst (AllByRecursion IsLower)
    (ap (λ (es : List Entry). leads es c.args.mode c.args.name.now) are.entries ∙ sym (ap (map (λ (n : Bor Values). n.now)) c.deref.ensures.value ∙ c.in_ok-names.ensures))
    (leads_lower rows c.args.mode c.args.name.now are.lawful.dictionary c.requires.lower)

pub returns : goal.returns
returns c = λ rows are.
    let table = c.args.registry.now.table in
    let mode = c.args.mode in
    let now = λ (n : Bor Values). n.now in
    let led : map now c.deref.result.now ≡ leads rows.entries mode c.args.name.now
    = ap (map now) c.deref.ensures.value ∙ c.in_ok-names.ensures ∙ ap (λ (es : List Entry). leads es mode c.args.name.now) (sym are.entries) in
    let found = names_at table c.in_ok-items.items.items in
    c.first_item_of.ensures
    ∙ ap (λ (ids : List NameId). find (λ (n : Values). list_any (is_same n) (names_at table ids)) c.args.registry.now.items) c.deref-2.ensures.value
    ∙ ap (find (λ (n : Values). list_any (is_same n) found)) (sym are.items)
    ∙ first_shown rows mode c.args.relates c.args.name.now found (subst (λ (names : List Values). AreShown rows mode c.args.relates names found) led (c.in_ok-items.ensures.items rows are))
