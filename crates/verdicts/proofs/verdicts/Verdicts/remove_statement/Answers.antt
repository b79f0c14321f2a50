use Rattle.std.proofs.Common.{◌≡◌, ℕ, true, List, map, Option, sym, ap, subst, ◌∙◌}
use Rattle.std.specs.Prelude.{find}
use Rattle.std.specs.List.{list_any}
use Rattle.std.specs.Option.{option_map}
use Rattle.std.proofs.lemmas.Option.{none-some, same_Some}
use Rattle.name_index.specs.declared.table.NameId.{NameId}
use Rattle.cpe_rows.specs.After.{after}
use Rattle.cpe_rows.specs.FactNames.{fact_names}
use Rattle.cpe_rows.specs.Rows.{has_id}
use Rattle.cpe_rows.specs.declared.edit.Edit.TheVariants as edit
use Rattle.cpe_rows.specs.declared.statement.Mode.{Mode}
use Rattle.cpe_rows.specs.declared.statement.Statement.{Statement}
use Rattle.facts.specs.fact_laws.Shown.{names_at}
use Rattle.fact_boards.specs.Kept.{AreFactNames}
use Rattle.facts.specs.ticket_list.Tickets.{without}
use Rattle.facts.specs.Facts.{HasFacts}
use Rattle.statement_rows.specs.State.{is_of, StatementRow, use_in, use_of}
use Rattle.verdicts.specs.Removal.{IsRemoval, RemovesWith, StatementRemoved}
use Rattle.verdicts.specs.Verdicts.{HasVerdicts, statements_in, tickets_in, VerdictsNow}
use Rattle.verdicts.proofs.RemovalLemmas.{found_statement, left_verdicts, may_remove, old_statement, row_numbered, row_of, tickets_without, use_found}
use Rattle.verdicts.proofs.verdicts.Verdicts.remove_statement.Goals as goal

pub unreachable-requires : goal.unreachable-requires
unreachable-requires g c =
    let id = c.args.id.now in
    let has = subst (λ (w : VerdictsNow). list_any (has_id id) (statements_in w) ≡ true) (sym c.self.view_is) c.requires.has in
    let at = row_of id c.self.inside.statements.rows has in
    none-some (use_of at.0) (c.in-None.ensures.row ∙ ap (option_map use_of) at.1)

pub remove_statement-requires-2 : goal.remove_statement-requires-2
remove_statement-requires-2 g c =
    let v : VerdictsNow = record { facts = c.self.inside.facts; statements = c.self.inside.statements } in
    let table = c.args.table.now in
    let id = c.args.id.now in
    let r = c.args.removal in
    let rows_before = c.requires.rows_before in
    let h = subst (λ (w : VerdictsNow). HasVerdicts table w rows_before.0) (sym c.self.view_is) rows_before.2 in
    let removal = subst (λ (w : VerdictsNow). IsRemoval w id r) (sym c.self.view_is) c.requires.removal in
    let at = use_found (find (is_of id) v.statements.rows) (use_in c.in-Some.used) c.in-Some.ensures.row in
    let last = subst (λ (o : Option StatementRow). RemovesWith v.facts (option_map use_of o) r) at.1 removal in
    may_remove table v rows_before.0 h id at.0 at.1 c.lawful.ensures r last (use_in c.in-Some.used) at.2 c.deref.result.now c.deref-2.result.now c.deref-3.result.now c.deref.ensures.value c.deref-2.ensures.value c.deref-3.ensures.value

pub returns : goal.returns
returns g c =
    let v : VerdictsNow = record { facts = c.self.inside.facts; statements = c.self.inside.statements } in
    let new : VerdictsNow = record { facts = c.remove_statement-2.new.self; statements = c.remove_statement.new.self } in
    let table = c.args.table.now in
    let id = c.args.id.now in
    let r = c.args.removal in
    let rows_before = c.requires.rows_before in
    let h = subst (λ (w : VerdictsNow). HasVerdicts table w rows_before.0) (sym c.self.view_is) rows_before.2 in
    let removal = subst (λ (w : VerdictsNow). IsRemoval w id r) (sym c.self.view_is) c.requires.removal in
    let u = use_in c.in-Some.used in
    let at = use_found (find (is_of id) v.statements.rows) u c.in-Some.ensures.row in
    let j = at.0 in
    let last = subst (λ (o : Option StatementRow). RemovesWith v.facts (option_map use_of o) r) at.1 removal in
    let ids : c.in-Some.used.ids.items ≡ j.ids = ap (λ (w : Mode × List NameId × ℕ). w.1) at.2 in
    let ticket : c.in-Some.used.ticket ≡ j.ticket = ap (λ (w : Mode × List NameId × ℕ). w.2) at.2 in
    let numbered = row_numbered table v rows_before.0 h id j at.1 in
    let taken = c.remove_statement.ensures in
    let moved = c.remove_statement-2.ensures in
    let core : StatementRemoved table v new id c.in-Some.used.ids.items c.args.steps.now c.remove_statement-2.new.steps = record {
      verdicts = λ rows has.
          let tickets = tickets_in v.statements.rows in
          let old = old_statement table v rows has id j at.1 c.lawful.ensures r last u at.2 c.deref.result.now c.deref-2.result.now c.deref-3.result.now c.deref.ensures.value c.deref-2.ensures.value c.deref-3.ensures.value in
          let facts = subst (HasFacts table new.facts (after rows (edit.DropStatement id)))
          (ap (λ (t : ℕ). without t tickets) ticket ∙ sym (tickets_without id v.statements.rows j has.facts.numbered.rising at.1))
          (moved.facts rows tickets id j.statement has.facts old) in
          left_verdicts c.same_truths_judge_the_same.ensures table v new.facts rows has id facts moved.truths new.statements (moved.used has.needed.facts) (taken.asked has.needed.askers) c.lawful-2.ensures taken.rows taken.checks;
      live = subst (AreFactNames table) (sym ids) numbered.live;
      named = λ s found.
          let same = same_Some j.statement s (sym (found_statement id v.statements.rows j at.1) ∙ found) in
          ap (names_at table) ids ∙ numbered.named ∙ ap (λ (t : Statement). fact_names t.test) same;
      known = ap (map (λ (k : StatementRow). k.known)) taken.rows;
      steps = moved.steps;
    } in
    subst (λ (w : VerdictsNow). StatementRemoved table w new id c.in-Some.used.ids.items c.args.steps.now c.remove_statement-2.new.steps) c.self.view_is core
