use Rattle.std.proofs.Common.{◌≡◌, ℕ, List, true, subst, refl, ap, ◌∙◌}
use Rattle.name_index.specs.declared.table.NameId.{NameId}
use Rattle.fact_rows.specs.Calls.{FactUnlinked}
use Rattle.fact_rows.specs.Facts.{FactTable, ends_of_fact, facts_of_end, has_end_of_fact}
use Rattle.fact_rows.proofs.TableLemmas.{linked_still}
use Rattle.fact_rows.proofs.facts.FactRows.unlink.Goals as goal

pub returns : goal.returns
returns c =
    let fact = c.args.fact.0 in
    let old : FactTable = record { rows = c.self.inside.rows.entries; by_end = c.self.inside.by_end.entries; changed = c.self.inside.changed.items } in
    let new : FactTable = record { rows = c.self.inside.rows.entries; by_end = c.unlink_old.new.facts.entries; changed = c.self.inside.changed.items } in
    let kept : (e : ℕ) → has_end_of_fact (ends_of_fact old fact) e ≡ true → facts_of_end c.unlink_old.new.facts.entries e ≡ facts_of_end c.self.inside.by_end.entries e = λ e at. c.unlink_old.ensures.kept e (ap (λ (ends : List NameId). has_end_of_fact ends e) c.ends_of.ensures ∙ at) in
    subst (λ (t : FactTable). FactUnlinked t new fact c.args.ends.now) c.self.view_is (record {
      gone = λ e at none. c.unlink_old.ensures.gone c.self.invariant.lists.once e at (ap (λ (ends : List NameId). has_end_of_fact ends e) c.ends_of.ensures ∙ none);
      links = kept;
      others = c.unlink_old.ensures.others;
      stay = λ q. refl;
      linked = linked_still old new fact (λ q other. refl) c.unlink_old.ensures.others refl kept;
      changed = refl;
    })
