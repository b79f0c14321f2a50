use Rattle.std.proofs.Common.{◌≡◌, List, None, false, subst, refl, ap, ◌∙◌}
use Rattle.name_index.specs.declared.table.NameId.{NameId}
use Rattle.fact_rows.specs.Calls.{FactRemoved}
use Rattle.fact_rows.specs.Facts.{FactTable, IsUnderNone, OthersStay, SameElsewhere, fact_at, facts_with_end, has_end_of_fact, seen_fact}
use Rattle.std.specs.Option.{option_map}
use Rattle.fact_rows.proofs.TableLemmas.{linked_gone}
use Rattle.fact_rows.proofs.LinkLemmas.{nat_differ}
use Rattle.fact_rows.proofs.ChangeLemmas.{changes_removed}
use Rattle.fact_rows.proofs.facts.FactRows.remove_fact.Goals as goal

pub invariant_of-self : goal.invariant_of-self
invariant_of-self c =
    let free : has_end_of_fact c.self.inside.changed.items c.args.fact.0 ≡ false = ap (λ (t : FactTable). has_end_of_fact t.changed c.args.fact.0) c.self.view_is ∙ c.requires in
    record {
      lists = record { tight = c.unlink.ensures.tight c.self.invariant.lists.tight; once = c.unlink.ensures.once c.self.invariant.lists.once };
      changes = changes_removed c.self.inside.rows.entries c.self.inside.changed c.self.invariant.changes c.remove_row.new.rows.entries c.args.fact.0 c.remove_row.ensures.here c.remove_row.ensures.others c.remove_row.ensures.many free;
    }

pub returns : goal.returns
returns c =
    let fact = c.args.fact.0 in
    let old : FactTable = record { rows = c.self.inside.rows.entries; by_end = c.self.inside.by_end.entries; changed = c.self.inside.changed.items } in
    let new : FactTable = record { rows = c.remove_row.new.rows.entries; by_end = c.unlink.new.facts.entries; changed = c.self.inside.changed.items } in
    let none : fact_at new fact ≡ None = ap (option_map seen_fact) c.remove_row.ensures.here in
    let stay : OthersStay fact old new = λ q other. ap (option_map seen_fact) (c.remove_row.ensures.others q (nat_differ fact q other)) in
    subst (λ (t : FactTable). FactRemoved t new fact) c.self.view_is (record {
      here = none;
      stay = stay;
      gone = subst (λ (ends : List NameId). IsUnderNone (facts_with_end new) fact ends) c.ends_of.ensures (c.unlink.ensures.gone c.self.invariant.lists.once);
      elsewhere = subst (λ (ends : List NameId). SameElsewhere ends (facts_with_end old) (facts_with_end new)) c.ends_of.ensures c.unlink.ensures.elsewhere;
      others = c.unlink.ensures.others;
      linked = linked_gone old new fact stay c.unlink.ensures.others none;
      changed = refl;
    })
