use Rattle.std.proofs.Common.{subst, refl}
use Rattle.fact_rows.specs.Calls.{FactLinked}
use Rattle.fact_rows.specs.Facts.{FactTable}
use Rattle.fact_rows.proofs.TableLemmas.{linked_by}
use Rattle.fact_rows.proofs.facts.FactRows.link.Goals as goal

pub returns : goal.returns
returns c =
    let old : FactTable = record { rows = c.self.inside.rows.entries; by_end = c.self.inside.by_end.entries; changed = c.self.inside.changed.items } in
    let new : FactTable = record { rows = c.self.inside.rows.entries; by_end = c.link.new.facts.entries; changed = c.self.inside.changed.items } in
    subst (λ (t : FactTable). FactLinked t new c.args.fact.0 c.args.ends.now c.link.result) c.self.view_is (record {
      under = c.link.ensures.ok;
      links = c.link.ensures.links;
      others = c.link.ensures.others;
      elsewhere = c.link.ensures.elsewhere;
      stay = λ q. refl;
      linked = linked_by old new c.link.ensures.links (λ q. refl);
      changed = refl;
    })
