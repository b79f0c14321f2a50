use Rattle.std.proofs.Common.{Some, ◌+◌, ap, drop, get_or, subst, sym, ◌∙◌, ◌++◌}
use Rattle.name_index.specs.Table.{IsLive}
use Rattle.name_index.specs.declared.table.NameId.{NameId}
use Rattle.name_index.specs.Index.{name_id}
use Rattle.cpe_dictionary.specs.Plans.{ends_by}
use Rattle.fact_boards.proofs.Steps.{first_live, first_there}
use Rattle.fact_boards.specs.Kept.{AreFactNames}
use Rattle.facts.specs.fact_laws.Shown.{names_at}
use Rattle.verdicts.proofs.NumberLemmas.{all_both, more_names}
use Rattle.verdicts.proofs.ends.all_ends_after.Goals as goal

pub loop-name-preserved : goal.loop-name-preserved
loop-name-preserved c =
    let table = c.args.registry.now.table in
    let names = c.args.names.now in
    let i = c.loop-name.name-index in
    let x : NameId = get_or names i (name_id 0) in
    let rest = drop (i + 1) names in
    let all = c.loop-name.all.items in
    let more = c.in_ok-ends.ends.items in
    let is = c.in_ok-extend_from_slice.ensures.items ∙ ap (λ ns. all ++ ns) c.deref.ensures.value in
    record {
      rest = (first_live table x rest (drop i names) (first_there names i (name_id 0) c.loop-name-test.true) c.loop-name.invariant.rest).1;
      live = subst (AreFactNames table) (sym is) (all_both (λ (y : NameId). IsLive table y.0) all more c.loop-name.invariant.live c.in_ok-ends.ensures.live);
      names = ap (names_at table) is ∙ more_names table (ends_by c.args.registry.now.entries (Some c.args.plan.now)) names all more i c.loop-name-test.true (name_id 0) c.loop-name.invariant.names c.in_ok-ends.ensures.names;
    }
