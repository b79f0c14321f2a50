use Rattle.cpe_rows.specs.declared.statement.Mode.TheVariants.{Follow}
use Rattle.std.proofs.Common.{◌≡◌, ◌+◌, ◌||◌, ℕ, List, take, refl, sym, ap, subst, ◌∙◌}
use Rattle.std.specs.List.{list_any}
use Rattle.std.proofs.lemmas.List.Folds.{list_any_more}
use Rattle.std.proofs.lemmas.List.{take_all}
use Rattle.name_index.specs.declared.table.NameId.{NameId}
use Rattle.fact_rows.specs.Facts.{has_end_of_fact, facts_of_end, fact_name_id}
use Rattle.fact_rows.specs.Calls.{RowsRefreshed}
use Rattle.fact_rows.proofs.RefreshLemmas.{refreshed_again, refreshed_none, refreshed_where}
use Rattle.fact_rows.proofs.refresh.refresh_ends.Goals as goal

pub loop-end-init : goal.loop-end-init
loop-end-init c = record {
  changes = c.requires;
  rows = refreshed_none Follow c.args.board.now c.args.rows.now.entries c.args.changed.now.items (λ q. list_any (λ (id : NameId). has_end_of_fact (facts_of_end c.args.by_end.now.entries id.0) q) (take 0 c.args.ends.now)) (λ q. refl);
}

pub loop-end-preserved : goal.loop-end-preserved
loop-end-preserved c =
    let board = c.args.board.now in
    let ends = c.args.ends.now in
    let by_end = c.args.by_end.now.entries in
    let i = c.loop-end.end-index in
    let lt = c.loop-end-test.true in
    let first = c.args.rows.now.entries in
    let now = c.loop-end.rows.entries in
    let next = c.refresh_facts.new.rows.entries in
    let before = c.args.changed.now.items in
    let between = c.loop-end.changed.items in
    let after = c.refresh_facts.new.changed.items in
    let so_far = λ (q : ℕ). list_any (λ (id : NameId). has_end_of_fact (facts_of_end by_end id.0) q) (take i ends) in
    let more = λ (q : ℕ). has_end_of_fact c.facts_of.result.now q in
    let same : (q : ℕ) → list_any (λ (id : NameId). has_end_of_fact (facts_of_end by_end id.0) q) (take (i + 1) ends) ≡ (so_far q || more q) =
    λ q. list_any_more (λ (id : NameId). has_end_of_fact (facts_of_end by_end id.0) q) ends i (fact_name_id 0) lt ∙ ap (λ (xs : List NameId). so_far q || has_end_of_fact xs q) (sym c.facts_of.ensures) in
    record {
      changes = c.refresh_facts.ensures.changes;
      rows = refreshed_where Follow board first next before after (λ q. so_far q || more q) (λ q. list_any (λ (id : NameId). has_end_of_fact (facts_of_end by_end id.0) q) (take (i + 1) ends)) same (refreshed_again Follow board first now next before between after so_far more c.loop-end.invariant.rows c.refresh_facts.ensures.rows);
    }

pub returns-clause-rows : goal.returns-clause-rows
returns-clause-rows c =
    let by_end = c.args.by_end.now.entries in
    subst (λ (ends : List NameId). RowsRefreshed c.args.rows.now.entries c.loop-end.rows.entries c.args.changed.now.items c.loop-end.changed.items (λ q. list_any (λ (id : NameId). has_end_of_fact (facts_of_end by_end id.0) q) ends) Follow c.args.board.now)
    (take_all c.loop-end.end-index c.args.ends.now c.loop-end-test.false) c.loop-end.invariant.rows
