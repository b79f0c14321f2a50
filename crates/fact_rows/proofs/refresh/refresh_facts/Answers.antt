use Rattle.std.proofs.Common.{◌≡◌, ◌+◌, ◌||◌, ℕ, take, get_or, refl}
use Rattle.std.specs.Prelude.{nat_eq}
use Rattle.std.proofs.lemmas.List.Folds.{list_any_more}
use Rattle.name_index.specs.declared.table.NameId.{NameId}
use Rattle.fact_rows.specs.Facts.{has_end_of_fact, fact_name_id}
use Rattle.fact_rows.proofs.RefreshLemmas.{refreshed_again, refreshed_none, refreshed_where}
use Rattle.fact_rows.proofs.refresh.refresh_facts.Goals as goal

pub loop-fact-init : goal.loop-fact-init
loop-fact-init c = record {
  changes = c.requires;
  rows = refreshed_none c.args.mode c.args.board.now c.args.rows.now.entries c.args.changed.now.items (λ q. has_end_of_fact (take 0 c.args.facts.now) q) (λ q. refl);
}

pub loop-fact-preserved : goal.loop-fact-preserved
loop-fact-preserved c =
    let mode = c.args.mode in
    let board = c.args.board.now in
    let facts = c.args.facts.now in
    let i = c.loop-fact.fact-index in
    let lt = c.loop-fact-test.true in
    let first = c.args.rows.now.entries in
    let now = c.loop-fact.rows.entries in
    let next = c.refresh_fact.new.rows.entries in
    let before = c.args.changed.now.items in
    let between = c.loop-fact.changed.items in
    let after = c.refresh_fact.new.changed.items in
    let so_far = λ (q : ℕ). has_end_of_fact (take i facts) q in
    let more = λ (q : ℕ). nat_eq ((get_or facts i (fact_name_id 0)).0) q in
    let same : (q : ℕ) → has_end_of_fact (take (i + 1) facts) q ≡ (so_far q || more q) = λ q. list_any_more (λ (id : NameId). nat_eq id.0 q) facts i (fact_name_id 0) lt in
    record {
      changes = c.refresh_fact.ensures.changes;
      rows = refreshed_where mode board first next before after (λ q. so_far q || more q) (λ q. has_end_of_fact (take (i + 1) facts) q) same (refreshed_again mode board first now next before between after so_far more c.loop-fact.invariant.rows c.refresh_fact.ensures.rows);
    }
