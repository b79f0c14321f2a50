-- Lemmas: the steps of a walk over products.
use Rattle.std.proofs.Common.{◌≡◌, ℕ, suc, ◌-◌, ◌<◌, true, List, [], ◌++◌, length, take, drop, sym, ap, ◌∙◌, append_assoc, arith}
use Rattle.std.specs.List.{filter}
use Rattle.std.proofs.lemmas.List.{nil_from_length, append-nil}
use Rattle.name_index.specs.declared.keys.End.TheVariants as end
use Rattle.name_index.specs.declared.keys.Shape.TheVariants as shape
use Rattle.name_index.specs.Keys.{in_run}
use Rattle.name_index.specs.Listed.{product_value_at, ProductList}
use Rattle.name_index.specs.Walk.{shape_runs, all_runs, IsWalkIn}

pub none_left : (xs : List ℕ) → length xs ≡ 0 → xs ≡ []
none_left xs h = nil_from_length xs h

module _ (values : ProductList) (order text : List ℕ) where
  abbrev fronts_run : ℕ → List ℕ
  fronts_run k = filter (λ n. in_run end.Front shape.WithTrail (take k text) true (product_value_at values n)) order

  abbrev ends_run : ℕ → List ℕ
  ends_run k = filter (λ n. in_run end.Front shape.WithLead (drop (length text - k) text) true (product_value_at values n)) order

  nothing_before : (a b c rest : List ℕ) → a ≡ [] → b ≡ [] → c ≡ [] → a ++ b ++ c ++ rest ≡ rest
  nothing_before a b c rest x y z = ap (λ (u : List ℕ). u ++ b ++ c ++ rest) x ∙ ap (λ (u : List ℕ). u ++ c ++ rest) y ∙ ap (λ (u : List ℕ). u ++ rest) z

  fewer_fronts : (fronts j ends : ℕ) → fronts ≡ suc j → all_runs values order text fronts ends ≡ fronts_run j ++ all_runs values order text j ends
  fewer_fronts fronts j ends e =
      ap (λ (k : ℕ). all_runs values order text k ends) e ∙ append_assoc (fronts_run j) (shape_runs values order shape.WithTrail (λ k. take k text) j) (shape_runs values order shape.WithLead (λ k. drop (length text - k) text) ends)

  fewer_ends : (fronts ends j : ℕ) → fronts ≡ 0 → ends ≡ suc j → all_runs values order text fronts ends ≡ ends_run j ++ all_runs values order text fronts j
  fewer_ends fronts ends j z e =
      ap (λ (k : ℕ). all_runs values order text k ends) z ∙ ap (λ (k : ℕ). all_runs values order text 0 k) e ∙ ap (λ (k : ℕ). ends_run j ++ all_runs values order text k j) (sym z)

  joined : (a b c run rest more : List ℕ) → a ≡ [] → b ≡ [] → c ≡ [] → rest ≡ run ++ more → a ++ b ++ c ++ rest ≡ run ++ b ++ c ++ more
  joined a b c run rest more x y z e =
      nothing_before a b c rest x y z ∙ e
      ∙ sym (ap (λ (u : List ℕ). run ++ u ++ c ++ more) y ∙ ap (λ (u : List ℕ). run ++ [] ++ u ++ more) z ∙ ap (λ (u : List ℕ). u ++ more) (append-nil (run ++ []) ∙ append-nil run))

  pub next_front : (a b c run : List ℕ) (fronts ends : ℕ) → a ≡ [] → b ≡ [] → c ≡ [] → 0 < fronts → run ≡ fronts_run (fronts - 1)
      → a ++ b ++ c ++ all_runs values order text fronts ends ≡ run ++ b ++ c ++ all_runs values order text (fronts - 1) ends
  next_front a b c run fronts ends x y z lt is =
      joined a b c run (all_runs values order text fronts ends) (all_runs values order text (fronts - 1) ends) x y z
      (fewer_fronts fronts (fronts - 1) ends (omega (arith, lt)) ∙ ap (λ (u : List ℕ). u ++ all_runs values order text (fronts - 1) ends) (sym is))

  pub next_end : (a b c run : List ℕ) (fronts ends : ℕ) → a ≡ [] → b ≡ [] → c ≡ [] → fronts ≡ 0 → 0 < ends → run ≡ ends_run (ends - 1)
      → a ++ b ++ c ++ all_runs values order text fronts ends ≡ run ++ b ++ c ++ all_runs values order text fronts (ends - 1)
  next_end a b c run fronts ends x y z none lt is =
      joined a b c run (all_runs values order text fronts ends) (all_runs values order text fronts (ends - 1)) x y z
      (fewer_ends fronts ends (ends - 1) none (omega (arith, lt)) ∙ ap (λ (u : List ℕ). u ++ all_runs values order text fronts (ends - 1)) (sym is))

  pub front_present : (fronts ends : ℕ) → IsWalkIn values order text fronts ends → IsWalkIn values order text (fronts - 1) ends
  front_present fronts ends s = record { rises = s.rises; few_fronts = omega (arith, s.few_fronts); few_ends = s.few_ends }

  pub end_present : (fronts ends : ℕ) → IsWalkIn values order text fronts ends → IsWalkIn values order text fronts (ends - 1)
  end_present fronts ends s = record { rises = s.rises; few_fronts = s.few_fronts; few_ends = omega (arith, s.few_ends) }
