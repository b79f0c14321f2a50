use Rattle.std.proofs.Common.{[], ◌∷◌, ◌++◌, List, ℕ, true, false, sym, ap, ◌∙◌}
use Rattle.std.proofs.lemmas.List.{append-nil}
use Rattle.advise_ranges.specs.Kept.{advisory_from}
use Rattle.advise_ranges.proofs.KeptLemmas.{one_affecting}
use Rattle.advise_ranges.proofs.advised.push_affecting.Goals as goal

pub returns-in_ok-push : goal.returns-in_ok-push
returns-in_ok-push c =
    c.in_ok-push.ensures.ok ∙ ap (λ (x : List ℕ). c.args.ids.now ++ x ∷ []) c.in_ok-copy.ensures
    ∙ ap (λ (xs : List (List ℕ)). c.args.ids.now ++ xs) (sym (one_affecting c.args.name.now (advisory_from (c.args.id.now, c.args.terms.now)) true (sym (c.affects.ensures c.args.id.now) ∙ c.if-affects.true)))

pub returns-else-affects : goal.returns-else-affects
returns-else-affects c =
    sym (append-nil c.args.ids.now)
    ∙ ap (λ (xs : List (List ℕ)). c.args.ids.now ++ xs) (sym (one_affecting c.args.name.now (advisory_from (c.args.id.now, c.args.terms.now)) false (sym (c.affects.ensures c.args.id.now) ∙ c.if-affects.false)))
