use Rattle.std.proofs.Common.{◌≡◌, IfOk, List, ℕ, ap, subst, ◌∙◌}
use Rattle.cpe_rows.specs.declared.reply.Row.{Row}
use Rattle.names_in_order.specs.Places.{rows_at}
use Rattle.cpe_dictionary.proofs.KeptLemmas.{found_at, wanted_rows}
use Rattle.cpe_dictionary.proofs.entries.Entries.rows_found.Goals as goal

pub returns-clause-rows : goal.returns-clause-rows
returns-clause-rows g c =
    let asked = c.args.asked.now in
    let active = c.args.active_only in
    let es = c.args.self.now in
    subst (λ (xs : List Row). IfOk c.wanted_at.result (λ (rs : List Row). rs ≡ xs))
    (ap (λ (ks : List ℕ). wanted_rows active (rows_at es ks)) (c.deref.ensures.value ∙ c.in_ok-places.ensures.covered) ∙ found_at asked active es)
    c.wanted_at.ensures
