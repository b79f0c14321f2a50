use Rattle.std.proofs.Common.{◌∙◌, ap, sym}
use Rattle.check_results.specs.Kept.{kept_truth}
use Rattle.check_results.specs.Results.{ChecksNow}
use Rattle.check_results.proofs.ResultLemmas.{truth_by_ticket, truth_unknown}
use Rattle.check_results.proofs.checks.Checks.truth.Goals as goal

pub returns-in-Some : goal.returns-in-Some
returns-in-Some c =
    let s = c.self.inside in
    let key = c.args.key.now in
    c.truth_of.ensures.truth
    ∙ (truth_by_ticket s.results.items s.by_key.entries s.next c.self.invariant key c.in-Some.ticket c.truth_of.ensures.rising (sym c.in-Some.ensures)
    ∙ ap (λ (s : ChecksNow). kept_truth s.list key) c.self.view_is)

pub returns-in-None : goal.returns-in-None
returns-in-None c =
    let s = c.self.inside in
    let key = c.args.key.now in
    truth_unknown s.results.items s.by_key.entries s.next c.self.invariant key (sym c.in-None.ensures) ∙ ap (λ (s : ChecksNow). kept_truth s.list key) c.self.view_is
