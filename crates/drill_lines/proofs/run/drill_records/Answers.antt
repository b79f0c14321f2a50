use Rattle.std.proofs.Common.{◌≡◌, ◌⊎◌, None, ap, ◌∙◌, subst, arith}
use Rattle.line_session.specs.declared.status.Status.TheVariants.{Memory}
use Rattle.line_session.specs.Ran.{Ran, ReachedBy}
use Rattle.line_session.specs.Session.{total_cost}
use Rattle.line_session.specs.Table.{made_lines}
use Rattle.line_session.specs.Task.{Transcript, Fixed, speech, spoken}
use Rattle.line_session.proofs.Runs.{Ran-besides}
use Rattle.drill_lines.specs.declared.drilled.Drilled.{Drilled}
use Rattle.drill_lines.specs.Generated.{generated}
use Rattle.drill_lines.specs.Drill.{undrilled, drill_session}
use Rattle.drill_lines.proofs.DrillLemmas.{drill_is_spoken, drill-leaves, drill_cost}
use Rattle.drill_lines.proofs.run.drill_records.Goals as goal

pub returns-clause-ran : goal.returns-clause-ran
returns-clause-ran g c = λ left.
    let lines = made_lines generated c.args.count in
    let ran = subst (λ (first : Drilled). Ran left left (g.K.Sink.held c.args.sink.now) (g.K.Sink.held c.answer_made.new.sink) (Fixed (spoken (speech (drill_session c.args.count) first) lines))
    (λ taken status. ReachedBy (drill_session c.args.count) first c.answer_made.new.state c.args.steps.now c.answer_made.new.steps lines lines status) c.answer_made.result)
    c.requires (c.answer_made.ensures.ran left) in
    Ran-besides
    (subst (λ (all : Transcript). Ran left left (g.K.Sink.held c.args.sink.now) (g.K.Sink.held c.answer_made.new.sink) (Fixed all)
    (λ taken status. ReachedBy (drill_session c.args.count) undrilled c.answer_made.new.state c.args.steps.now c.answer_made.new.steps lines lines status) c.answer_made.result)
    (drill_is_spoken c.args.count) ran)
    (λ taken reached. drill-leaves c.args.count c.answer_made.new.state c.answer_made.result reached)

pub returns-clause-steps : goal.returns-clause-steps
returns-clause-steps g c =
    let reached = (c.answer_made.ensures.ran None).besides in
    let cost = ap (λ (first : Drilled). total_cost (drill_session c.args.count) first (made_lines generated c.args.count)) c.requires in
    (reached.later, omega (arith, reached.within, cost, drill_cost c.args.count))

pub returns-clause-complete : goal.returns-clause-complete
returns-clause-complete g c = λ none.
    let ended = c.answer_made.ensures.complete none in
    let status : (spoken (speech (drill_session c.args.count) c.args.drilled.now) (made_lines generated c.args.count)).status ≡ _ =
    ap (λ (first : Drilled). (spoken (speech (drill_session c.args.count) first) (made_lines generated c.args.count)).status) c.requires
    ∙ ap (λ (all : Transcript). all.status) (drill_is_spoken c.args.count) in
    subst (λ st. (c.answer_made.result ≡ st) ⊎ (c.answer_made.result ≡ Memory)) status ended
