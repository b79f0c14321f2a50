use Rattle.std.proofs.Common.{List, ℕ, ◌++◌, sym, ap, ◌∙◌, subst}
use Rattle.std.specs.Io.KnownBytes.{Appends}
use Rattle.std.proofs.KnownBytes.{Appends-trans}
use Rattle.cpe_io.specs.Writes.{AppendsPrefix}
use Rattle.cpe_command.specs.Loading.{state_text}
use Rattle.line_session.specs.declared.status.Status.TheVariants.{Done}
use Rattle.line_session.proofs.Pouring.{Pours-rest}
use Rattle.line_session.proofs.Runs.{Ran-written, Ran-written_fault}
use Rattle.cpe_command.proofs.load.write_state.Goals as goal

-- a line could not be appended to the page, or a write failed
pub returns-in-Err-clause-ran : goal.returns-in-Err-clause-ran
returns-in-Err-clause-ran g c =
    let text = state_text c.args.engine.now in
    let prefix = subst (λ (t : List ℕ). AppendsPrefix (g.K.Sink.held c.args.sink.now) (g.K.Sink.held c.pour_state.new.sink) (t ++ text)) c.new-page.ensures c.pour_state.ensures.prefix in
    λ left. Ran-written_fault left (g.K.Sink.held c.args.sink.now) (g.K.Sink.held c.pour_state.new.sink) (record { text = text; status = Done }) c.in-Err.fault c.from.result c.from.ensures prefix

-- all was written
pub returns-in-Ok-clause-ran : goal.returns-in-Ok-clause-ran
returns-in-Ok-clause-ran g c =
    let text = state_text c.args.engine.now in
    let held = g.K.Sink.held c.args.sink.now in
    let then = g.K.Sink.held c.pour_state.new.sink in
    let now = g.K.Sink.held c.write_all.new.sink in
    let pours = c.in_default.ensures.ok in
    let rest = subst (λ (t : List ℕ). Appends then now t) c.text.ensures c.in-Ok.ensures.ok in
    let all = Appends-trans held then now pours.prefix c.pour_state.new.page pours.appends rest in
    let is = sym (ap (λ (l : List ℕ). l ++ text) c.new-page.ensures) ∙ pours.splits in
    λ left. Ran-written left held now (record { text = text; status = Done }) tt (subst (λ (t : List ℕ). Appends held now t) (sym is) all)

-- all lines were appended, and the last write failed
pub returns-clause-ran : goal.returns-clause-ran
returns-clause-ran g c =
    let text = state_text c.args.engine.now in
    let held = g.K.Sink.held c.args.sink.now in
    let now = g.K.Sink.held c.write_all.new.sink in
    let rest = subst (λ (t : List ℕ). AppendsPrefix (g.K.Sink.held c.pour_state.new.sink) now t) c.text.ensures c.write_all.ensures.prefix in
    let prefix = subst (λ (t : List ℕ). AppendsPrefix held now (t ++ text)) c.new-page.ensures (Pours-rest c.in_default.ensures.ok rest) in
    λ left. Ran-written_fault left held now (record { text = text; status = Done }) c.in-Err-write_all.fault c.from-in-Err-write_all.result c.from-in-Err-write_all.ensures prefix
