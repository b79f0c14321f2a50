use Rattle.std.proofs.Common.{ℕ, List, ap, sym, ◌∙◌}
use Rattle.std.specs.Prelude.{slice_get}
use Rattle.statement_rows.specs.Rows.{is_changed}
use Rattle.statement_rows.specs.State.{State, changed_places, has_changed, view_of}
use Rattle.statement_rows.proofs.ReadLemmas.{place_none, place_nth, places-map}
use Rattle.statement_rows.proofs.statements.StatementRows.changed_at.Goals as goal

pub returns-in-Some : goal.returns-in-Some
returns-in-Some c =
    let rows = c.self.inside.rows.items in
    let j = c.args.number in
    let at = ap (λ (ts : List ℕ). slice_get ts j) (sym c.self.invariant.0.noted.changed) ∙ (ap (λ (ts : List ℕ). slice_get ts j) (sym c.deref.ensures.value) ∙ sym c.in-Some.ensures) in
    c.place_of.ensures ∙ (place_nth is_changed c.in-Some.ticket rows j c.self.invariant.0.noted.rising at
    ∙ (ap (λ (ns : List ℕ). slice_get ns j) (sym (places-map view_of has_changed 0 rows)) ∙ ap (λ (b : State). slice_get (changed_places b) j) c.self.view_is))

pub returns-in-None : goal.returns-in-None
returns-in-None c =
    let rows = c.self.inside.rows.items in
    let j = c.args.number in
    let at = ap (λ (ts : List ℕ). slice_get ts j) (sym c.self.invariant.0.noted.changed) ∙ (ap (λ (ts : List ℕ). slice_get ts j) (sym c.deref.ensures.value) ∙ sym c.in-None.ensures) in
    sym (place_none is_changed rows j at)
    ∙ (ap (λ (ns : List ℕ). slice_get ns j) (sym (places-map view_of has_changed 0 rows)) ∙ ap (λ (b : State). slice_get (changed_places b) j) c.self.view_is)
