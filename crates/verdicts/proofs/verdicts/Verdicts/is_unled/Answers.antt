use Rattle.std.proofs.Common.{◌≡◌, ◌||◌, Bool, true, false, List, Some, refl, ap, subst, sym, ◌∙◌}
use Rattle.std.specs.Prelude.{nat_lt, not, option_and_then, position, slice_get}
use Rattle.std.specs.Bool.{OnTrue}
use Rattle.std.specs.Option.{option_copied}
use Rattle.cpe_rows.specs.Rows.{is_named}
use Rattle.cpe_rows.specs.declared.entry.Entry.{Entry}
use Rattle.facts.specs.level_board.Board.{probe_times, target_times}
use Rattle.name_registry.specs.Registered.{name_in}
use Rattle.fact_boards.specs.Kept.{Boards}
use Rattle.verdicts.specs.Verdicts.{HasVerdicts, VerdictsNow}
use Rattle.verdicts.proofs.UnledLemmas.{active_at, off_boards}
use Rattle.verdicts.proofs.verdicts.Verdicts.is_unled.Goals as goal

on_not : {P : Type 0} (b : Bool) → (b ≡ false → P) → OnTrue (not b) P
on_not true h = tt
on_not false h = h refl

pub returns-in-None : goal.returns-in-None
returns-in-None c rows are =
    let table = c.args.registry.now.table in
    let n = name_in table c.args.id in
    let v : VerdictsNow = record { facts = c.self.inside.facts; statements = c.self.inside.statements } in
    let h = subst (λ (w : VerdictsNow). HasVerdicts table w rows) (sym c.self.view_is) are.verdicts in
    let at = subst (λ (es : List Entry). position (is_named n) es ≡ Some c.args.number) (sym are.entries) c.requires.number in
    let none = ap (λ (es : List Entry). option_and_then (λ (e : Entry). e.deprecation) (slice_get es c.args.number)) (are.entries ∙ sym c.dictionary.ensures) ∙ sym c.deprecation_at.ensures ∙ ap option_copied c.in-None.is in
    on_not c.has.result
    (λ off. off_boards table v.facts.boards rows c.args.id.0 c.requires.live h.facts.follow.shows (active_at n rows.entries c.args.number are.lawful.dictionary.names_differ at none) (ap (λ (b : Boards). nat_lt 0 (probe_times b.follow c.args.id.0) || nat_lt 0 (target_times b.follow c.args.id.0)) (sym c.boards.ensures) ∙ sym c.has.ensures ∙ off))
