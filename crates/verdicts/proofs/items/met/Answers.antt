use Rattle.std.proofs.Common.{count_by, filter, sym, ap, subst, ◌∙◌}
use Rattle.std.specs.Prelude.{IfOk}
use Rattle.name_index.specs.step_count.Within.{StepsWithin}
use Rattle.name_index.specs.Elements.{SameElements}
use Rattle.name_index.specs.Index.{ids, is_covered}
use Rattle.facts.specs.level_board.declared.meeting.Met.{Met}
use Rattle.facts.specs.level_board.Targets.{FitsTargets, held, is_maybe_target, is_met, Targets}
use Rattle.facts.specs.level_board.Board.{Board}
use Rattle.verdicts.proofs.items.met.Goals as goal

pub met-requires-clause-fits : goal.met-requires-clause-fits
met-requires-clause-fits g c = subst (λ (ts : Targets). FitsTargets ts c.args.table.now) (sym (c.targets.ensures ∙ ap (λ (b : Board). b.target_index) c.board.ensures)) c.requires.fits.targets

pub returns-clause-covered : goal.returns-clause-covered
returns-clause-covered g c =
    subst (λ (ts : Targets). IfOk c.met.result (λ (m : Met). SameElements (filter (is_covered c.args.table.now c.args.name.now) (ids (held ts))) m.covered.items))
    (c.targets.ensures ∙ ap (λ (b : Board). b.target_index) c.board.ensures) c.met.ensures.covered

pub returns-clause-maybe : goal.returns-clause-maybe
returns-clause-maybe g c =
    subst (λ (ts : Targets). IfOk c.met.result (λ (m : Met). SameElements (filter (is_maybe_target c.args.table.now c.args.name.now) (ids (held ts))) m.maybe.items))
    (c.targets.ensures ∙ ap (λ (b : Board). b.target_index) c.board.ensures) c.met.ensures.maybe

pub returns-clause-steps : goal.returns-clause-steps
returns-clause-steps g c =
    subst (λ (ts : Targets). StepsWithin c.args.steps.now c.met.new.steps (count_by (is_met c.args.table.now c.args.name.now.product) (ids (held ts))))
    (c.targets.ensures ∙ ap (λ (b : Board). b.target_index) c.board.ensures) c.met.ensures.steps
