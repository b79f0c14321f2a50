use Rattle.std.proofs.Common.{refl, ap}
use Rattle.cpe_rows.specs.Rows.{Rows}
use Rattle.cpe_rows.specs.declared.edit.Edit.TheVariants as edit
use Rattle.verdicts.proofs.EntryLemmas.{entry_verdicts}
use Rattle.verdicts.proofs.law.new_entries_change_no_verdict.Goals as goal

pub returns : goal.returns
returns c names v rows next e h k =
    let left = c.untouched_verdicts_stay.ensures.left rows next (edit.Entry e) h in
    entry_verdicts names v rows next k (ap (λ (r : Rows). r.statements) left) (ap (λ (r : Rows). r.checks) left) (λ n. c.entries_are_independent.ensures.ends rows next e n h)
    (λ mode n. c.untouched_verdicts_stay.ensures.facts rows next (edit.Entry e) mode n h refl)
    (c.boards_stay.ensures.entries names v.facts.boards rows next e h (record { plain = k.facts.plain.shows; follow = k.facts.follow.shows }))
