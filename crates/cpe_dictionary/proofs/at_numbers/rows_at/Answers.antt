use Rattle.std.proofs.Common.{◌++◌, ◌∷◌, [], map, refl, sym, ap, ◌∙◌}
use Rattle.cpe_rows.specs.Answers.{row_of}
use Rattle.cpe_rows.specs.declared.entry.Entry.{Entry}
use Rattle.cpe_rows.specs.declared.reply.Row.{Row}
use Rattle.names_in_order.proofs.Rows.{next_missing, next_there}
use Rattle.cpe_dictionary.specs.Listed.{entry_with}
use Rattle.cpe_dictionary.proofs.at_numbers.rows_at.Goals.{in-Some+in_ok-row_of+in_ok-push, in_default}
use Rattle.cpe_dictionary.proofs.at_numbers.rows_at.Goals as goal

pub loop-number-preserved : goal.loop-number-preserved
loop-number-preserved c =
    let at = c.loop-number in
    elim c.match-get_index.branch [
      | in-Some+in_ok-row_of+in_ok-push w ↦
          next_there (λ (x : Entry). row_of x ∷ []) (map row_of) (λ x xs. refl) c.args.entries.now c.args.numbers.now at.number-index (entry_with (w.in-Some.name.now, w.in-Some.details.now)) at.rows _ _
          c.loop-number-test.true (sym w.in-Some.ensures.entry) (w.rows-is ∙ w.in_ok-push.ensures.ok ∙ ap (λ (r : Row). at.rows ++ r ∷ []) w.in_ok-row_of.ensures) at.invariant
      | in_default w ↦
          next_missing (λ (x : Entry). row_of x ∷ []) (map row_of) (λ x xs. refl) c.args.entries.now c.args.numbers.now at.number-index at.rows _ _ c.loop-number-test.true (sym w.in_default.ensures.entry) w.rows-is at.invariant
    ]
