use Rattle.std.proofs.Common.{◌++◌, ◌∷◌, [], List, sym, ap, ◌∙◌}
use Rattle.std.proofs.lemmas.List.{append-nil}
use Rattle.cpe_rows.specs.cpe_name.Eleven.{Values}
use Rattle.cpe_rows.specs.declared.entry.Entry.{Entry}
use Rattle.names_in_order.proofs.Rows.{next_missing, next_there}
use Rattle.cpe_dictionary.specs.Listed.{entry_with}
use Rattle.cpe_dictionary.proofs.AtNumbers.{active_name, active_names, active_names-cons, active_where, of_active, of_inactive}
use Rattle.cpe_dictionary.proofs.at_numbers.active_names_at.Goals.{in-Some+then-is_none+in_ok-copy+in_ok-push, in-Some+else-is_none, in_default}
use Rattle.cpe_dictionary.proofs.at_numbers.active_names_at.Goals as goal

pub loop-number-preserved : goal.loop-number-preserved
loop-number-preserved c =
    let at = c.loop-number in
    let next = next_there active_name active_names active_names-cons c.args.entries.now c.args.numbers.now at.number-index in
    let with : List Values → List Values = λ (ns : List Values). at.names ++ ns in
    elim c.match-get_index.branch [
      | in-Some+then-is_none+in_ok-copy+in_ok-push w ↦
          let e : Entry = entry_with (w.in-Some.name.now, w.in-Some.details.now) in
          let one = of_active e (active_where e.deprecation w.is_none.result w.is_none.ensures ∙ w.if-is_none.true) in
          next e at.names _ _ c.loop-number-test.true (sym w.in-Some.ensures.entry) (w.names-is ∙ w.in_ok-push.ensures.ok ∙ ap (λ (n : Values). with (n ∷ [])) w.in_ok-copy.ensures ∙ ap with (sym one)) at.invariant
      | in-Some+else-is_none w ↦
          let e : Entry = entry_with (w.in-Some.name.now, w.in-Some.details.now) in
          let one = of_inactive e (active_where e.deprecation w.is_none.result w.is_none.ensures ∙ w.if-is_none.false) in
          next e at.names _ _ c.loop-number-test.true (sym w.in-Some.ensures.entry) (w.names-is ∙ sym (append-nil at.names) ∙ ap with (sym one)) at.invariant
      | in_default w ↦
          next_missing active_name active_names active_names-cons c.args.entries.now c.args.numbers.now at.number-index at.names _ _ c.loop-number-test.true (sym w.in_default.ensures.entry) w.names-is at.invariant
    ]
