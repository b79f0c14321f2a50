use Rattle.std.proofs.Common.{◌++◌, ◌∷◌, [], List, Bool, cond, map, sym, ap, ◌∙◌}
use Rattle.std.proofs.lemmas.List.{append-nil}
use Rattle.cpe_rows.specs.Answers.{row_of}
use Rattle.cpe_rows.specs.declared.entry.Entry.{Entry}
use Rattle.cpe_rows.specs.declared.reply.Row.{Row}
use Rattle.names_in_order.proofs.Rows.{next_there, next_missing}
use Rattle.cpe_dictionary.specs.Listed.{entry_with}
use Rattle.cpe_dictionary.proofs.KeptLemmas.{wanted_rows, wanted_rows-cons}
use Rattle.cpe_dictionary.proofs.search.wanted_at.Goals.{in-Some+then-is_wanted+in_ok-row_of+in_ok-push, in-Some+else-is_wanted, in_default}
use Rattle.cpe_dictionary.proofs.search.wanted_at.Goals as goal

pub loop-place-preserved : goal.loop-place-preserved
loop-place-preserved c =
    let at = c.loop-place in
    let of : Entry → List Row = λ (e : Entry). wanted_rows c.args.active_only (e ∷ []) in
    let next = next_there of (wanted_rows c.args.active_only) (wanted_rows-cons c.args.active_only) c.args.entries.now c.args.places.now at.place-index in
    let with : List Row → List Row = λ (rs : List Row). at.rows ++ rs in
    elim c.match-get_index.branch [
      | in-Some+then-is_wanted+in_ok-row_of+in_ok-push w ↦
          let e : Entry = entry_with (w.in-Some.name.now, w.in-Some.details.now) in
          let one = ap (λ (b : Bool). map row_of (cond b (e ∷ []) [])) (sym w.is_wanted.ensures ∙ w.if-is_wanted.true) in
          next e at.rows _ _ c.loop-place-test.true (sym w.in-Some.ensures.entry) (w.rows-is ∙ w.in_ok-push.ensures.ok ∙ ap (λ (r : Row). with (r ∷ [])) w.in_ok-row_of.ensures ∙ ap with (sym one)) at.invariant
      | in-Some+else-is_wanted w ↦
          let e : Entry = entry_with (w.in-Some.name.now, w.in-Some.details.now) in
          let one = ap (λ (b : Bool). map row_of (cond b (e ∷ []) [])) (sym w.is_wanted.ensures ∙ w.if-is_wanted.false) in
          next e at.rows _ _ c.loop-place-test.true (sym w.in-Some.ensures.entry) (w.rows-is ∙ sym (append-nil at.rows) ∙ ap with (sym one)) at.invariant
      | in_default w ↦
          next_missing of (wanted_rows c.args.active_only) (wanted_rows-cons c.args.active_only) c.args.entries.now c.args.places.now at.place-index at.rows _ _ c.loop-place-test.true (sym w.in_default.ensures.entry) w.rows-is at.invariant
    ]
