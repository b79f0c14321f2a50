use Rattle.std.proofs.Common.{Bool, [], ◌∷◌, ◌++◌, ap, cond, filter, get_or, sym, take, ◌∙◌}
use Rattle.std.proofs.lemmas.List.{append-nil}
use Rattle.std.proofs.lemmas.List.Elements.{filter_more}
use Rattle.name_index.specs.declared.table.NameId.{NameId}
use Rattle.name_index.specs.Index.{name_id}
use Rattle.facts.specs.Facts.{is_used}
use Rattle.verdicts.proofs.ends.facts_among.Goals.{then-has_users+in_ok-push, else-has_users}
use Rattle.verdicts.proofs.ends.facts_among.Goals as goal

pub loop-name-preserved : goal.loop-name-preserved
loop-name-preserved c =
    let names = c.args.names.now in
    let i = c.loop-name.name-index in
    let x : NameId = get_or names i (name_id 0) in
    let used : NameId → Bool = λ y. is_used c.args.facts.now.follow y.0 in
    let before = filter used (take i names) in
    let next = filter_more used names i (name_id 0) c.loop-name-test.true in
    elim c.if-has_users.branch [
      | then-has_users+in_ok-push w ↦
          ap (λ v. v.items) w.found-is ∙ w.in_ok-push.ensures.items ∙ ap (λ ns. ns ++ x ∷ []) c.loop-name.invariant
          ∙ sym (next ∙ ap (λ (b : Bool). before ++ cond b (x ∷ []) []) (sym c.has_users.ensures ∙ w.if-has_users.true))
      | else-has_users w ↦
          ap (λ v. v.items) w.found-is ∙ c.loop-name.invariant ∙ sym (append-nil before)
          ∙ sym (next ∙ ap (λ (b : Bool). before ++ cond b (x ∷ []) []) (sym c.has_users.ensures ∙ w.if-has_users.false))
    ]
