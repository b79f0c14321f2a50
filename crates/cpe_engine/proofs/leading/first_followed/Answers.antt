use Rattle.std.proofs.Common.{◌≡◌, ◌<◌, ◌≤◌, List, ℕ, length, map, ap, sym, subst, ◌∙◌}
use Rattle.std.specs.Borrow.{Bor}
use Rattle.std.specs.List.{list_any}
use Rattle.cpe_rows.specs.cpe_name.Eleven.{Values}
use Rattle.cpe_rows.specs.Chains.{ends}
use Rattle.cpe_rows.specs.Verdict.{is_followed}
use Rattle.certificate_search.specs.certificate_check.Relates.{related}
use Rattle.cpe_engine.proofs.SlotLemmas.{left_here, left_next, left_over, left_none}
use Rattle.cpe_engine.proofs.leading.first_followed.Goals as goal
use Rattle.cpe_engine.proofs.leading.first_followed.Goals.{in-Some+in_ok-is_met+else-branch, in_default}

pub returns-then-branch : goal.returns-then-branch
returns-then-branch c =
    let es = c.args.registry.now.entries in
    let i : ℕ = c.loop-slot.slot in
    let item = c.in-Some.item.now in
    let less : i < length c.args.slots.now = subst (λ (m : ℕ). i < m) c.len-slot-end.ensures c.loop-slot-test.true in
    let are : map (λ (n : Bor Values). n.now) c.deref.result.now ≡ ends es c.args.name.now
    = ap (map (λ (n : Bor Values). n.now)) c.deref.ensures.value ∙ c.in_ok-fact_ends.ensures in
    let met = c.in_ok-is_met.ensures ∙ ap (λ (fs : List Values). list_any (λ f. list_any (related c.args.relates f) (ends es item)) fs) are in
    sym (left_here (is_followed (related c.args.relates) es c.args.name.now) c.args.slots.now i item c.loop-slot.invariant less (sym c.in-Some.ensures)
    (sym met ∙ c.if-branch.true))

pub loop-slot-preserved : goal.loop-slot-preserved
loop-slot-preserved c =
    let es = c.args.registry.now.entries in
    let i : ℕ = c.loop-slot.slot in
    let less : i < length c.args.slots.now = subst (λ (m : ℕ). i < m) c.len-slot-end.ensures c.loop-slot-test.true in
    elim c.match-at.branch [
      | in-Some+in_ok-is_met+else-branch w ↦
          let item = w.in-Some.item.now in
          let are : map (λ (n : Bor Values). n.now) w.deref.result.now ≡ ends es c.args.name.now
          = ap (map (λ (n : Bor Values). n.now)) w.deref.ensures.value ∙ c.in_ok-fact_ends.ensures in
          let met = w.in_ok-is_met.ensures ∙ ap (λ (fs : List Values). list_any (λ f. list_any (related c.args.relates f) (ends es item)) fs) are in
          left_next (is_followed (related c.args.relates) es c.args.name.now) c.args.slots.now i item c.loop-slot.invariant less (sym w.in-Some.ensures)
          (sym met ∙ w.if-branch.false)
      | in_default w ↦ left_over (is_followed (related c.args.relates) es c.args.name.now) c.args.slots.now i c.loop-slot.invariant less (sym w.in_default.ensures)
    ]

pub returns : goal.returns
returns c =
    let i : ℕ = c.loop-slot.slot in
    sym (left_none (is_followed (related c.args.relates) c.args.registry.now.entries c.args.name.now) c.args.slots.now i c.loop-slot.invariant (subst (λ (m : ℕ). m
    ≤ i) c.len-slot-end.ensures c.loop-slot-test.false))
