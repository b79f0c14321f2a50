use Rattle.std.proofs.Common.{◌≡◌, ◌<◌, ◌≤◌, ℕ, List, sym, ap, ◌∙◌, inl, inr, arith}
use Rattle.std.proofs.lemmas.Bool.{cases_Bool, cases_eq}
use Rattle.fact_boards.specs.level_board.declared.level.Level.TheVariants.{Covered, Free}
use Rattle.fact_boards.specs.level_board.Board.{Board, is_probe_marked, probe_times, target_times, find_times, or_none}
use Rattle.library_tests.proofs.Levels.{is_covered, is_free}
use Rattle.library_tests.proofs.boards.pairs.drop_two_targets.Goals as goal

same_times : (a b : Board) → b.targets ≡ a.targets → (t : ℕ) → target_times b t ≡ target_times a t
same_times a b e t = ap (λ (ts : List (ℕ × ℕ)). or_none (find_times ts t)) e

pub returns-clause-one_left : goal.returns-clause-one_left
returns-clause-one_left g c =
    let t = c.args.second.0 in
    let more : 0 < target_times c.drop_target.new.self t = omega (arith, c.drop_target.ensures.changes.others t c.requires.apart, same_times c.add_target-2.new.self c.add_probe.new.self c.add_probe.ensures.changes.targets t, c.add_target-2.ensures.changes.times_now) in
    let p = c.args.probe.0 in
    let asked : 1 ≤ probe_times c.drop_target.new.self p = omega (arith, c.drop_target.ensures.changes.probes p, c.add_probe.ensures.changes.times_now, c.add_target-2.ensures.changes.probes p, c.add_target.ensures.changes.probes p, c.requires.no_probes p) in
    is_covered c.drop_target.new.self c.args.table.now p c.level-one_left.result (c.level-one_left.ensures.probe asked c.args.table.now c.drop_target.ensures.changes.fits) (t, more, c.requires.covers_second)

pub returns-clause-none_left : goal.returns-clause-none_left
returns-clause-none_left g c =
    let p = c.args.probe.0 in
    let asked : 1 ≤ probe_times c.drop_target-2.new.self p = omega (arith, c.drop_target-2.ensures.changes.probes p, c.drop_target.ensures.changes.probes p, c.add_probe.ensures.changes.times_now, c.add_target-2.ensures.changes.probes p, c.add_target.ensures.changes.probes p, c.requires.no_probes p) in
    is_free c.drop_target-2.new.self c.args.table.now p c.level.result (c.level.ensures.probe asked c.args.table.now c.drop_target-2.ensures.changes.fits) (λ h. none h.0 h.1) (λ h. none h.0 h.1)
  where
    none : (t : ℕ) → 0 < target_times c.drop_target-2.new.self t → ⊥
    none t more = elim (cases_eq t c.args.second.0) [
      | inl e ↦ omega (
        arith,
        more,
        ap (target_times c.drop_target-2.new.self) e,
        c.drop_target-2.ensures.changes.times_now,
        c.drop_target.ensures.changes.others c.args.second.0 c.requires.apart,
        same_times c.add_target-2.new.self c.add_probe.new.self c.add_probe.ensures.changes.targets c.args.second.0,
        c.add_target-2.ensures.changes.times_now,
        c.add_target.ensures.changes.others c.args.second.0 c.requires.apart,
        c.requires.no_targets c.args.second.0,
      )
      | inr ne ↦ elim (cases_eq t c.args.first.0) [
        | inl e ↦ omega (
          arith,
          more,
          c.drop_target-2.ensures.changes.others t ne,
          ap (target_times c.drop_target.new.self) e,
          c.drop_target.ensures.changes.times_now,
          same_times c.add_target-2.new.self c.add_probe.new.self c.add_probe.ensures.changes.targets c.args.first.0,
          c.add_target-2.ensures.changes.others c.args.first.0 (λ z. c.requires.apart (sym z)),
          c.add_target.ensures.changes.times_now,
          c.requires.no_targets c.args.first.0,
        )
        | inr no_ ↦ omega (
          arith,
          more,
          c.drop_target-2.ensures.changes.others t ne,
          c.drop_target.ensures.changes.others t no_,
          same_times c.add_target-2.new.self c.add_probe.new.self c.add_probe.ensures.changes.targets t,
          c.add_target-2.ensures.changes.others t ne,
          c.add_target.ensures.changes.others t no_,
          c.requires.no_targets t,
        )
      ]
    ]

pub drop_target-requires-clause-marked : goal.drop_target-requires-clause-marked
drop_target-requires-clause-marked g c = c.add_probe.ensures.marked c.add_target-2.ensures.changes.marked

pub returns-clause-marked : goal.returns-clause-marked
returns-clause-marked g c =
    let p = c.args.probe.0 in
    let last = c.drop_target-2.new.self in
    let one : 0 < probe_times c.drop_target.new.self p = omega (arith, c.drop_target.ensures.changes.probes p, c.add_probe.ensures.changes.times_now) in
    let still : 0 < probe_times last p = omega (arith, one, c.drop_target-2.ensures.changes.probes p) in
    elim (cases_Bool (is_probe_marked last p)) [
      | inl on ↦ on
      | inr off ↦ absurd (let same : Free ≡ Covered = sym (returns-clause-none_left g c) ∙ c.level.ensures.value ∙ c.drop_target-2.ensures.changes.levels.levels p one still off ∙ sym c.level-one_left.ensures.value ∙ returns-clause-one_left g c in cc)
    ]
