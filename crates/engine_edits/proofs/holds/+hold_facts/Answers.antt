use Rattle.std.proofs.Common.{rules, true, ◌≡◌, ◌++◌, ◌+◌, ◌<◌, List, length, drop, take, sym, ap, subst, ◌∙◌, arith, take_all, append_assoc}
use Rattle.std.specs.List.{flat_map}
use Rattle.cpe_rows.specs.cpe_name.Eleven.{Values}
use Rattle.cpe_rows.specs.FactNames.{fact_names}
use Rattle.cpe_rows.specs.Shape.{depth_of, is_sound}
use Rattle.cpe_rows.specs.declared.test.Test.{Logic}
use Rattle.cpe_rows.proofs.TestNames.{names-logic}
use Rattle.fact_laws.specs.Shown.{names_at}
use Rattle.engine_edits.specs.Holding.{AreFewNames}
use Rattle.engine_edits.proofs.HoldLemmas.{depth_falls, few_less, grows_both, rest_length, sound_child, taken_next}
use Rattle.engine_edits.proofs.holds.+hold_facts.Goals as goal

pub hold_facts-requires : goal.hold_facts-requires
hold_facts-requires t c =
    let of = c.as_slice-child-items.result.now in
    let i = c.loop-child.child-index in
    let child = c.child-item.result in
    let lt = c.loop-child-test.true in
    let inv = c.loop-child.invariant in
    let old = c.args.registry.now.table in
    let now = c.loop-child.registry.table in
    let names = ap fact_names c.in-Logic.is ∙ names-logic c.in-Logic.operator c.in-Logic.negate c.in-Logic.of ∙ ap (flat_map fact_names) (sym c.as_slice-child-items.ensures) in
    let rest = rest_length of i child lt c.child-item.is in
    let all : AreFewNames old (length (flat_map fact_names of) + 0) = few_less old (length (flat_map fact_names of) + 0) (length (fact_names c.args.test.now)) (omega (arith, ap length names)) c.requires.few in
    let few = few_less now (length (fact_names child)) (length (flat_map fact_names (drop i of)) + 0) (omega (arith, rest)) (inv.few 0 all) in
    let sound = subst (λ x. is_sound x ≡ true) (sym c.child-item.is)
    (sound_child c.in-Logic.operator c.in-Logic.negate of i child (ap (λ xs. is_sound (Logic c.in-Logic.operator c.in-Logic.negate xs)) c.as_slice-child-items.ensures ∙ sym (ap is_sound c.in-Logic.is) ∙ c.requires.sound) lt) in
    let live = inv.grows.live in
    let test = ap (λ xs. Logic c.in-Logic.operator c.in-Logic.negate xs) c.as_slice-child-items.ensures ∙ sym c.in-Logic.is in
    let falls : depth_of child < depth_of c.args.test.now =
    omega (arith, ap depth_of c.child-item.is, depth_falls c.in-Logic.operator c.in-Logic.negate of i child lt, ap depth_of test) in
    search (rules, falls, live, sound, few)

pub loop-child-preserved : goal.loop-child-preserved
loop-child-preserved t c =
    let of = c.as_slice-child-items.result.now in
    let i = c.loop-child.child-index in
    let child = c.child-item.result in
    let lt = c.loop-child-test.true in
    let inv = c.loop-child.invariant in
    let e = c.in_ok-hold_facts-in-Logic.ensures in
    let old = c.args.registry.now in
    let now = c.loop-child.registry in
    let prefix = names_at old.table c.args.ids.now.items in
    let taken = taken_next of i child lt c.child-item.is in
    let rest = rest_length of i child lt c.child-item.is in
    record {
      grows = grows_both old now c.hold_facts.new.registry c.args.ids.now.items c.loop-child.ids.items c.hold_facts.new.ids.items inv.grows e.grows;
      names = e.names ∙ ap (λ (ns : List Values). ns ++ fact_names child) inv.names ∙ append_assoc prefix (flat_map fact_names (take i of)) (fact_names child) ∙ ap (λ (ns : List Values). prefix ++ ns) (sym taken);
      few = λ n f. e.few (length (flat_map fact_names (drop (i + 1) of)) + n)
          (few_less now.table (length (fact_names child) + (length (flat_map fact_names (drop (i + 1) of)) + n)) (length (flat_map fact_names (drop i of)) + n) (omega (arith, rest)) (inv.few n f));
    }

pub returns-after-loop-child-clause-names : goal.returns-after-loop-child-clause-names
returns-after-loop-child-clause-names t c =
    let of = c.as_slice-child-items.result.now in
    let prefix = names_at c.args.registry.now.table c.args.ids.now.items in
    let names = ap fact_names c.in-Logic.is ∙ names-logic c.in-Logic.operator c.in-Logic.negate c.in-Logic.of ∙ ap (flat_map fact_names) (sym c.as_slice-child-items.ensures) in
    c.loop-child.invariant.names ∙ ap (λ (ns : List Values). prefix ++ ns) (ap (flat_map fact_names) (take_all c.loop-child.child-index of c.loop-child-test.false) ∙ sym names)

pub returns-after-loop-child-clause-few : goal.returns-after-loop-child-clause-few
returns-after-loop-child-clause-few t c =
    let of = c.as_slice-child-items.result.now in
    let i = c.loop-child.child-index in
    let old = c.args.registry.now.table in
    let now = c.loop-child.registry.table in
    let names = ap fact_names c.in-Logic.is ∙ names-logic c.in-Logic.operator c.in-Logic.negate c.in-Logic.of ∙ ap (flat_map fact_names) (sym c.as_slice-child-items.ensures) in
    λ n f. few_less now n (length (flat_map fact_names (drop i of)) + n) (omega arith) (c.loop-child.invariant.few n (subst (λ (ns : List Values). AreFewNames old (length ns + n)) names f))

pub returns-in_err-hold_facts-in-Logic-clause-grows : goal.returns-in_err-hold_facts-in-Logic-clause-grows
returns-in_err-hold_facts-in-Logic-clause-grows t c =
    grows_both c.args.registry.now c.loop-child.registry c.hold_facts.new.registry c.args.ids.now.items c.loop-child.ids.items c.hold_facts.new.ids.items c.loop-child.invariant.grows c.in_err-hold_facts-in-Logic.ensures.grows
