use Rattle.std.proofs.Common.{take_all, subst, ap, sym, ◌∙◌, All}
use Rattle.std.specs.List.{flat_map}
use Rattle.std.proofs.lemmas.List.Elements.{All-append}
use Rattle.cpe_rows.specs.cpe_name.Names.{IsName}
use Rattle.certificate_records.specs.Whole.{why_names}
use Rattle.cpe_rows.proofs.Lists.{all_with_next}
use Rattle.certificate_records.proofs.Names.{names_at, names-logic, names-pair}
use Rattle.certificate_records.proofs.formed.+formed.Goals as goal

pub loop-given-preserved : goal.loop-given-preserved
loop-given-preserved t c =
    all_with_next IsName names_at c.as_slice-given-items.result.now c.loop-given.given-index c.given-item.result c.loop-given-test.true c.loop-given.invariant
    (subst (λ o. All IsName (names_at o)) c.given-item.is (subst (λ o. All IsName (names_at o)) (sym c.in-Some.is) c.formed.ensures))

pub returns-after-loop-given : goal.returns-after-loop-given
returns-after-loop-given t c =
    let of = c.as_slice-given-items.result.now in
    let all = subst (λ xs. All IsName (flat_map names_at xs)) (take_all c.loop-given.given-index of c.loop-given-test.false) c.loop-given.invariant in
    let same = ap why_names c.in-Logic.is ∙ (names-logic c.in-Logic.truth c.in-Logic.of ∙ ap (flat_map names_at) (sym c.as_slice-given-items.ensures)) in
    subst (λ ns. All IsName ns) (sym same) all

pub returns-in-Pair : goal.returns-in-Pair
returns-in-Pair t c =
    subst (λ ns. All IsName ns) (sym (ap why_names c.in-Pair.is ∙ names-pair c.in-Pair.truth c.in-Pair.fact c.in-Pair.item))
    (All-append IsName c.in-Pair.fact c.in-Pair.item
    (subst (λ ns. All IsName ns) c.as_slice.ensures c.are_names.ensures) (subst (λ ns. All IsName ns) c.as_slice-in-Pair.ensures c.are_names-in-Pair.ensures))
