use Rattle.std.proofs.Common.{◌+◌, List, length, filter, is_some, not, sym, ap, ◌∙◌, add-zero, arith}
use Rattle.std.proofs.lemmas.List.{drop_all}
use Rattle.cpe_rows.specs.Chains.{is_active}
use Rattle.cpe_rows.specs.declared.entry.Entry.{Entry}
use Rattle.cpe_dictionary.specs.declared.kept.EntryDetails.{EntryDetails}
use Rattle.cpe_dictionary.proofs.EntryLemmas.{count_deprecated}
use Rattle.cpe_dictionary.proofs.entries.Entries.count_deprecated.Goals as goal

pub returns : goal.returns
returns c =
    let items = c.self.inside.details.now in
    let kept = λ (d : EntryDetails). is_some d.deprecation in
    let past = c.loop-details-test.false in
    let none = drop_all c.loop-details.details-index items (omega (arith, past)) in
    sym (add-zero c.loop-details.count)
    ∙ ap (λ (xs : List EntryDetails). c.loop-details.count + length (filter kept xs)) (sym none)
    ∙ c.loop-details.invariant.1
    ∙ count_deprecated c.self.inside.names c.self.inside.details.now c.self.invariant
    ∙ ap (λ (es : List Entry). length (filter (λ e. not (is_active e)) es)) c.self.view_is
