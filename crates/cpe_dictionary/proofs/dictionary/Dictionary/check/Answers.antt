use Rattle.std.proofs.Common.{◌<◌, List, length, subst, Err}
use Rattle.std.specs.Option.{option_copied}
use Rattle.cpe_rows.specs.declared.entry.Entry.{Entry}
use Rattle.deprecation_graph.specs.Faults.{change_fault, IsVerdict}
use Rattle.cpe_dictionary.proofs.DictionaryLemmas.{wide_within}
use Rattle.cpe_dictionary.proofs.dictionary.Dictionary.check.Goals as goal

pub too_wide-requires : goal.too_wide-requires
too_wide-requires c =
    let nodes = c.self.inside.graph.now.nodes in
    let k = c.args.number in
    let next = option_copied c.args.next in
    let fault = subst (λ f. IsVerdict (Err f) (change_fault nodes k next)) c.in-Err-TooWide.field-0-is c.in-Err-TooWide.ensures in
    let within = wide_within c.self.inside.entries nodes k c.in-Err-TooWide.wide next c.self.invariant.numbered fault in
    subst (λ (es : List Entry). c.in-Err-TooWide.wide < length es) c.self.view_is within
