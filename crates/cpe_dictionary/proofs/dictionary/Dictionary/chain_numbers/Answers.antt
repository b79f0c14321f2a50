use Rattle.std.proofs.Common.{List, refl, sym, ap, subst, ◌∙◌}
use Rattle.cpe_rows.specs.declared.entry.Entry.{Entry}
use Rattle.cpe_dictionary.specs.Faults.{AreDifferent}
use Rattle.cpe_dictionary.specs.Numbers.{entries_at, nodes_of_entries}
use Rattle.cpe_dictionary.proofs.DictionaryLemmas.{at_chain, entries_at_chain, no_entry}
use Rattle.cpe_dictionary.proofs.dictionary.Dictionary.chain_numbers.Goals as goal

pub returns-in-Ok : goal.returns-in-Ok
returns-in-Ok c =
    let es = c.args.self.now in
    let k = c.in-Some.number in
    at_chain (λ (xs : List Entry). xs) es es _ _ k c.in-Ok.ensures (c.self.invariant.numbered ∙ ap nodes_of_entries c.self.view_is) refl
    ∙ entries_at_chain es c.args.name.now k (sym c.in-Some.ensures) (subst AreDifferent c.self.view_is c.self.invariant.lawful.names_differ) c.answers_by_number.ensures.chains

pub returns-in-None : goal.returns-in-None
returns-in-None c =
    let es = c.args.self.now in
    let n = c.args.name.now in
    ap (entries_at es) c.new.ensures.items ∙ sym (c.absent_names_are_alone.ensures.chains es n (no_entry es n (sym c.in-None.ensures)))
