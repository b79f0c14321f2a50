use Rattle.std.proofs.Common.{ℕ, List, ap, subst, sym, ◌∙◌}
use Rattle.std.specs.Prelude.{◌↔◌, IsTrue}
use Rattle.std.specs.List.{Contains}
use Rattle.cpe_rows.specs.cpe_name.Eleven.{Values}
use Rattle.cpe_rows.specs.Chains.{leads_to}
use Rattle.cpe_rows.specs.declared.entry.Entry.{Entry}
use Rattle.cpe_dictionary.proofs.DictionaryLemmas.{no_entry}
use Rattle.cpe_dictionary.proofs.SourceLemmas.{leads_exactly, leads_nowhere}
use Rattle.cpe_dictionary.proofs.sources.Sources.has.Goals as goal

pub returns-in-Some : goal.returns-in-Some
returns-in-Some c =
    let es = c.self.inside.dictionary in
    let n = c.args.name.now in
    let to = c.self.inside.entry.now in
    let among = subst (λ (ks : List ℕ). IsTrue c.has_number.result ↔ Contains ks c.in-Some.number) c.deref.ensures.value c.has_number.ensures in
    leads_exactly es n to c.in-Some.number c.self.inside.numbers.items c.has_number.result (sym c.in-Some.ensures) c.self.invariant among
    ∙ ap (λ (s : List Entry × Values). leads_to s.0 n s.1) c.self.view_is

pub returns-in-None : goal.returns-in-None
returns-in-None c =
    let es = c.self.inside.dictionary in
    let n = c.args.name.now in
    let to = c.self.inside.entry.now in
    sym (leads_nowhere es n to (c.absent_names_are_alone.ensures.chains es n (no_entry es n (sym c.in-None.ensures))))
    ∙ ap (λ (s : List Entry × Values). leads_to s.0 n s.1) c.self.view_is
