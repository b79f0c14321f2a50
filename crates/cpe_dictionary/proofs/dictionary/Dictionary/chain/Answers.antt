use Rattle.std.proofs.Common.{map, sym, ap, ◌∙◌}
use Rattle.std.proofs.lemmas.Result.{IfOk-weaker}
use Rattle.cpe_rows.specs.Answers.{row_of}
use Rattle.cpe_dictionary.proofs.DictionaryLemmas.{no_entry}
use Rattle.cpe_dictionary.proofs.dictionary.Dictionary.chain.Goals as goal

pub returns-in-None-clause-links : goal.returns-in-None-clause-links
returns-in-None-clause-links c =
    let es = c.args.self.now in
    let n = c.args.name.now in
    let alone = c.absent_names_are_alone.ensures.chains es n (no_entry es n (sym c.in-None.ensures)) in
    IfOk-weaker c.chain_of_none.result _ _ (λ r e. e ∙ sym (ap (map row_of) alone)) c.chain_of_none.ensures.links

pub returns-in-None-clause-ends : goal.returns-in-None-clause-ends
returns-in-None-clause-ends c =
    let es = c.args.self.now in
    let n = c.args.name.now in
    let alone = c.absent_names_are_alone.ensures.ends es n (no_entry es n (sym c.in-None.ensures)) in
    IfOk-weaker c.chain_of_none.result _ _ (λ r e. e ∙ sym alone) c.chain_of_none.ensures.ends
