use Rattle.std.proofs.Common.{map, subst, ◌∙◌}
use Rattle.cpe_rows.specs.Answers.{row_of}
use Rattle.cpe_dictionary.specs.Faults.{AreDifferent}
use Rattle.cpe_dictionary.proofs.AtNumbers.{active_names}
use Rattle.cpe_dictionary.proofs.DictionaryLemmas.{at_chain, links_at, ends_at}
use Rattle.cpe_dictionary.proofs.dictionary.Dictionary.chain_at.Goals as goal

pub returns-clause-links : goal.returns-clause-links
returns-clause-links c =
    c.in_ok-rows_at.ensures
    ∙ at_chain (map row_of) _ _ _ _ c.args.number (c.deref.ensures.value ∙ c.in-Ok.ensures) c.self.invariant.numbered c.self.view_is
    ∙ links_at c.args.self.now c.args.name.now c.args.number c.requires (subst AreDifferent c.self.view_is c.self.invariant.lawful.names_differ) c.answers_by_number.ensures.chains

pub returns-clause-ends : goal.returns-clause-ends
returns-clause-ends c =
    c.in_ok-active_names_at.ensures
    ∙ at_chain active_names _ _ _ _ c.args.number (c.deref-2.ensures.value ∙ c.in-Ok.ensures) c.self.invariant.numbered c.self.view_is
    ∙ ends_at c.args.self.now c.args.name.now c.args.number c.requires (subst AreDifferent c.self.view_is c.self.invariant.lawful.names_differ) c.answers_by_number.ensures.ends
