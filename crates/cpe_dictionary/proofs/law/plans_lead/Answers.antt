use Rattle.cpe_dictionary.proofs.LeftLemmas.{leads}
use Rattle.cpe_dictionary.proofs.law.plans_lead.Goals as goal

pub returns : goal.returns
returns c = leads c.changes_by_number.ensures.changes c.edits_are_changes.ensures.different c.chains_by_number.ensures.ends c.entries_are_numbered.ensures.numbered c.entries_are_numbered.ensures.marked
