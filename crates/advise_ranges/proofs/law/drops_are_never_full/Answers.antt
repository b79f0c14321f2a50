use Rattle.advise_ranges.proofs.LimitLemmas.{drop_item_not_full, drop_not_full}
use Rattle.advise_ranges.proofs.law.drops_are_never_full.Goals as goal

pub returns-clause-items : goal.returns-clause-items
returns-clause-items c = drop_item_not_full

pub returns-clause-advisories : goal.returns-clause-advisories
returns-clause-advisories c = drop_not_full
