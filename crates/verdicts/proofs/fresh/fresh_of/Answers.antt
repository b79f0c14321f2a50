use Rattle.std.proofs.Common.{ap, subst, sym, ◌∙◌}
use Rattle.std.specs.Prelude.{not}
use Rattle.name_index.specs.declared.table.NameId.{NameId}
use Rattle.facts.specs.fact_laws.Shown.{one_if_some, times_in_list}
use Rattle.fact_boards.specs.Kept.{AreFactNames}
use Rattle.facts.specs.Facts.{is_used, table_of}
use Rattle.verdicts.proofs.NumberLemmas.{live_filtered}
use Rattle.verdicts.proofs.fresh.fresh_of.Goals as goal

pub returns-clause-fresh : goal.returns-clause-fresh
returns-clause-fresh c q = c.keep_each_once.ensures.once q ∙ ap (λ xs. one_if_some (times_in_list q xs)) c.in_ok-fresh.ensures

pub returns-clause-live : goal.returns-clause-live
returns-clause-live c names live =
    c.keep_each_once.ensures.live names
    (subst (AreFactNames names) (sym c.in_ok-fresh.ensures) (live_filtered names (λ (x : NameId). not (is_used (table_of c.args.facts.now c.args.mode) x.0)) c.args.ids.now live))
