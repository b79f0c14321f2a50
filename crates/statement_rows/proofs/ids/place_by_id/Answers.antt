use Rattle.std.proofs.Common.{ap, sym, ◌∙◌}
use Rattle.check_results.specs.Results.{one_or_none}
use Rattle.statement_rows.specs.Rows.{has_row_id}
use Rattle.statement_rows.proofs.ReadLemmas.{first_is, first_none}
use Rattle.statement_rows.proofs.ids.place_by_id.Goals as goal

pub returns-in-Some : goal.returns-in-Some
returns-in-Some c =
    let rows = c.args.rows.now.items in
    let at = sym c.requires.ids ∙ sym (ap one_or_none c.in-Some.ensures.value) in
    c.place_of.ensures ∙ first_is (has_row_id c.args.id.now) c.in-Some.ticket.now rows c.requires.rising at

pub returns-in-None : goal.returns-in-None
returns-in-None c =
    sym (first_none (has_row_id c.args.id.now) c.args.rows.now.items (sym c.requires.ids ∙ sym (ap one_or_none c.in-None.ensures.value)))
