use Rattle.std.proofs.Common.{ℕ, Bool, List, ap, ◌∙◌, arith}
use Rattle.std.specs.List.{flat_map}
use Rattle.name_index.specs.declared.table.NameId.{NameId}
use Rattle.facts.specs.fact_laws.Shown.{times_in_list}
use Rattle.facts.specs.fact_rows.Facts.{has_end_of_fact, leads_of, users_of}
use Rattle.facts.specs.ticket_list.Tickets.{is_empty, without}
use Rattle.facts.specs.Facts.{table_of}
use Rattle.verdicts.proofs.LastLemmas.{filtered_ends, one_at_most, same_ends}
use Rattle.verdicts.proofs.removal.removal_of.Goals as goal

pub returns : goal.returns
returns c =
    let t = table_of c.args.facts.now c.args.mode in
    let no_other : ℕ → Bool = λ q. is_empty (without c.args.ticket (users_of t q)) in
    let ids = c.args.ids.now in
    let all = c.in_ok-last.last.items in
    let once = c.keep_each_once.new.numbers.items in
    record {
      alone = λ q. same_ends once all q (c.keep_each_once.ensures.once q) ∙ ap (λ (xs : List NameId). has_end_of_fact xs q) c.in_ok-last.ensures ∙ filtered_ends no_other ids q;
      once = λ q. omega (arith, c.keep_each_once.ensures.once q, one_at_most (times_in_list q all));
      asked = c.in_ok-asked.ensures ∙ ap (flat_map (λ (x : NameId). leads_of c.args.mode t x.0)) c.deref.ensures.value;
    }
