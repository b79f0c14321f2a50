use Rattle.std.proofs.Common.{◌≡◌, map, sym, ap, subst}
use Rattle.std.specs.List.{AllByRecursion}
use Rattle.cpe_rows.specs.Rows.{no_rows}
use Rattle.facts.specs.Facts.{HasFacts}
use Rattle.statement_rows.specs.State.{judge, StatementRow}
use Rattle.verdicts.specs.Verdicts.{IsNumbered, tickets_in, truths_in}
use Rattle.verdicts.proofs.verdicts.Verdicts.new.Goals as goal

pub returns : goal.returns
returns c names =
    let none = c.new.ensures.rows in
    record {
      statements = ap (map (λ (j : StatementRow). j.statement)) none;
      checks = c.new.ensures.checks;
      numbered = subst (AllByRecursion (IsNumbered names)) (sym none) tt;
      facts = subst (HasFacts names c.new-facts.result no_rows) (sym (ap tickets_in none)) (c.new-facts.ensures.facts names);
      needed = record { facts = c.new-facts.ensures.used; askers = c.new.ensures.asked };
      sound = c.lawful.ensures;
      judged = subst (AllByRecursion (λ (j : StatementRow). judge (truths_in c.new-facts.result) c.new.result.checks j ≡ j)) (sym none) tt;
    }
