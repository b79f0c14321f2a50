use Rattle.std.proofs.Common.{◌≡◌, ℕ, true, false, None, sym, subst}
use Rattle.facts.specs.fact_rows.Facts.{fact_at, has_end_of_fact}
use Rattle.facts.specs.Facts.{is_used, table_of}
use Rattle.cpe_rows.specs.Causes.{statement_causes}
use Rattle.cpe_rows.specs.Step.{first_some}
use Rattle.verdicts.specs.Verdicts.{HasVerdicts, statements_in, tickets_in, VerdictsNow}
use Rattle.verdicts.proofs.AdditionLemmas.{without_cause}
use Rattle.verdicts.proofs.verdicts.Verdicts.ready_rest.Goals as goal

pub ready_facts-requires-clause-none : goal.ready_facts-requires-clause-none
ready_facts-requires-clause-none c = subst (λ (w : VerdictsNow). (q : ℕ) → has_end_of_fact c.args.fresh.now q ≡ true → fact_at (table_of w.facts c.args.statement.mode) q ≡ None) (sym c.self.view_is) c.requires.unused

pub ready_facts-requires-clause-whole : goal.ready_facts-requires-clause-whole
ready_facts-requires-clause-whole c =
    subst (λ (w : VerdictsNow). (q : ℕ) → has_end_of_fact c.args.ids.now q ≡ true → has_end_of_fact c.args.fresh.now q ≡ false → is_used (table_of w.facts c.args.statement.mode) q ≡ true) (sym c.self.view_is) c.requires.whole

pub ready_facts-requires-clause-rows_before : goal.ready_facts-requires-clause-rows_before
ready_facts-requires-clause-rows_before c =
    let s = c.requires.rows_before in
    let h = subst (λ (w : VerdictsNow). HasVerdicts c.args.registry.now.table w s.0) (sym c.self.view_is) s.2 in
    (s.0, tickets_in c.self.inside.statements.rows, s.1, h.facts)

pub ready_statement-requires-clause-new : goal.ready_statement-requires-clause-new
ready_statement-requires-clause-new c =
    (without_cause c.self.inside.statements.rows c.args.statement (subst (λ (w : VerdictsNow). first_some (statement_causes (statements_in w) c.args.statement) ≡ None) (sym c.self.view_is) c.requires.none)).0

pub ready_statement-requires-clause-few : goal.ready_statement-requires-clause-few
ready_statement-requires-clause-few c =
    (without_cause c.self.inside.statements.rows c.args.statement (subst (λ (w : VerdictsNow). first_some (statement_causes (statements_in w) c.args.statement) ≡ None) (sym c.self.view_is) c.requires.none)).1
