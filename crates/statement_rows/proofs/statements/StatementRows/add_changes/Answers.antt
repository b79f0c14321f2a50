use Rattle.std.proofs.Common.{ℕ, ◌≤◌, List, ◌++◌, ap, subst, ◌∙◌, arith}
use Rattle.cpe_rows.specs.declared.reply.Changed.{Changed}
use Rattle.statement_rows.specs.State.{change_at, changed_places, has_changed}
use Rattle.statement_rows.proofs.ChangeLemmas.{changes_are, few_places, put_all, put_more}
use Rattle.statement_rows.proofs.statements.StatementRows.add_changes.Goals as goal

pub add_change-requires : goal.add_change-requires
add_change-requires c =
    let b = c.args.self.now in
    let few = few_places has_changed 0 b.rows in
    let count = c.changed_len-number-end.ensures in
    omega (arith, few, count, c.loop-number-test.true, c.loop-number.invariant.paid, c.requires.room)

pub loop-number-preserved : goal.loop-number-preserved
loop-number-preserved c =
    let b = c.args.self.now in
    let before = c.loop-number.invariant.paid in
    let spare = c.add_change.ensures.spare in
    record {
      added = put_more (change_at b) (changed_places b) c.loop-number.number c.change.result c.args.changes.now.list c.loop-number.changes.list c.add_change.new.changes.list c.change.ensures c.loop-number.invariant.added c.add_change.ensures.list;
      paid = omega (arith, before, spare);
    }

pub returns : goal.returns
returns c =
    let b = c.args.self.now in
    let old = c.args.changes.now.list in
    let all = subst (λ (n : ℕ). n ≤ c.loop-number.number) c.changed_len-number-end.ensures c.loop-number-test.false in
    put_all (change_at b) (changed_places b) c.loop-number.number old c.loop-number.changes.list all c.loop-number.invariant.added
    ∙ ap (λ (cs : List Changed). old ++ cs) (changes_are b)
