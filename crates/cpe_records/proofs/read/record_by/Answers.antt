use Rattle.std.proofs.Common.{sym, subst}
use Rattle.serde_json.specs.View.{view}
use Rattle.cpe_records.specs.Gives.{ReadsMember}
use Rattle.cpe_records.specs.Reading.{record_by}
use Rattle.cpe_records.proofs.read.record_by.Goals as goal

pub returns-in-DropStatement : goal.returns-in-DropStatement
returns-in-DropStatement c = subst (λ v. ReadsMember c.drop_statement_record.result (record_by v c.args.format (view c.args.json.now))) (sym c.in-DropStatement.is) (c.drop_statement_record.ensures c.args.format)

pub returns-in-Check : goal.returns-in-Check
returns-in-Check c = subst (λ v. ReadsMember c.check_record.result (record_by v c.args.format (view c.args.json.now))) (sym c.in-Check.is) (c.check_record.ensures c.args.format)

pub returns-in-DropCheck : goal.returns-in-DropCheck
returns-in-DropCheck c = subst (λ v. ReadsMember c.drop_check_record.result (record_by v c.args.format (view c.args.json.now))) (sym c.in-DropCheck.is) (c.drop_check_record.ensures c.args.format)

pub returns-in-Verdict : goal.returns-in-Verdict
returns-in-Verdict c = subst (λ v. ReadsMember c.verdict_record.result (record_by v c.args.format (view c.args.json.now))) (sym c.in-Verdict.is) (c.verdict_record.ensures c.args.format)
