use Rattle.std.proofs.Common.{◌≡◌, ap, cond, List, subst, sym, ◌∙◌, ◌+◌}
use Rattle.std.specs.Prelude.{Some}
use Rattle.std.specs.Map.{lookup}
use Rattle.cpe_rows.specs.Rows.{same_key}
use Rattle.cpe_rows.specs.declared.test.CheckKey.{CheckKey}
use Rattle.check_results.specs.Results.{AreLawfulResults}
use Rattle.check_results.specs.declared.kept.ResultRow.{ResultRow}
use Rattle.check_results.proofs.ResultLemmas.{AreKept-put}
use Rattle.check_results.proofs.checks.put_new.Goals as goal

pub returns-clause-kept : goal.returns-clause-kept
returns-clause-kept c =
    let key = c.args.key in
    let n = c.args.next.now in
    let rs = c.args.results.now.items in
    let es = c.args.by_key.now.entries in
    let r : ResultRow = record { ticket = n; key = key; truth = c.args.truth } in
    let copied = c.copy_in.ensures ∙ c.requires.copy in
    let same : c.copy_in.result ≡ key = cc copied in
    let put = λ (q : CheckKey). c.insert_key.ensures q ∙ ap (λ (k : CheckKey). cond (same_key k q) (Some n) (lookup (same_key q) es)) same in
    subst (λ (rs : List ResultRow). AreLawfulResults rs c.insert_key.new.by_key.entries (n + 1)) (sym c.push.ensures)
    (AreKept-put rs es c.insert_key.new.by_key.entries r c.requires.kept c.requires.new put)
