use Rattle.std.proofs.Common.{sym, ◌∙◌}
use Rattle.cpe_fs.proofs.Whole.{end_leaves, found}
use Rattle.cpe_fs.proofs.scan.scan_fs.Goals as goal

pub returns-then-not-is_empty-clause-refused : goal.returns-then-not-is_empty-clause-refused
returns-then-not-is_empty-clause-refused c =
    end_leaves c.args.text.now c.in_ok-scan_literal.field-0.now c.in_ok-components.behind.now c.in_ok-scan_literal.ensures c.in_ok-components.ensures.scans (sym c.is_empty.ensures ∙ c.if-not-is_empty.true)

pub returns-clause-found : goal.returns-clause-found
returns-clause-found c =
    found c.args.text.now c.in_ok-scan_literal.field-0.now c.in_ok-components.behind.now c.in_ok-components.components c.in_ok-scan_literal.ensures c.in_ok-components.ensures.scans (sym c.is_empty.ensures ∙ c.if-not-is_empty.false)
    c.in_ok-components.ensures.texts
