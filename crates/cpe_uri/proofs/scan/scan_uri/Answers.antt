use Rattle.std.proofs.Common.{sym, ◌∙◌}
use Rattle.std.proofs.lemmas.Bool.{eqb-true}
use Rattle.std.proofs.lemmas.List.{nil_from_length}
use Rattle.cpe_uri.proofs.Scanned.{found, end_leaves}
use Rattle.cpe_uri.proofs.scan.scan_uri.Goals as goal

pub returns-then-not-is_empty-clause-refused : goal.returns-then-not-is_empty-clause-refused
returns-then-not-is_empty-clause-refused c =
    end_leaves c.args.text.now c.in_ok-rest.rest.now c.in_ok-written.behind.now c.in_ok-rest.ensures c.in_ok-written.ensures.scans (sym c.is_empty.ensures ∙ c.if-not-is_empty.true)

pub returns-clause-found : goal.returns-clause-found
returns-clause-found c =
    found c.args.text.now c.in_ok-rest.rest.now c.in_ok-written.behind.now c.in_ok-written.written c.in_ok-rest.ensures (nil_from_length c.in_ok-written.behind.now (eqb-true _ 0 (sym c.is_empty.ensures ∙ c.if-not-is_empty.false))) c.in_ok-written.ensures.scans c.in_ok-written.ensures.found
