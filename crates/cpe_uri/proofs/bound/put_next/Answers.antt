use Rattle.std.proofs.Common.{sym, ◌∙◌}
use Rattle.cpe_uri.proofs.Requoted.{requoted_on}
use Rattle.cpe_uri.proofs.bound.put_next.Goals as goal

pub returns-then-quoted-clause-written : goal.returns-then-quoted-clause-written
returns-then-quoted-clause-written c =
    requoted_on c.args.quoted _ c.args.byte c.args.behind.now _ _ (sym c.if-quoted.true ∙ c.put_spelled-at.ensures.quotes) c.put_spelled-at.ensures.written

pub returns-clause-written : goal.returns-clause-written
returns-clause-written c =
    c.put_word-at.ensures.written
    ∙ requoted_on c.args.quoted _ c.args.byte c.args.behind.now _ _ (sym c.if-quoted.false ∙ c.put_spelled-at.ensures.quotes) c.put_spelled-at.ensures.written
