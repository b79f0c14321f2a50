use Rattle.std.proofs.Common.{◌≡◌, ℕ, Ok, Err, IfSome, MatchResult, Result, sym, subst, ◌∙◌}
use Rattle.cpe_name.specs.Eleven.{Values}
use Rattle.cpe_name.specs.Borrowed.{name_lent}
use Rattle.cpe_uri.proofs.EitherBinding.{any_uri, any_fs}
use Rattle.cpe_uri.proofs.lend.lend_any.Goals as goal

pub returns-then-begins_as_uri-clause-read : goal.returns-then-begins_as_uri-clause-read
returns-then-begins_as_uri-clause-read c =
    subst (λ (read : Result Values ℕ). MatchResult c.lend_uri.result (λ lent. IfSome lent (λ name. read ≡ Ok (name_lent name))) (λ place. read ≡ Err place))
    (sym (any_uri c.args.text.now (sym c.begins_as_uri.ensures ∙ c.if-begins_as_uri.true)))
    c.lend_uri.ensures.read

pub returns-else-begins_as_uri-clause-read : goal.returns-else-begins_as_uri-clause-read
returns-else-begins_as_uri-clause-read c =
    subst (λ (read : Result Values ℕ). MatchResult c.lend_fs.result (λ lent. IfSome lent (λ name. read ≡ Ok (name_lent name))) (λ place. read ≡ Err place))
    (sym (any_fs c.args.text.now (sym c.begins_as_uri.ensures ∙ c.if-begins_as_uri.false)))
    c.lend_fs.ensures.read
