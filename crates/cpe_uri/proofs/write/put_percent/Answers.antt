use Rattle.std.proofs.Common.{ℕ, ◌++◌, take, ap, ◌∙◌, arith}
use Rattle.cpe_uri.specs.Rewriting.{code_text}
use Rattle.cpe_uri.proofs.Rewritten.{digits_rewritten, cut_rewritten, put_prefix}
use Rattle.cpe_uri.proofs.write.put_percent.Goals as goal

pub returns-in-len2-up-clause-written : goal.returns-in-len2-up-clause-written
returns-in-len2-up-clause-written c =
    put_prefix _ _ _ _ _ (c.put_code.ensures.written ∙ ap (λ (n : ℕ). take c.args.at c.args.room.now ++ code_text n) c.code_of.ensures) (digits_rewritten c.args.behind.now c.in-len2-up.len_at_least)

pub returns-in_default-clause-written : goal.returns-in_default-clause-written
returns-in_default-clause-written c = put_prefix _ _ _ _ _ c.put_bare.ensures.written (cut_rewritten c.args.behind.now (omega arith))
