use Rattle.std.proofs.Common.{◌≡◌, ℕ, List, length, take, ◌++◌, sym, ap, ◌∙◌, arith}
use Rattle.std.proofs.lemmas.List.{append-nil}
use Rattle.cpe_uri.proofs.Rewritten.{rewritten_none}
use Rattle.cpe_uri.proofs.write.put_each.Goals as goal

pub returns-clause-written : goal.returns-clause-written
returns-clause-written c =
    let none : length c.loop-rest.rest.now ≡ 0 = omega (arith, c.in_default.len_below) in
    sym (append-nil (take c.loop-rest.at c.loop-rest.room))
    ∙ ap (λ (u : List ℕ). take c.loop-rest.at c.loop-rest.room ++ u) (sym (rewritten_none c.loop-rest.rest.now none))
    ∙ c.loop-rest.invariant.written
