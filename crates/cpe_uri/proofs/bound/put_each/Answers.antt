use Rattle.std.proofs.Common.{rules, ◌≡◌, ◌++◌, ◌+◌, ◌∷◌, List, ℕ, length, take, drop, get_or, add-one, drop-cons, length-drop, sym, ap, ◌∙◌, arith}
use Rattle.cpe_uri.specs.Requoting.{requoted}
use Rattle.cpe_uri.proofs.Requoted.{requoted_on, requoted_done}
use Rattle.cpe_uri.proofs.bound.put_each.Goals as goal

pub loop-byte-preserved : goal.loop-byte-preserved
loop-byte-preserved c =
    let s = c.args.bytes.now in
    let i = c.loop-byte.byte-index in
    let more : drop i s ≡ get_or s i 0 ∷ drop (i + 1) s = rw add-one (drop-cons s i 0 c.loop-byte-test.true) in
    record {
      at = omega arith;
      room = search rules;
      written =
          requoted_on c.loop-byte.quoted _ (get_or s i 0) (drop (i + 1) s) _ _ c.put_spelled.ensures.quotes c.put_spelled.ensures.written
          ∙ ap (λ (u : List ℕ). take c.loop-byte.at c.loop-byte.room ++ requoted c.loop-byte.quoted u) (sym more)
          ∙ c.loop-byte.invariant.written;
    }

pub returns-clause-written : goal.returns-clause-written
returns-clause-written c =
    let none : length (drop c.loop-byte.byte-index c.args.bytes.now) ≡ 0 = omega (arith, length-drop c.loop-byte.byte-index c.args.bytes.now, c.loop-byte-test.false) in
    sym (requoted_done c.loop-byte.quoted _ _ none) ∙ c.loop-byte.invariant.written
