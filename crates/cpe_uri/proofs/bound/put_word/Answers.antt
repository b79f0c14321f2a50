use Rattle.std.proofs.Common.{ℕ, false, List, ◌≡◌, ◌≤◌, ◌++◌, ◌-◌, length, take, ap, ◌∙◌, arith, length-take}
use Rattle.cpe_values.specs.Spelling.{is_word}
use Rattle.cpe_values.proofs.SkippingLemmas.{length-skip_while}
use Rattle.cpe_uri.specs.Requoting.{requoted}
use Rattle.cpe_uri.proofs.Requoted.{word_requoted}
use Rattle.cpe_uri.proofs.Rewritten.{put_prefix}
use Rattle.cpe_uri.proofs.bound.put_word.Goals as goal

pub returns-clause-at : goal.returns-clause-at
returns-clause-at c =
    let s = c.args.bytes.now in
    let shorter : length c.skip_word-behind.result.now ≤ length s = rw c.skip_word-behind.ensures (length-skip_while is_word s) in
    let prefix : length c.prefix_of.result.now ≤ length s - length c.skip_word-behind.result.now = rw c.prefix_of.ensures (omega (arith, length-take (length s - length c.skip_word-behind.result.now) s)) in
    omega (arith, shorter, prefix, c.put.ensures.at)

pub returns-clause-shorter : goal.returns-clause-shorter
returns-clause-shorter c = rw c.skip_word-behind.ensures (length-skip_while is_word c.args.bytes.now)

pub returns-clause-written : goal.returns-clause-written
returns-clause-written c =
    let s = c.args.bytes.now in
    let rest = c.skip_word-behind.result.now in
    let all : requoted false s ≡ take (length s - length rest) s ++ requoted false rest = rw c.skip_word-behind.ensures (word_requoted s) in
    put_prefix _ _ _ _ _ (c.put.ensures.written ∙ ap (λ (u : List ℕ). take c.args.at c.args.room.now ++ u) c.prefix_of.ensures) all
