use Rattle.std.proofs.Common.{◌≡◌, ◌++◌, map}
use Rattle.json.specs.Reads.{token_of}
use Rattle.record_writer.specs.WrittenRecord.{key_tokens}
use Rattle.record_writer.proofs.Pieces.{three}
use Rattle.record_writer.proofs.object.put_around_key.Goals as goal

pub returns : goal.returns
returns c =
    let opened = c.put.new.writer.tokens in
    let keyed = c.put-2.new.writer.tokens in
    let members : keyed ≡ opened ++ key_tokens c.args.key.now = cc (c.in_ok-put-2.ensures.1, c.as_str.ensures, c.as_str-2.ensures, c.as_str-3.ensures) in (
      cc (c.in_ok-put.ensures.0, c.in_ok-put-2.ensures.0, c.in_ok-put-3.ensures.0),
      three c.args.writer.now.tokens (map token_of c.args.before.now) (key_tokens c.args.key.now) (map token_of c.args.behind.now) opened keyed c.put-3.new.writer.tokens
          c.in_ok-put.ensures.1 members c.in_ok-put-3.ensures.1,
    )
