use Rattle.std.proofs.Common.{List, map}
use Rattle.json.specs.Token.{Token}
use Rattle.json.specs.Reads.{token_of}
use Rattle.json.specs.Tree.{json_tokens}
use Rattle.record_writer.specs.NameObject.{name_object}
use Rattle.record_writer.proofs.Pieces.{three}
use Rattle.record_writer.proofs.object.put_around_name.Goals as goal

pub returns : goal.returns
returns c =
    let before : List Token = map token_of c.args.before.now in
    let name : List Token = json_tokens (name_object c.args.name.now) in
    let behind : List Token = map token_of c.args.behind.now in (
      cc (c.in_ok-put.ensures.0, c.in_ok-put_name_object.ensures.0, c.in_ok-put-2.ensures.0),
      three c.args.writer.now.tokens before name behind c.put.new.writer.tokens c.put_name_object.new.writer.tokens c.put-2.new.writer.tokens c.in_ok-put.ensures.1 c.in_ok-put_name_object.ensures.1 c.in_ok-put-2.ensures.1,
    )
