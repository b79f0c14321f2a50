use Rattle.std.proofs.Common.{◌≡◌, List, [], ◌∷◌, ◌++◌, codes}
use Rattle.json.specs.Token.{Token, string, key, begin_object, end_object}
use Rattle.json.specs.Tree.{json_tokens}
use Rattle.record_writer.proofs.Pieces.{three}
use Rattle.certificate_records.specs.Written.{why_json}
use Rattle.certificate_records.proofs.put.put_certificate_members.Goals as goal

pub returns : goal.returns
returns c =
    let start = c.args.writer.now.tokens in
    let t1 = c.put.new.writer.tokens in
    let t2 = c.put_why.new.writer.tokens in
    let t3 = c.put-2.new.writer.tokens in
    let opened : List Token = begin_object ∷ key (codes "do") ∷ string (codes "proof") ∷ key (codes "id") ∷ string c.args.certificate.now.id ∷ key (codes "why") ∷ [] in
    let why : List Token = json_tokens (why_json c.args.certificate.now.why) in
    let rest : List Token = end_object ∷ [] in
    let h1 : t1 ≡ start ++ opened = cc (c.in_ok-put.ensures.1, c.as_str.ensures) in (
      cc (c.in_ok-put.ensures.0, c.in_ok-put_why.ensures.0, c.in_ok-put-2.ensures.0),
      three start opened why rest t1 t2 t3 h1 c.in_ok-put_why.ensures.1 c.in_ok-put-2.ensures.1,
    )
