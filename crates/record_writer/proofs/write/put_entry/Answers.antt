use Rattle.std.proofs.Common.{◌≡◌, List, [], ◌∷◌, ◌++◌, codes}
use Rattle.json.specs.Token.{Token, string, key, begin_object, end_object}
use Rattle.json.specs.Tree.{json_tokens}
use Rattle.record_writer.specs.Written.{name_json, deprecation_json, provenance_json}
use Rattle.record_writer.proofs.Pieces.{two}
use Rattle.record_writer.proofs.write.put_entry.Goals as goal

pub returns : goal.returns
returns c =
    let e = c.args.entry.now in
    let start = c.args.writer.now.tokens in
    let t1 = c.put.new.writer.tokens in
    let t2 = c.put_deprecation.new.writer.tokens in
    let t3 = c.put-2.new.writer.tokens in
    let t4 = c.put_name.new.writer.tokens in
    let t5 = c.put-3.new.writer.tokens in
    let t6 = c.put_provenance.new.writer.tokens in
    let t7 = c.put-4.new.writer.tokens in
    let before_deprecation : List Token = begin_object ∷ key (codes "deprecation") ∷ [] in
    let deprecation : List Token = json_tokens (deprecation_json e.deprecation) in
    let before_name : List Token = key (codes "name") ∷ [] in
    let name : List Token = json_tokens (name_json e.name) in
    let before_provenance : List Token = key (codes "provenance") ∷ [] in
    let provenance : List Token = json_tokens (provenance_json e.provenance) in
    let title : List Token = key (codes "title") ∷ string e.title ∷ end_object ∷ [] in
    let h7 : t7 ≡ t6 ++ title = cc (c.in_ok-put-4.ensures.1, c.as_str.ensures) in
    let h6 = two t5 provenance title t6 t7 c.in_ok-put_provenance.ensures.1 h7 in
    let h5 = two t4 before_provenance _ t5 t7 c.in_ok-put-3.ensures.1 h6 in
    let h4 = two t3 name _ t4 t7 c.in_ok-put_name.ensures.1 h5 in
    let h3 = two t2 before_name _ t3 t7 c.in_ok-put-2.ensures.1 h4 in
    let h2 = two t1 deprecation _ t2 t7 c.in_ok-put_deprecation.ensures.1 h3 in (
      cc (c.in_ok-put.ensures.0, c.in_ok-put_deprecation.ensures.0, c.in_ok-put-2.ensures.0, c.in_ok-put_name.ensures.0, c.in_ok-put-3.ensures.0, c.in_ok-put_provenance.ensures.0, c.in_ok-put-4.ensures.0),
      two start before_deprecation _ t1 t7 c.in_ok-put.ensures.1 h2,
    )
