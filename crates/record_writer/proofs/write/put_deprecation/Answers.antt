use Rattle.std.proofs.Common.{◌≡◌, List, [], ◌∷◌, ◌++◌, codes, ap, sym, ◌∙◌}
use Rattle.std.specs.List.{flat_map}
use Rattle.json.specs.Token.{Token, string, key, begin_object, end_object, begin_array, end_array}
use Rattle.json.specs.Tree.{json_tokens}
use Rattle.cpe_records.specs.Words.{kind_word}
use Rattle.record_writer.specs.Written.{name_json, deprecation_json}
use Rattle.record_writer.proofs.Pieces.{listed}
use Rattle.record_writer.proofs.write.put_deprecation.Goals as goal

pub returns-in_ok-put-in-Some-2 : goal.returns-in_ok-put-in-Some-2
returns-in_ok-put-in-Some-2 c =
    let d = c.in-Some.deprecation in
    let start = c.args.writer.now.tokens in
    let opened = c.put-in-Some.new.writer.tokens in
    let named = c.put_names.new.writer.tokens in
    let ended = c.put-in-Some-2.new.writer.tokens in
    let prefix : List Token = begin_object ∷ key (codes "kind") ∷ string (kind_word d.kind) ∷ key (codes "successors") ∷ begin_array ∷ [] in
    let rest : List Token = end_object ∷ [] in
    let first : opened ≡ start ++ prefix = cc (c.in_ok-put-in-Some.ensures.1, c.kind_word.ensures) in
    let second : named ≡ opened ++ flat_map (λ n. json_tokens (name_json n)) d.successors = cc (c.in_ok-put_names-in-Some.ensures.1, c.as_slice.ensures) in (
      cc (c.in_ok-put-in-Some.ensures.0, c.in_ok-put_names-in-Some.ensures.0, c.in_ok-put-in-Some-2.ensures.0),
      listed name_json d.successors rest start prefix opened named ended first second c.in_ok-put-in-Some-2.ensures.1 ∙ ap (λ o. start ++ json_tokens (deprecation_json o)) (sym c.in-Some.is),
    )
